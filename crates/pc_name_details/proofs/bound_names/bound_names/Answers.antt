use Rattle.std.proofs.Common.{◌∙◌, ◌++◌, List, ap, map}
use Rattle.std.specs.Borrow.{Bor}
use Rattle.pc_tree.specs.Lists.{name_seen}
use Rattle.pc_tree.specs.declared.tree.Name.{Name as RustName}
use Rattle.pc_detail_facts.specs.Held.{body_of}
use Rattle.pc_detail_rules.specs.Names.{names_of_body}
use Rattle.pc_name_details.proofs.bound_names.bound_names.Goals as goal

pub returns : goal.returns
returns c = c.in_ok-add_names_bound.ensures
    ∙ ap (λ (l : List (Bor RustName)). map name_seen l ++ names_of_body (body_of c.args.body)) c.new-names.ensures.items
