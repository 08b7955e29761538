use Rattle.std.proofs.Common.{◌∙◌, ◌++◌, List, ap, map}
use Rattle.std.specs.Borrow.{Bor}
use Rattle.pc_tree.specs.Lists.{name_seen}
use Rattle.pc_tree.specs.declared.tree.Name.{Name as RustName}
use Rattle.pc_tree.specs.Tree.{param_of}
use Rattle.pc_scope.specs.Bindings.{param_names}
use Rattle.pc_name_details.proofs.bound_names.param_names.Goals as goal

pub returns : goal.returns
returns c = c.in_ok-add_params.ensures
    ∙ ap (λ (l : List (Bor RustName)). map name_seen l ++ param_names (map param_of c.args.params.now)) c.new-names.ensures.items
