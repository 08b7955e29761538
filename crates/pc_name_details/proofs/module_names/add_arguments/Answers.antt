use Rattle.std.proofs.Common.{◌∙◌, List, ap, map}
use Rattle.std.specs.Borrow.{Bor}
use Rattle.pc_tree.specs.declared.tree.Name.{Name as RustName}
use Rattle.pc_tree.specs.Lists.{name_seen}
use Rattle.pc_tree.specs.Tree.{Name}
use Rattle.pc_name_details.specs.declared.repeated.Together.TheVariants as bound
use Rattle.pc_name_details.specs.Naming.{together_of}
use Rattle.pc_name_details.proofs.NamingSteps.{together_as}
use Rattle.pc_detail_facts.proofs.Results.{on_ok}
use Rattle.pc_name_details.proofs.module_names.add_arguments.Goals as goal

pub returns : goal.returns
returns c = on_ok c.add_all_twice.result (together_as c.args.facts.now c.args.offers.now c.add_all_twice.new.offers _ _
    (ap (λ (ns : List Name). together_of bound.Arguments ns)
    (ap (λ (l : List (Bor RustName)). map name_seen l) c.deref.ensures.value ∙ c.in_ok-names.ensures)))
    c.add_all_twice.ensures
