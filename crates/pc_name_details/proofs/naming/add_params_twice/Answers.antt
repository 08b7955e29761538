use Rattle.std.proofs.Common.{◌∙◌, Bool, List, ap, ap₂, map}
use Rattle.std.specs.Borrow.{Bor}
use Rattle.pc_tree.specs.declared.tree.Name.{Name as RustName}
use Rattle.pc_tree.specs.Lists.{name_seen}
use Rattle.pc_tree.specs.declared.tree.Param.{Param as RustParam}
use Rattle.pc_tree.specs.Tree.{Name, param_of}
use Rattle.pc_scope.specs.Bindings.{param_names}
use Rattle.pc_name_details.specs.declared.repeated.Together.TheVariants as bound
use Rattle.pc_name_details.specs.Naming.{together_of}
use Rattle.pc_name_details.proofs.NamingSteps.{together_as}
use Rattle.pc_detail_facts.proofs.Results.{on_ok}
use Rattle.pc_name_details.proofs.naming.add_params_twice.Goals as goal

pub returns : goal.returns
returns c = on_ok c.add_all_twice.result (together_as c.args.facts.now c.args.offers.now c.add_all_twice.new.offers _ _
    (ap₂ (λ (t : Bool) (ns : List Name). together_of (bound.Parameters t) ns) c.is_method.ensures
    (ap (λ (l : List (Bor RustName)). map name_seen l) c.deref-2.ensures.value ∙ c.in_ok-names.ensures
    ∙ ap (λ (l : List RustParam). param_names (map param_of l)) c.deref.ensures.value))) c.add_all_twice.ensures
