use Rattle.std.proofs.Common.{◌≡◌, ◌++◌, ◌∙◌, ap, map, subst, List}
use Rattle.std.specs.Prelude.{OnOk}
use Rattle.pc_tree.specs.declared.code.Code.TheVariants.{E01}
use Rattle.pc_tree.specs.Lists.{name_seen}
use Rattle.pc_tree.specs.Tree.{Name, param_of}
use Rattle.pc_tree.specs.Stopping.{bound_again, name_of_param, self_before}
use Rattle.pc_tree.specs.Code.{at_code}
use Rattle.pc_stopping.proofs.twice.find_parameters_again.Goals as goal

pub returns : goal.returns
returns c =
    let names = c.in_ok-add_params.ensures ∙ ap (λ ns. map name_seen ns ++ map name_of_param
    (map param_of c.args.params.now)) c.new-names.ensures.items in
    subst (λ (ns : List Name). OnOk c.find_named_again.result (c.find_named_again.new.found.items
    ≡ c.args.found.now.items ++ at_code E01 (bound_again (self_before c.args.is_method) ns))) names
    (rw c.deref.ensures.value at c.find_named_again.ensures)
