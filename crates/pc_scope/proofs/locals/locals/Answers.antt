use Rattle.std.proofs.Common.{◌∙◌, ap, map, fold, ◌++◌, [], List, ℕ}
use Rattle.pc_tree.specs.Tree.{Name, param_of, stmts_of_list}
use Rattle.pc_tree.specs.Stopping.{bound_by}
use Rattle.pc_tree.specs.Stopping.{self_before}
use Rattle.pc_scope.specs.Bindings.{texts, param_names}
use Rattle.pc_tree.specs.Lists.{name_seen}
use Rattle.pc_scope.specs.Internal.WalkViews.{locals_in, with_new_local}
use Rattle.pc_scope.proofs.TextSets.{in_turn}
use Rattle.pc_scope.proofs.locals.locals.Goals as goal

pub returns : goal.returns
returns c =
    let self = self_before c.args.is_method in
    let params = texts (param_names (map param_of c.args.def.now.params.items)) in
    let body = bound_by (stmts_of_list c.args.def.now.body.items) in
    let names = rw c.deref.ensures.value at c.in_ok-add_bound.ensures
    ∙ ap (λ ns. map name_seen ns ++ body) c.new-names.ensures.items in
    rw (c.deref-2.ensures.value, c.deref-3.ensures.value) at c.in_ok-bind_locals.ensures
    ∙ ap (λ (ks : List (List ℕ)). fold with_new_local (fold with_new_local (fold with_new_local ks self) params)
    (texts (map name_seen c.add_bound.new.names.items))) c.in_ok-locals.ensures
    ∙ ap (λ (ns : List Name). fold with_new_local (fold with_new_local (fold with_new_local [] self) params) (texts ns)) names
    ∙ in_turn self params (texts body)
