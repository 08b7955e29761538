use Rattle.std.proofs.Common.{◌≡◌, ◌∙◌, ◌++◌, ◌∷◌, [], List, ap, map, refl, sym, false}
use Rattle.std.proofs.lemmas.List.{append-nil}
use Rattle.std.specs.Prelude.{flat_map}
use Rattle.pc_tree.specs.Tree.{Constant, Expr}
use Rattle.pc_scope.specs.Expressions.{parts_in}
use Rattle.pc_scope.specs.declared.resolution.Owner.TheVariants as owners
use Rattle.pc_detail_facts.specs.declared.definitions.OwnedExpr.{OwnedExpr as RustOwned}
use Rattle.pc_detail_facts.specs.Held.{constant_lent, owned_of}
use Rattle.pc_detail_rules.specs.Nodes.{owned}
use Rattle.pc_detail_nodes.specs.NodesHeld.{expr_lent}
use Rattle.pc_detail_nodes.proofs.exprs.all_exprs.Goals as goal

flat_of_map : {A B C : Type 0} (g : B → List C) (h : A → B) (xs : List A)
    → flat_map g (map h xs) ≡ flat_map (λ x. g (h x)) xs
flat_of_map g h [] = refl
flat_of_map g h (x ∷ xs) = ap (λ l. g (h x) ++ l) (flat_of_map g h xs)

pub loop-body-init : goal.loop-body-init
loop-body-init c =
    let cs = map constant_lent c.args.constants.now in
    let all : List Expr = flat_map (λ (x : Constant). parts_in false x.value) cs in
    let parts : map expr_lent c.deref-2.result.now ≡ all =
    rw c.deref-2.ensures.value (c.in_ok-parts.ensures
    ∙ ap (flat_map (parts_in false)) (rw c.deref.ensures.value c.in_ok-values.ensures)
    ∙ flat_of_map (parts_in false) (λ (x : Constant). x.value) cs) in
    c.in_ok-add_owned.ensures
    ∙ ap (λ (l : List RustOwned). map owned_of l ++ map (owned owners.Module) (map expr_lent c.deref-2.result.now))
    c.new-all.ensures.items
    ∙ ap (map (owned owners.Module)) parts ∙ sym (append-nil (map (owned owners.Module) all))
