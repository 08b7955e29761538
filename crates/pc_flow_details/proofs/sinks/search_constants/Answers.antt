use Rattle.std.proofs.Common.{◌≡◌, ◌∙◌, ◌+◌, List, ap, false, map, drop, subst}
use Rattle.std.specs.Borrow.{Bor}
use Rattle.pc_tree.specs.Tree.{Constant, expr_of}
use Rattle.pc_tree.specs.declared.tree.Constant.{Constant as RustConstant}
use Rattle.pc_scope.specs.declared.resolution.Owner.TheVariants as owners
use Rattle.pc_scope.specs.Expressions.{parts_in}
use Rattle.pc_detail_facts.specs.Held.{constant_lent}
use Rattle.pc_flow_details.specs.Kept.{first_of_both, flows_to_sinks, flows_kept, taken_below, taken_in}
use Rattle.pc_flow_details.proofs.Kept.{end_of, next_of, none_below, one_below}
use Rattle.pc_flow_details.proofs.sinks.search_constants.Goals as goal

pub loop-constant-preserved : goal.loop-constant-preserved
loop-constant-preserved c =
    let f = c.args.facts.now in
    let cs = c.deref-constant-items.result.now in
    let i = c.loop-constant.constant-index in
    let e = expr_of c.constant-item.result.now.value in
    next_of f (λ (xs : List (Bor RustConstant)). taken_below f owners.Module
    (map (λ (x : Constant). x.value) (map constant_lent xs))) (taken_in f owners.Module (parts_in false e)) cs i
    c.constant-item.result _ _ _
    (one_below f owners.Module e (map (λ (x : Constant). x.value) (map constant_lent (drop (i + 1) cs))))
    c.loop-constant-test.true c.constant-item.is c.loop-constant.invariant c.in_ok-search.ensures

pub returns : goal.returns
returns c =
    let f = c.args.facts.now in
    subst (λ (l : List Constant). flows_kept c.loop-constant.sinks ≡ first_of_both (flows_kept c.args.sinks.now)
    (flows_to_sinks f (taken_below f owners.Module (map (λ (x : Constant). x.value) l))))
    (ap (λ (l : List (Bor RustConstant)). map constant_lent l) c.deref-constant-items.ensures.value
    ∙ c.requires.definitions.constants)
    (end_of f (λ (xs : List (Bor RustConstant)). taken_below f owners.Module
    (map (λ (x : Constant). x.value) (map constant_lent xs))) c.deref-constant-items.result.now
    c.loop-constant.constant-index _ _ (none_below f owners.Module) c.loop-constant-test.false
    c.loop-constant.invariant)
