use Rattle.std.proofs.Common.{◌≡◌, ◌∷◌, All, arith, map, refl, sym, subst, ◌∙◌}
use Rattle.std.proofs.lemmas.List.{take_all}
use Rattle.std.proofs.lemmas.List.Elements.{All-head, All-cons}
use Rattle.pc_types.specs.JoinedTypes.{types_joined}
use Rattle.pc_intern.specs.Store.{IsInterned, tree_of_type}
use Rattle.pc_intern.proofs.Held.{within, meant}
use Rattle.pc_intern.proofs.SameNumbers.{HasNumber, numbered_so, types_so}
use Rattle.pc_intern.proofs.store.InternStore.same_joined.Goals as goal

pub held-requires : goal.held-requires
held-requires c =
    let first = c.in-Some.first.now in
    let others = c.in-Some.others.now in
    let h = All-head (IsInterned c.args.self.now) first others
    (subst (All (IsInterned c.args.self.now)) c.in-Some.ensures.cases.0 c.requires) in
    within c.args.self.now first.number (tree_of_type first) h.at

pub loop-ty-preserved : goal.loop-ty-preserved
loop-ty-preserved c = numbered_so c.in-Some.first.now.number c.in-Some.others.now c.loop-ty.ty-index c.ty-item.result
    c.loop-ty-test.true c.ty-item.is (omega arith) c.loop-ty.invariant

pub returns-clause-value : goal.returns-clause-value
returns-clause-value c = λ bases.
    let types = c.args.self.now in
    let first = c.in-Some.first.now in
    let others = c.in-Some.others.now in
    let is : c.args.types.now ≡ first ∷ others = c.in-Some.ensures.cases.0 in
    let held = subst (All (IsInterned types)) is c.requires in
    let h = All-head (IsInterned types) first others held in
    let all = All-cons (HasNumber first.number) first others refl
    (subst (All (HasNumber first.number)) (take_all c.loop-ty.ty-index others (omega arith)) c.loop-ty.invariant) in
    meant types c.held.result first.number (tree_of_type first) c.held.ensures.held c.held.ensures.number h.at
    ∙ subst (λ tys. tree_of_type first ≡ types_joined bases (map tree_of_type tys)) (sym is)
    (types_so bases types first.number (tree_of_type first) h.at h.small (first ∷ others) (omega arith) held all)
