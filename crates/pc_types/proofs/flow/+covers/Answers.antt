use Rattle.std.proofs.Common.{◌≡◌, IsTrue, arith}
use Rattle.std.proofs.lemmas.Grind.{common_steps}
use Rattle.pc_types.specs.Internal.HeadFlow.{c_from_any, c_never, c_object, c_both, c_left, c_right}
use Rattle.pc_types.specs.declared.boxed.BoxType.TheVariants as ty
use Rattle.pc_types.proofs.Truth.{yes_is, both_second, both_first, either_first, either_second, through_is}
use Rattle.pc_types.proofs.Heads.{is_left, is_right, covers_is_fits, covers_any, covers_parts, covers_member}
use Rattle.pc_types.proofs.Heads.{is_no_union}
use Rattle.pc_types.proofs.flow.+covers.Goals as goal

pub returns-then-matches : goal.returns-then-matches
returns-then-matches t c =
    let e : c.args.s.now ≡ ty.Any = grind (arith, common_steps) in
    rw e (rw c.if-gradual.true (yes_is c_from_any))

pub returns-in-Never : goal.returns-in-Never
returns-in-Never t c = rw c.in-Never.is (yes_is c_never)

pub returns-then-covers : goal.returns-then-covers
returns-then-covers t c =
    rw c.in-Union.is
    (both_second c.if-covers.true (rw c.deref.ensures at c.covers.ensures)
    (rw c.deref-then-covers.ensures at c.covers-then-covers.ensures) (λ h. covers_parts h) (λ x y. c_both x y))

pub returns-else-covers : goal.returns-else-covers
returns-else-covers t c = rw c.in-Union.is (both_first c.if-covers.false (rw c.deref.ensures at c.covers.ensures)
    (λ h. (covers_parts h).0))

pub returns-in-Any-t : goal.returns-in-Any-t
returns-in-Any-t t c = rw c.in-Any-t.is (yes_is (covers_any c.args.gradual))

pub returns-in-Object : goal.returns-in-Object
returns-in-Object t c = rw c.in-Object.is (yes_is c_object)

pub returns-then-covers-2 : goal.returns-then-covers-2
returns-then-covers-2 t c = rw c.in-Union-t.is (either_first c.if-covers-2.true
    (rw c.deref-in-Union-t.ensures at c.covers-in-Union-t.ensures) (λ h. c_left h))

pub returns-else-covers-2 : goal.returns-else-covers-2
returns-else-covers-2 t c =
    let a : IsTrue c.args.gradual → c.args.s.now ≡ ty.Any → ⊥ = grind (arith, common_steps) in
    let l = is_left c.args.gradual c.args.s.now a c.in_default-s.not-Never
    (is_no_union c.args.s.now c.in_default-s.not-Union) in
    rw c.in-Union-t.is
    (either_second c.if-covers-2.false (rw c.deref-in-Union-t.ensures at c.covers-in-Union-t.ensures)
    (rw c.deref-else-covers-2.ensures at c.covers-else-covers-2.ensures) (λ h. covers_member h l) (λ h. c_right h))

pub returns-in_default-t : goal.returns-in_default-t
returns-in_default-t t c =
    let a : IsTrue c.args.gradual → c.args.s.now ≡ ty.Any → ⊥ = grind (arith, common_steps) in
    let p = is_left c.args.gradual c.args.s.now a c.in_default-s.not-Never
    (is_no_union c.args.s.now c.in_default-s.not-Union) in
    let q = is_right c.args.gradual c.args.t.now c.in_default-t.not-Any c.in_default-t.not-Object
    (is_no_union c.args.t.now c.in_default-t.not-Union) in
    through_is c.head_fits.ensures (covers_is_fits c.args.parents.now _ _ p q)
