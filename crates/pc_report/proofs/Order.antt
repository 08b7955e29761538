-- The order of findings is that of their starts, ends and codes.
use Rattle.std.proofs.Common.{◌≡◌, ℕ, ◌<◌, List, [], ◌∷◌, Bool, true, arith, Less, Equal, Greater, refl, sym, ap, ◌∙◌}
use Rattle.std.proofs.Common.{inl, inr}
use Rattle.std.proofs.lemmas.List.Kept.{IsStrictlySortedBy-dedup}
use Rattle.std.specs.Prelude.{◌⊎◌}
use Rattle.std.specs.declared.cmp.Ordering.{Ordering}
use Rattle.std.specs.Ordering.{is_eq, ordering_then, nat_cmp, MatchOrdering}
use Rattle.std.specs.List.{dedup}
use Rattle.std.specs.List.Sorted.{IsSorted, IsStrictlySortedBy}
use Rattle.std.proofs.lemmas.Cmp.{ranked}
use Rattle.pc_source.specs.declared.place.Place.{Place}
use Rattle.pc_tree.specs.declared.code.Code.{Code}
use Rattle.pc_tree.specs.declared.code.Finding.{Finding}
use Rattle.pc_tree.specs.contracts.code.FindingOrd.TheImpl.{cmp-value}
use Rattle.pc_tree.specs.contracts.code.FindingOrd.TheImpl.Laws.{total-law, matches_eq-law}
use Rattle.pc_tree.specs.contracts.code.FindingPartialEq.TheImpl.{eq-value}
use Rattle.std.specs.Cmp.Lexicographic.{slice_cmp}
use Rattle.pc_tree.specs.Code.{finding, text_of}
use Rattle.pc_report.proofs.CodeOrder.{in_text_order, equal_code}
use Rattle.pc_report.specs.Report.{IsBefore, IsInOrder}

abbrev pub finding_cmp : Finding → Finding → Ordering
finding_cmp = cmp-value.it

abbrev pub finding_eq : Finding → Finding → Bool
finding_eq = eq-value.it

pub cmp_is : (p q : Place) (c d : Code) → finding_cmp (finding p c) (finding q d) ≡ ordering_then
    (ordering_then (nat_cmp p.start q.start) (nat_cmp p.end q.end)) (slice_cmp nat_cmp (text_of c) (text_of d))
cmp_is p q c d = ap (λ o. ordering_then (ordering_then (nat_cmp p.start q.start) (nat_cmp p.end q.end)) o)
    (in_text_order c d)

pub is_equal : (o : Ordering) → is_eq o ≡ true → o ≡ Equal
is_equal Less h = cc
is_equal Equal h = refl
is_equal Greater h = cc

then_less : (a b : Ordering) → ordering_then a b ≡ Less → (a ≡ Less) ⊎ ((a ≡ Equal) × (b ≡ Less))
then_less Less b h = inl refl
then_less Equal b h = inr (refl, h)
then_less Greater b h = cc

pub then_equal : (a b : Ordering) → ordering_then a b ≡ Equal → (a ≡ Equal) × (b ≡ Equal)
then_equal Less b h = cc
then_equal Equal b h = (refl, h)
then_equal Greater b h = cc

at_less : (P Q R : Type 0) (o : Ordering) → MatchOrdering o P Q R → o ≡ Less → P
at_less P Q R Less m h = m
at_less P Q R Equal m h = cc
at_less P Q R Greater m h = cc

at_equal : (P Q R : Type 0) (o : Ordering) → MatchOrdering o P Q R → o ≡ Equal → Q
at_equal P Q R Less m h = cc
at_equal P Q R Equal m h = m
at_equal P Q R Greater m h = cc

at_self : (x : ℕ) (o : Ordering) → MatchOrdering o (x < x) (x ≡ x) (x < x) → o ≡ Equal
at_self x Less m = absurd (omega arith)
at_self x Equal m = refl
at_self x Greater m = absurd (omega arith)

pub nat_less : (x y : ℕ) → nat_cmp x y ≡ Less → x < y
nat_less x y h = at_less (x < y) (x ≡ y) (y < x) (nat_cmp x y) (ranked x y (nat_cmp x y) refl) h

pub nat_equal : (x y : ℕ) → nat_cmp x y ≡ Equal → x ≡ y
nat_equal x y h = at_equal (x < y) (x ≡ y) (y < x) (nat_cmp x y) (ranked x y (nat_cmp x y) refl) h

pub nat_self : (x : ℕ) → nat_cmp x x ≡ Equal
nat_self x = at_self x (nat_cmp x x) (ranked x x (nat_cmp x x) refl)

before : (p q : Place) (c d : Code) → finding_cmp (finding p c) (finding q d) ≡ Less
    → IsBefore (finding p c) (finding q d)
before p q c d h = elim (then_less (ordering_then (nat_cmp p.start q.start) (nat_cmp p.end q.end))
    (slice_cmp nat_cmp (text_of c) (text_of d)) (rw (cmp_is p q c d) at h)) [
      | inl place ↦ elim (then_less (nat_cmp p.start q.start) (nat_cmp p.end q.end) place) [
        | inl start ↦ inl (nat_less p.start q.start start)
        | inr rest ↦ inr (nat_equal p.start q.start rest.0, inl (nat_less p.end q.end rest.1))
      ]
      | inr rest ↦
          let place = then_equal (nat_cmp p.start q.start) (nat_cmp p.end q.end) rest.0 in
          inr (nat_equal p.start q.start place.0, inr (nat_equal p.end q.end place.1, rest.1))
    ]

pub less_is_before : (f g : Finding) → finding_cmp f g ≡ Less → IsBefore f g
less_is_before f g h = before f.place g.place f.code g.code h

pub equal_is_same : (f g : Finding) → finding_cmp f g ≡ Equal → f ≡ g
equal_is_same f g h =
    let whole = then_equal (ordering_then (nat_cmp f.place.start g.place.start) (nat_cmp f.place.end g.place.end))
    (slice_cmp nat_cmp (text_of f.code) (text_of g.code)) (rw (cmp_is f.place g.place f.code g.code) at h) in
    let place = then_equal (nat_cmp f.place.start g.place.start) (nat_cmp f.place.end g.place.end) whole.0 in
    let start : f.place.start ≡ g.place.start = nat_equal f.place.start g.place.start place.0 in
    let end : f.place.end ≡ g.place.end = nat_equal f.place.end g.place.end place.1 in
    let code : f.code ≡ g.code = equal_code f.code g.code whole.1 in
    λ i. record { place = record { start = start i; end = end i }; code = code i }

in_order : (fs : List Finding) → IsStrictlySortedBy finding_cmp fs → IsInOrder fs
unfolding IsStrictlySortedBy
in_order [] h = tt
in_order (f ∷ []) h = tt
in_order (f ∷ g ∷ fs) h = (less_is_before f g h.0.0, in_order (g ∷ fs) h.1)

pub same_finding : (f g : Finding) → finding_eq f g ≡ true → f ≡ g
same_finding f g h = equal_is_same f g (is_equal (finding_cmp f g) (sym (matches_eq-law f g) ∙ h))

-- sorted findings, without repeats
pub sorted_in_order : (fs : List Finding) → IsSorted finding_cmp fs → IsInOrder (dedup finding_eq fs)
sorted_in_order fs h = in_order (dedup finding_eq fs) (IsStrictlySortedBy-dedup total-law matches_eq-law fs h)
