-- The order of entries is that of what they tell, so that entries sorted without repeats tell facts in order; and
-- sorting and removing repeats keep what entries tell.
use Rattle.std.proofs.Common.{◌≡◌, ℕ, zero, suc, List, [], ◌∷◌, Option, Some, None, Bool, true, Less, Equal, Greater}
use Rattle.std.proofs.Common.{refl, sym, ap, ◌∙◌, subst, inl, inr, arith, Contains}
use Rattle.std.specs.Prelude.{◌⊎◌, ◌↔◌, map, option_map}
use Rattle.std.specs.Rc.{rc_str_bytes}
use Rattle.std.specs.declared.rc.RcStr.{RcStr}
use Rattle.std.specs.declared.alloc.Global.{Global}
use Rattle.std.specs.declared.cmp.Ordering.{Ordering}
use Rattle.std.specs.Ordering.{is_eq, ordering_then, nat_cmp}
use Rattle.std.specs.Option.{option_cmp}
use Rattle.std.specs.Cmp.Lexicographic.{slice_cmp}
use Rattle.std.specs.List.{AllByRecursion, dedup}
use Rattle.std.specs.List.Sorted.{IsSorted, IsStrictlySortedBy, IsPermutation}
use Rattle.std.proofs.lemmas.List.Kept.{IsStrictlySortedBy-dedup, Contains-from_dedup, Any-dedup}
use Rattle.std.proofs.lemmas.List.Sorted.{Contains-permutation, IsPermutation-sym}
use Rattle.std.proofs.lemmas.Map.Lookups.{exact_bytes}
use Rattle.pc_source.specs.declared.place.Place.{Place}
use Rattle.pc_report.specs.declared.listing.TypeKind.{TypeKind}
use Rattle.pc_report.specs.declared.listing.TypeKind.TheVariants.{Expression, Name}
use Rattle.pc_report.specs.declared.listing.TypeEntry.{TypeEntry}
use Rattle.pc_report.specs.contracts.listing.TypeKindOrd.TheImpl.{cmp-value as kind-value}
use Rattle.pc_report.specs.contracts.listing.TypeEntryOrd.TheImpl.{cmp-value}
use Rattle.pc_report.specs.contracts.listing.TypeEntryOrd.TheImpl.Laws.{total-law, matches_eq-law}
use Rattle.pc_report.specs.contracts.listing.TypeEntryPartialEq.TheImpl.{eq-value}
use Rattle.pc_report.specs.contracts.listing.TypeEntryEq.TheImpl.Laws.{laws-law}
use Rattle.pc_report.specs.Flows.{place_cmp}
use Rattle.pc_report.specs.TypeListing.{TypeFact, fact_of, fact_cmp, kind_number}
use Rattle.pc_report.proofs.Order.{is_equal, then_equal, nat_equal}

-- ---- the order

abbrev pub entry_cmp : TypeEntry → TypeEntry → Ordering
entry_cmp = cmp-value.it

abbrev pub entry_eq : TypeEntry → TypeEntry → Bool
entry_eq = eq-value.it

kind_order : (a b : TypeKind) → kind-value.it a b ≡ nat_cmp (kind_number a) (kind_number b)
kind_order Expression Expression = refl
kind_order Expression Name = refl
kind_order Name Expression = refl
kind_order Name Name = refl

current_order : (s t : Option (RcStr Global))
    → option_cmp (λ x y. slice_cmp nat_cmp (rc_str_bytes x) (rc_str_bytes y)) s t
    ≡ option_cmp (slice_cmp nat_cmp) (option_map rc_str_bytes s) (option_map rc_str_bytes t)
current_order None None = refl
current_order None (Some t) = refl
current_order (Some s) None = refl
current_order (Some s) (Some t) = refl

pub cmp_is : (d e : TypeEntry) → entry_cmp d e ≡ fact_cmp (fact_of d) (fact_of e)
cmp_is d e = λ i. ordering_then (place_cmp d.place e.place) (ordering_then (kind_order d.kind e.kind i)
    (ordering_then (slice_cmp nat_cmp (rc_str_bytes d.text) (rc_str_bytes e.text)) (current_order d.current e.current i)))

same_kind : (a b : TypeKind) → nat_cmp (kind_number a) (kind_number b) ≡ Equal → a ≡ b
same_kind Expression Expression h = refl
same_kind Expression Name h = cc
same_kind Name Expression h = cc
same_kind Name Name h = refl

same_current : (s t : Option (List ℕ)) → option_cmp (slice_cmp nat_cmp) s t ≡ Equal → s ≡ t
same_current None None h = refl
same_current None (Some t) h = cc
same_current (Some s) None h = cc
same_current (Some s) (Some t) h = ap Some (exact_bytes s t h)

-- facts that compare as equal are the same
pub equal_facts : (f g : TypeFact) → fact_cmp f g ≡ Equal → f ≡ g
equal_facts f g h =
    let whole = then_equal (place_cmp f.place g.place) (ordering_then (nat_cmp (kind_number f.kind)
    (kind_number g.kind)) (ordering_then (slice_cmp nat_cmp f.type g.type)
    (option_cmp (slice_cmp nat_cmp) f.current g.current))) h in
    let place = then_equal (nat_cmp f.place.start g.place.start) (nat_cmp f.place.end g.place.end) whole.0 in
    let rest = then_equal (nat_cmp (kind_number f.kind) (kind_number g.kind))
    (ordering_then (slice_cmp nat_cmp f.type g.type) (option_cmp (slice_cmp nat_cmp) f.current g.current)) whole.1 in
    let texts = then_equal (slice_cmp nat_cmp f.type g.type) (option_cmp (slice_cmp nat_cmp) f.current g.current)
    rest.1 in
    let start : f.place.start ≡ g.place.start = nat_equal f.place.start g.place.start place.0 in
    let end : f.place.end ≡ g.place.end = nat_equal f.place.end g.place.end place.1 in
    let kind : f.kind ≡ g.kind = same_kind f.kind g.kind rest.0 in
    let type : f.type ≡ g.type = exact_bytes f.type g.type texts.0 in
    let current : f.current ≡ g.current = same_current f.current g.current texts.1 in
    λ i. record {
      place = record { start = start i; end = end i };
      kind = kind i;
      type = type i;
      current = current i;
    }

pub same_fact : (d e : TypeEntry) → entry_eq d e ≡ true → fact_of d ≡ fact_of e
same_fact d e h = equal_facts (fact_of d) (fact_of e)
    (sym (cmp_is d e) ∙ is_equal (entry_cmp d e) (sym (matches_eq-law d e) ∙ h))

-- ---- entries and what they tell

module _ {X Y : Type 0} (g : X → Y) where
  -- the image of an element of a list is among the images of its elements
  pub contains_mapped : (xs : List X) (x : X) (y : Y) → Contains xs x → g x ≡ y → Contains (map g xs) y
  contains_mapped [] x y (k, h, e) is = absurd (omega arith)
  contains_mapped (z ∷ xs) x y (zero, h, e) is = (0, omega arith, ap g e ∙ is)
  contains_mapped (z ∷ xs) x y (suc k, h, e) is =
      let rest = contains_mapped xs x y (k, omega arith, e) is in
      (suc rest.0, omega (arith, rest.1), rest.2)

  -- each image of the elements of a list is the image of some element
  pub mapped_from : (xs : List X) (y : Y) → Contains (map g xs) y → (x : X) × Contains xs x × (g x ≡ y)
  mapped_from [] y (k, h, e) = absurd (omega arith)
  mapped_from (z ∷ xs) y (zero, h, e) = (z, (0, omega arith, refl), e)
  mapped_from (z ∷ xs) y (suc k, h, e) =
      let rest = mapped_from xs y (k, omega arith, e) in
      (rest.0, (suc rest.1.0, omega (arith, rest.1.1), rest.1.2), rest.2)

-- sorted entries without repeats tell what the entries told
pub tells_same : (entries sorted : List TypeEntry) → IsPermutation entries sorted → (f : TypeFact)
    → Contains (map fact_of (dedup entry_eq sorted)) f ↔ Contains (map fact_of entries) f
tells_same entries sorted moves f = (
  λ h. let some = mapped_from fact_of (dedup entry_eq sorted) f h in
      contains_mapped fact_of entries some.0 f (Contains-permutation sorted entries some.0
      (IsPermutation-sym entries sorted moves) (Contains-from_dedup entry_eq sorted some.0 some.1)) some.2,
  λ h. let some = mapped_from fact_of entries f h in
      let kept = Any-dedup laws-law sorted some.0 (Contains-permutation entries sorted some.0 moves some.1) in
      contains_mapped fact_of (dedup entry_eq sorted) kept.1 f (kept.0, kept.2, kept.3)
      (sym (same_fact some.0 kept.1 kept.4) ∙ some.2),
)

-- ---- facts in order

told_below : (d : TypeEntry) (es : List TypeEntry) → AllByRecursion (λ e. entry_cmp d e ≡ Less) es
    → AllByRecursion (λ f. fact_cmp (fact_of d) f ≡ Less) (map fact_of es)
told_below d [] h = tt
told_below d (e ∷ es) h = (sym (cmp_is d e) ∙ h.0, told_below d es h.1)

told_in_order : (es : List TypeEntry) → IsStrictlySortedBy entry_cmp es → IsStrictlySortedBy fact_cmp (map fact_of es)
unfolding IsStrictlySortedBy
told_in_order [] h = tt
told_in_order (e ∷ es) h = (told_below e es h.0, told_in_order es h.1)

-- sorted entries without repeats tell facts in order
pub sorted_facts : (es : List TypeEntry) → IsSorted entry_cmp es
    → IsStrictlySortedBy fact_cmp (map fact_of (dedup entry_eq es))
sorted_facts es h = told_in_order (dedup entry_eq es) (IsStrictlySortedBy-dedup total-law matches_eq-law es h)
