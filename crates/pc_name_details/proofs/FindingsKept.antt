-- The details of findings that are kept, by the order of findings.
use Rattle.std.proofs.Common.{◌≡◌, ◌∙◌, Bool, true, false, cond, List, Option, Some, None, Equal, refl, sym, ap, rules}
use Rattle.std.proofs.Common.{◌<◌, ◌+◌, ℕ, get_or, length, take}
use Rattle.std.proofs.lemmas.List.Folds.{list_any_more}
use Rattle.std.specs.List.{list_any}
use Rattle.std.specs.Prelude.{◌&&◌, ◌||◌, is_some, not}
use Rattle.std.specs.Option.{option_map}
use Rattle.std.specs.BTreeMap.{BTreeMap, get}
use Rattle.std.specs.Ordering.{is_eq, nat_cmp, ordering_then}
use Rattle.std.specs.declared.cmp.Ordering.{Ordering}
use denote.Enum.Bare.{same_true}
use Rattle.pc_tree.specs.contracts.code.Code.{the_type}
use Rattle.pc_tree.specs.contracts.code.CodeOrd.TheImpl.{cmp-value}
use Rattle.pc_tree.specs.contracts.code.CodeOrd.TheImpl.Laws.{matches_eq-law}
use Rattle.pc_tree.specs.declared.code.Code.{Code}
use Rattle.pc_tree.specs.declared.code.Finding.{Finding}
use Rattle.pc_notes.proofs.FirstFlows.{place_same, some_mapped}
use Rattle.pc_detail_texts.specs.Shown.{detail_of_value}
use Rattle.pc_name_details.specs.declared.offers.Offers.{Offers}
use Rattle.pc_name_details.specs.Offered.{finding_cmp, is_same_finding, is_still_open, is_wanted, kept_of}

is_equal : (o : Ordering) → is_eq o ≡ true → o ≡ Equal
is_equal Rattle.std.specs.declared.cmp.Ordering.TheVariants.Less h = cc
is_equal Equal h = refl
is_equal Rattle.std.specs.declared.cmp.Ordering.TheVariants.Greater h = cc

then_equal : (a b : Ordering) → ordering_then a b ≡ Equal → (a ≡ Equal) × (b ≡ Equal)
then_equal Rattle.std.specs.declared.cmp.Ordering.TheVariants.Less b h = cc
then_equal Equal b h = (refl, h)
then_equal Rattle.std.specs.declared.cmp.Ordering.TheVariants.Greater b h = cc

code_same : (c d : Code) → is_eq (cmp-value.it c d) ≡ true → c ≡ d
code_same c d h = same_true the_type (search rules) c d (matches_eq-law c d ∙ h)

-- findings that are ordered alike are the same
pub finding_same : (f g : Finding) → is_eq (finding_cmp f g) ≡ true → f ≡ g
finding_same f g h =
    let whole = then_equal (ordering_then (nat_cmp f.place.start g.place.start) (nat_cmp f.place.end g.place.end))
    (cmp-value.it f.code g.code) (is_equal (finding_cmp f g) h) in
    let place : f.place ≡ g.place = place_same f.place g.place (ap is_eq whole.0) in
    let code : f.code ≡ g.code = code_same f.code g.code (ap is_eq whole.1) in
    λ i. record { place = place i; code = code i }

-- other findings are ordered otherwise
pub apart : (f g : Finding) → ¬ (g ≡ f) → (b : Bool) → is_eq (finding_cmp f g) ≡ b → is_eq (finding_cmp f g) ≡ false
apart f g other true h = absurd (other (sym (finding_same f g h)))
apart f g other false h = h

-- one finding more that is asked for
pub wanted_more : {A : Type 0} (a : A) (b : Bool) (o : Option A) → is_some (cond b (Some a) o) ≡ (is_some o || b)
wanted_more a true None = refl
wanted_more a true (Some x) = refl
wanted_more a false None = refl
wanted_more a false (Some x) = refl

-- whether a finding is asked for, one finding more
pub wanted_next : {A : Type 0} (a : A) (had has : Finding → Option A) (xs : List Finding) (i : ℕ) (d : Finding)
    → i < length xs → ((q : Finding) → is_some (had q) ≡ list_any (is_same_finding q) (take i xs))
    → ((q : Finding) → has q ≡ cond (is_same_finding q (get_or xs i d)) (Some a) (had q))
    → (q : Finding) → is_some (has q) ≡ list_any (is_same_finding q) (take (i + 1) xs)
wanted_next a had has xs i d less before updates q = ap is_some (updates q)
    ∙ wanted_more a (is_same_finding q (get_or xs i d)) (had q)
    ∙ ap (λ b. b || is_same_finding q (get_or xs i d)) (before q)
    ∙ sym (list_any_more (is_same_finding q) xs i d less)

-- whether a finding is asked for and has no detail yet, by the maps
pub open_is : (o : Offers) (f : Finding)
    → (is_some (get finding_cmp o.wanted f) && not (is_some (get finding_cmp o.kept f))) ≡ is_still_open o f
unfolding is_wanted kept_of
open_is o f = ap (λ b. is_some (get finding_cmp o.wanted f) && not b)
    (sym (some_mapped detail_of_value (get finding_cmp o.kept f)))
