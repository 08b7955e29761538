-- Lists of demands: one is added, or put in place of one that it implies.
use Rattle.std.proofs.Common.{◌≡◌, ◌<◌, ◌+◌, ℕ, zero, suc, List, [], ◌∷◌, ◌++◌, take, drop, length, get_or}
use Rattle.std.proofs.Common.{refl, sym, ap, ◌∙◌, subst, arith}
use Rattle.std.specs.Prelude.{Bool, true, false, ◌&&◌, IsTrue, Some, slice_get, slice_set}
use Rattle.std.specs.List.{list_all}
use Rattle.std.proofs.Math.Bool.{and-true, and-false}
use Rattle.std.proofs.Math.Seq.{drop-cons}
use Rattle.std.proofs.lemmas.Bool.{false≢true}
use Rattle.std.proofs.lemmas.List.{take_more}
use Rattle.std.proofs.lemmas.List.Folds.{list_all-append}
use Rattle.std.proofs.lemmas.List.Elements.{All-append, All-cons, All-nil, All-get_or}
use Rattle.std.proofs.lemmas.Option.{same_Some, get_or_from_slice_get, slice_get_within}
use Rattle.pc_types.specs.Tree.{Tree}
use Rattle.pc_types.specs.Below.{Bases}
use Rattle.pc_class.specs.Facts.{Method}
use Rattle.pc_class.specs.OverrideFindings.{is_good_to, is_static_to, code_where, override_code}
use Rattle.pc_class.specs.Tables.{IsMethod}
use Rattle.pc_class.specs.WellFormed.{MethodWellFormed}
use Rattle.pc_overrides.specs.declared.known.Judging.{Judging}
use Rattle.pc_overrides.specs.declared.overriding.Demand.{Demand}
use Rattle.pc_overrides.specs.declared.overriding.Relation.{Relation}
use Rattle.pc_overrides.specs.declared.overriding.Relation.TheVariants as relations
use Rattle.pc_overrides.specs.Internal.OverrideTests.{overrides_by, meets_demand}
use Rattle.pc_overrides.specs.Internal.Representing.{IsOneMore, AreWith, IsEnough, AreListed}

-- ---- tests of all

module _ {X : Type 0} (test : X → Bool) where
  -- of all and one more
  pub one_tested_more : (xs new : List X) (x : X) → new ≡ xs ++ x ∷ []
      → list_all test new ≡ (list_all test xs && test x)
  one_tested_more xs new x e =
      ap (list_all test) e ∙ list_all-append test xs (x ∷ []) ∙ ap (λ b. list_all test xs && b) (and-true (test x))

  -- of all from a place on
  pub tested_from : (xs : List X) (i : ℕ) (x : X) → i < length xs → x ≡ get_or xs i x
      → list_all test (drop i xs) ≡ (test x && list_all test (drop (i + 1) xs))
  tested_from xs i x less is =
      ap (list_all test) (drop-cons xs i x less)
      ∙ ap (λ y. test y && list_all test (drop (suc i) xs)) (sym is)
      ∙ ap (λ k. test x && list_all test (drop k xs)) (let e : suc i ≡ i + 1 = omega arith in e)

  -- of all where what is tested at one place tells what is tested of another
  pub told_by : (xs : List X) (k : ℕ) (x d : X) → slice_get xs k ≡ Some x → (IsTrue (test x) → IsTrue (test d))
      → list_all test xs ≡ (list_all test xs && test d)
  told_by [] k x d is h = absurd (grind (arith, is))
  told_by (y ∷ ys) zero x d is h =
      go (test y) (list_all test ys) (test d) (λ e. h (ap test (sym (same_Some _ _ is)) ∙ e))
    where
      go : (a r b : Bool) → (IsTrue a → IsTrue b) → (a && r) ≡ ((a && r) && b)
      go false r b f = refl
      go true false b f = refl
      go true true b f = sym (f refl)
  told_by (y ∷ ys) (suc k) x d is h = go (test y) (list_all test ys) (test d) (told_by ys k x d is h)
    where
      go : (a r b : Bool) → r ≡ (r && b) → (a && r) ≡ ((a && r) && b)
      go false r b e = refl
      go true r b e = e

  -- of all where another stands at one place, that tells what was tested there
  pub told_instead : (xs : List X) (k : ℕ) (x d : X) → slice_get xs k ≡ Some x → (IsTrue (test d) → IsTrue (test x))
      → list_all test (slice_set xs k d) ≡ (list_all test xs && test d)
  told_instead [] k x d is h = absurd (grind (arith, is))
  told_instead (y ∷ ys) zero x d is h =
      go (test y) (list_all test ys) (test d) (λ e. ap test (same_Some _ _ is) ∙ h e)
    where
      go : (a r b : Bool) → (IsTrue b → IsTrue a) → (b && r) ≡ ((a && r) && b)
      go a false false f = sym (and-false (a && false))
      go a true false f = sym (and-false (a && true))
      go false r true f = absurd (false≢true (f refl))
      go true r true f = sym (and-true r)
  told_instead (y ∷ ys) (suc k) x d is h =
      go (test y) (list_all test (slice_set ys k d)) (list_all test ys) (test d) (told_instead ys k x d is h)
    where
      go : (a r s b : Bool) → r ≡ (s && b) → (a && r) ≡ ((a && s) && b)
      go false r s b e = refl
      go true r s b e = e

-- ---- demands of methods of the table

module _ {Ty : Type 0} (tree : Ty → Tree) (s : Judging Ty) where
  -- one more
  pub listed_push : (xs new : List (Demand Ty)) (d : Demand Ty) → new ≡ xs ++ d ∷ [] → AreListed tree s xs
      → IsMethod s.classes.now d.method.now → AreListed tree s new
  listed_push xs new d e all is =
      subst (AreListed tree s) (sym e) (All-append (λ (y : Demand Ty). IsMethod s.classes.now y.method.now) xs (d ∷ [])
      all (All-cons (λ (y : Demand Ty). IsMethod s.classes.now y.method.now) d [] is
      (All-nil (λ (y : Demand Ty). IsMethod s.classes.now y.method.now))))

  -- one at a place
  pub listed_at : (xs : List (Demand Ty)) (k : ℕ) (d : Demand Ty) → AreListed tree s xs → slice_get xs k ≡ Some d
      → IsMethod s.classes.now d.method.now
  listed_at xs k d all is = subst (λ (y : Demand Ty). IsMethod s.classes.now y.method.now)
      (get_or_from_slice_get xs k d d is) (All-get_or (λ (y : Demand Ty). IsMethod s.classes.now y.method.now) xs k d
      (slice_get_within xs k d is) all)

  -- one that is read at a place
  pub listed_item : (xs : List (Demand Ty)) (k : ℕ) (d : Demand Ty) → AreListed tree s xs → k < length xs
      → d ≡ get_or xs k d → IsMethod s.classes.now d.method.now
  listed_item xs k d all less is = subst (λ (y : Demand Ty). IsMethod s.classes.now y.method.now) (sym is)
      (All-get_or (λ (y : Demand Ty). IsMethod s.classes.now y.method.now) xs k d less all)

-- ---- demands of a method and of others

pub and_further : (a b c : Bool) → ((a && b) && c) ≡ (a && (b && c))
and_further false b c = refl
and_further true b c = refl

module _ {Ty : Type 0} (tree : Ty → Tree) (bases : Bases) where
  -- of no others
  pub with_none : (own demands : List (Demand Ty)) (x : Method) → demands ≡ own
      → ((relation : Relation) (z : Method) → list_all (meets_demand tree relation bases z) own
      ≡ overrides_by relation bases z x) → AreWith tree bases demands x []
  with_none own demands x e h relation z w =
      ap (list_all (meets_demand tree relation bases z)) e ∙ h relation z
      ∙ sym (and-true (overrides_by relation bases z x))

  -- of one more
  pub with_more : (before demands : List (Demand Ty)) (x : Method) (others : List (Demand Ty)) (i : ℕ) (d : Demand Ty)
      → i < length others → d ≡ get_or others i d → AreWith tree bases before x (take i others)
      → IsOneMore tree bases demands before d → AreWith tree bases demands x (take (i + 1) others)
  with_more before demands x others i d less is h more relation z w =
      let test = meets_demand tree relation bases z in
      more relation z w ∙ ap (λ b. b && test d) (h relation z w)
      ∙ and_further (overrides_by relation bases z x) (list_all test (take i others)) (test d)
      ∙ ap (λ b. overrides_by relation bases z x && b) (sym (one_tested_more test (take i others)
      (take (i + 1) others) d (take_more others i d less ∙ ap (λ (y : Demand Ty). take i others ++ y ∷ []) (sym is))))

  -- of a method and of what is enough in place of all above it
  pub enough_with : (demands : List (Demand Ty)) (x : Method) (others : List (Demand Ty)) (some all : List Method)
      → AreWith tree bases demands x others → IsEnough tree bases others some all
      → IsEnough tree bases demands some (x ∷ all)
  enough_with demands x others some all h e relation z w =
      let test = meets_demand tree relation bases z in
      let rest = list_all (overrides_by relation bases z) some in
      ap (λ b. b && rest) (h relation z w)
      ∙ and_further (overrides_by relation bases z x) (list_all test others) rest
      ∙ ap (λ b. overrides_by relation bases z x && b) (e relation z w)

  -- of a method alone, and of all above it
  pub enough_alone : (own : List (Demand Ty)) (x : Method) (all : List Method)
      → ((relation : Relation) (z : Method) → list_all (meets_demand tree relation bases z) own
      ≡ overrides_by relation bases z x) → IsEnough tree bases own all (x ∷ all)
  enough_alone own x all h relation z w = ap (λ b. b && list_all (overrides_by relation bases z) all) (h relation z)

  -- the code against what is enough is the code against all
  pub code_by_enough : (demands : List (Demand Ty)) (some all : List Method) (z : Method)
      → IsEnough tree bases demands some all → MethodWellFormed bases z
      → code_where (list_all (meets_demand tree relations.Assignable bases z) demands
      && list_all (is_good_to bases z) some)
      (list_all (meets_demand tree relations.Static bases z) demands && list_all (is_static_to bases z) some)
      ≡ override_code bases all z
  code_by_enough demands some all z e w =
      ap (λ b. code_where b (list_all (meets_demand tree relations.Static bases z) demands
      && list_all (is_static_to bases z) some)) (e relations.Assignable z w)
      ∙ ap (λ b. code_where (list_all (is_good_to bases z) all) b) (e relations.Static z w)
