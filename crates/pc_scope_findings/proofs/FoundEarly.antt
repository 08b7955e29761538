-- E03 in initializers: found by a walk that counts items, and defined by the items before.
use Rattle.std.proofs.Common.{◌≡◌, ◌+◌, ℕ, zero, suc, List, [], ◌∷◌, refl, sym, ap, subst, arith, Contains, length}
use Rattle.std.specs.Prelude.{false, Option, Some, None, take, slice_get}
use Rattle.std.proofs.lemmas.List.Elements.{Contains-append_left, Contains-append_right}
use Rattle.pc_source.specs.declared.place.Place.{Place}
use Rattle.pc_tree.specs.Tree.{Constant, Item, constant_item, class_item, def_item}
use Rattle.pc_scope.specs.declared.resolution.NameMeaning.{NameMeaning}
use Rattle.pc_scope.specs.Bindings.{constants_in, classes_in}
use Rattle.pc_scope.specs.Expressions.{parts_in}
use Rattle.pc_scope_findings.specs.Internal.FindingLists.{early_among, early_in}
use Rattle.pc_tree.proofs.Among.{none_among, either}

-- a constant after so many constants and classes, with something too early in its initializer
pub record IsEarlyAt (resolve : List ℕ → NameMeaning) (k c : ℕ) (items : List Item) (p : Place) : Type 0 where
  pub at : ℕ
  pub first : Place
  pub constant : Constant
  pub item : slice_get items at ≡ Some (constant_item first constant)
  pub found : Contains (early_among (k + length (constants_in (take at items)))
      (c + length (classes_in (take at items))) resolve (parts_in false constant.value)) p

abbrev constant_or : Constant → Option Item → Constant
constant_or y None = y
constant_or y (Some (constant_item p c)) = c
constant_or y (Some (class_item p c)) = y
constant_or y (Some (def_item p f)) = y

module _ (resolve : List ℕ → NameMeaning) where
  -- the counts may be written otherwise
  pub moved : (k k' c c' : ℕ) (x : Constant) (p : Place) → k ≡ k' → c ≡ c'
      → Contains (early_among k c resolve (parts_in false x.value)) p
      → Contains (early_among k' c' resolve (parts_in false x.value)) p
  moved k k' c c' x p e f h = subst (λ (i : ℕ). Contains (early_among i c' resolve (parts_in false x.value)) p) e
      (subst (λ (i : ℕ). Contains (early_among k i resolve (parts_in false x.value)) p) f h)

  pub early_constant : (k c : ℕ) (items : List Item) (p : Place) → Contains (early_in k c resolve items) p
      → IsEarlyAt resolve k c items p
  early_constant k c [] p h = absurd (none_among p h)
  early_constant k c (constant_item q x ∷ is) p h = either (early_among k c resolve (parts_in false x.value))
      (early_in (suc k) c resolve is) p h
      (λ a. record {
        at = 0;
        first = q;
        constant = x;
        item = refl;
        found = moved k (k + 0) c (c + 0) x p (omega arith)
            (omega arith) a;
      })
      (λ b. let r = early_constant (suc k) c is p b in record {
        at = suc r.at;
        first = r.first;
        constant = r.constant;
        item = r.item;
        found = moved (suc k + length (constants_in (take r.at is)))
            (k + suc (length (constants_in (take r.at is)))) (c + length (classes_in (take r.at is)))
            (c + length (classes_in (take r.at is))) r.constant p (omega arith) refl r.found;
      })
  early_constant k c (class_item q x ∷ is) p h = let r = early_constant k (suc c) is p h in
      record {
        at = suc r.at;
        first = r.first;
        constant = r.constant;
        item = r.item;
        found =
            moved (k + length (constants_in (take r.at is))) (k + length (constants_in (take r.at is)))
            (suc c + length (classes_in (take r.at is))) (c + suc (length (classes_in (take r.at is)))) r.constant p
            refl
            (omega arith) r.found;
      }
  early_constant k c (def_item q f ∷ is) p h = let r = early_constant k c is p h in
      record { at = suc r.at; first = r.first; constant = r.constant; item = r.item; found = r.found }

  pub to_early : (k c : ℕ) (items : List Item) (p : Place) (at : ℕ) (first : Place) (x : Constant)
      → slice_get items at ≡ Some (constant_item first x) → Contains
      (early_among (k + length (constants_in (take at items))) (c + length (classes_in (take at items))) resolve
      (parts_in false x.value)) p → Contains (early_in k c resolve items) p
  to_early k c [] p at first x item h = absurd (grind (arith, item))
  to_early k c (constant_item q y ∷ is) p zero first x item h =
      Contains-append_left (early_among k c resolve (parts_in false y.value)) (early_in (suc k) c resolve is) p
      (subst (λ (z : Constant). Contains (early_among k c resolve (parts_in false z.value)) p)
      (sym (ap (constant_or y) item)) (moved (k + 0) k (c + 0) c x p (omega arith) (omega arith) h))
  to_early k c (class_item q y ∷ is) p zero first x item h = absurd (grind (arith, item))
  to_early k c (def_item q y ∷ is) p zero first x item h = absurd (grind (arith, item))
  to_early k c (constant_item q y ∷ is) p (suc at) first x item h =
      Contains-append_right (early_among k c resolve (parts_in false y.value)) (early_in (suc k) c resolve is) p
      (to_early (suc k) c is p at first x item (moved (k + suc (length (constants_in (take at is))))
      (suc k + length (constants_in (take at is))) (c + length (classes_in (take at is)))
      (c + length (classes_in (take at is))) x p (omega arith) refl h))
  to_early k c (class_item q y ∷ is) p (suc at) first x item h = to_early k (suc c) is p at first x item
      (moved (k + length (constants_in (take at is))) (k + length (constants_in (take at is)))
      (c + suc (length (classes_in (take at is)))) (suc c + length (classes_in (take at is))) x p refl (omega arith) h)
  to_early k c (def_item q y ∷ is) p (suc at) first x item h = to_early k c is p at first x item h
