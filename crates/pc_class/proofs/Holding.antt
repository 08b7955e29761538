-- A map from names to fields, or to methods: with one more, and after others are added.
use Rattle.std.proofs.Common.{◌≡◌, ℕ, List, [], ◌∷◌, ◌++◌, length, refl, sym, ap, ◌∙◌, subst, arith}
use Rattle.std.proofs.Common.{length-append}
use Rattle.std.specs.Prelude.{Bool, true, false, cond, if◌then◌else◌, Option, Some, None, bytes_eq}
use Rattle.std.specs.Option.{option_or}
use Rattle.std.proofs.lemmas.List.Folds.{find-append}
use Rattle.std.proofs.lemmas.Slice.Eq.{bytes_eq-Decides}
use Rattle.pc_shared_maps.specs.NameMaps.{NameMaps, IsMap, named_at, KeepsNamed}
use Rattle.pc_shared_maps.proofs.ListsShared.{at_left, within_left, get_end}
use Rattle.pc_class.specs.Outlines.{at_number, IsNumberIn, first_named, IsMapOf}

module _ {X : Type 0} (name : X → List ℕ) where
  -- maps and lists that only grow
  pub held_kept : (d d' : NameMaps) (all more : List X) (at : ℕ) (these : List X) → IsMapOf name d all at these
      → KeepsNamed d d' → IsMapOf name d' (all ++ more) at these
  held_kept d d' all more at these h k = record {
    is_map = let i = h.is_map in let l = k.more in omega arith;
    within = λ n. subst (IsNumberIn (all ++ more)) (sym (k.same at n h.is_map))
        (within_left all more (named_at d at n) (h.within n));
    same = λ n. ap (at_number (all ++ more)) (k.same at n h.is_map) ∙ at_left all more (named_at d at n) (h.within n)
        ∙ h.same n;
  }

  -- one more
  pub held_more : (d d' : NameMaps) (all : List X) (at at' : ℕ) (these these' : List X) (x : X)
      → IsMapOf name d all at these → IsMap d' at'
      → ((n : List ℕ) → named_at d' at' n ≡ (if bytes_eq n (name x) then Some (length all) else named_at d at n))
      → ((n : List ℕ) → first_named name these' n ≡ (if bytes_eq n (name x) then Some x else first_named name these n))
      → IsMapOf name d' (all ++ x ∷ []) at' these'
  held_more d d' all at at' these these' x h is_map put next = record {
    is_map = is_map;
    within = λ n. subst (IsNumberIn (all ++ x ∷ [])) (sym (put n)) (go_within n (bytes_eq n (name x)));
    same = λ n. ap (at_number (all ++ x ∷ [])) (put n) ∙ go n (bytes_eq n (name x)) ∙ sym (next n);
  }
    where
      go_within : (n : List ℕ) (b : Bool) → IsNumberIn (all ++ x ∷ [])
          (if b then Some (length all) else named_at d at n)
      go_within n true = let e = length-append all (x ∷ []) in omega arith
      go_within n false = within_left all (x ∷ []) (named_at d at n) (h.within n)

      go : (n : List ℕ) (b : Bool) → at_number (all ++ x ∷ []) (if b then Some (length all) else named_at d at n)
          ≡ (if b then Some x else first_named name these n)
      go n true = get_end all x
      go n false = at_left all (x ∷ []) (named_at d at n) (h.within n) ∙ h.same n

  -- the first of a name among these and one more after them
  pub named_behind : (these : List X) (x : X) → first_named name these (name x) ≡ None → (n : List ℕ)
      → first_named name (these ++ x ∷ []) n ≡ (if bytes_eq n (name x) then Some x else first_named name these n)
  named_behind these x none n = find-append (λ y. bytes_eq n (name y)) these (x ∷ [])
      ∙ go (bytes_eq n (name x)) refl (first_named name these n) refl
    where
      go : (b : Bool) → bytes_eq n (name x) ≡ b → (o : Option X) → first_named name these n ≡ o
          → option_or (first_named name these n) (cond b (Some x) None)
          ≡ (if b then Some x else first_named name these n)
      go true e o f = ap (λ q. option_or q (Some x)) (ap (first_named name these) ((bytes_eq-Decides n (name x)).0 e)
          ∙ none)
      go false e None f = ap (λ q. option_or q None) f ∙ sym f
      go false e (Some y) f = ap (λ q. option_or q None) f ∙ sym f

  -- and ahead of others
  pub named_ahead : (own others : List X) (x : X) → first_named name own (name x) ≡ None → (n : List ℕ)
      → first_named name ((own ++ x ∷ []) ++ others) n ≡ (if bytes_eq n (name x) then Some x else first_named name
      (own ++ others) n)
  named_ahead own others x none n =
      find-append (λ y. bytes_eq n (name y)) (own ++ x ∷ []) others
      ∙ ap (λ q. option_or q (first_named name others n)) (named_behind own x none n)
      ∙ go (bytes_eq n (name x))
    where
      go : (b : Bool) → option_or (if b then Some x else first_named name own n) (first_named name others n)
          ≡ (if b then Some x else first_named name (own ++ others) n)
      go true = refl
      go false = sym (find-append (λ y. bytes_eq n (name y)) own others)

-- maps that stay, stay on
pub named_same : (d : NameMaps) → KeepsNamed d d
named_same d = record { more = omega arith; same = λ at n h. refl }

pub named_on : (a b c : NameMaps) → KeepsNamed a b → KeepsNamed b c → KeepsNamed a c
named_on a b c k l = let x = k.more in let y = l.more in record {
  more = omega arith;
  same = λ at n h. l.same at n (omega arith) ∙ k.same at n h;
}
