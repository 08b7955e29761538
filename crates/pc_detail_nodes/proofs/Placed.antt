-- Nodes by place, one more.
use Rattle.std.proofs.Common.{◌≡◌, ◌∙◌, ◌<◌, ◌+◌, ◌++◌, ◌∷◌, [], ℕ, List, Bool, true, false, Option, Some, None, map, take, length}
use Rattle.std.proofs.Common.{get_or, refl, sym, ap}
use Rattle.std.proofs.lemmas.List.{map-append}
use Rattle.std.proofs.lemmas.List.Elements.{filter-append}
use Rattle.std.specs.Prelude.{filter, if◌then◌else◌}
use Rattle.std.specs.Option.{option_map}
use Rattle.pc_source.specs.declared.place.Place.{Place}
use Rattle.pc_notes.specs.Notes.{is_same_place}
use Rattle.pc_detail_nodes.specs.ByPlaces.{alone_at}
use Rattle.pc_detail_nodes.proofs.WalkedLists.{shown_more}

module _ {T X : Type 0} (shown : T → X) where
  alone_shown : (b : Bool) (t : T) → map shown (if b then t ∷ [] else []) ≡ (if b then shown t ∷ [] else [])
  alone_shown true t = refl
  alone_shown false t = refl

  -- a node is held after those before
  pub one_placed : (p q : Place) (old new : Option (List T)) (xs : List X) (t : T) → option_map (map shown) old ≡ Some xs
      → new ≡ option_map (λ nodes. nodes ++ alone_at p q t) old
      → option_map (map shown) new ≡ Some (xs ++ (if is_same_place p q then shown t ∷ [] else []))
  one_placed p q None new xs t h e = let never : ⊥ = cc in absurd never
  one_placed p q (Some ns) new xs t h e =
      let same : map shown ns ≡ xs = cc in
      ap (option_map (map shown)) e
      ∙ ap (λ (l : List X). Some l) (map-append shown ns (alone_at p q t)
      ∙ ap (λ (l : List X). map shown ns ++ l) (alone_shown (is_same_place p q) t)
      ∙ ap (λ (l : List X). l ++ (if is_same_place p q then shown t ∷ [] else [])) same)

  -- the nodes of a place, one more
  pub kept_one_more : (test : X → Bool) (ts : List T) (i : ℕ) (t : T) → i < length ts → t ≡ get_or ts i t
      → filter test (map shown (take (i + 1) ts))
      ≡ filter test (map shown (take i ts)) ++ (if test (shown t) then shown t ∷ [] else [])
  kept_one_more test ts i t lt e = ap (filter test) (shown_more shown ts i t lt e)
      ∙ filter-append test (map shown (take i ts)) (shown t ∷ [])

  -- what is held of a place, one node more
  pub placed_more : (p q : Place) (place : X → Place) (old new : Option (List T)) (ts : List T) (i : ℕ) (t : T)
      → i < length ts → t ≡ get_or ts i t → q ≡ place (shown t)
      → option_map (map shown) old ≡ Some (filter (λ x. is_same_place p (place x)) (map shown (take i ts)))
      → new ≡ option_map (λ nodes. nodes ++ alone_at p q t) old
      → option_map (map shown) new ≡ Some (filter (λ x. is_same_place p (place x)) (map shown (take (i + 1) ts)))
  placed_more p q place old new ts i t lt e at h g =
      one_placed p q old new (filter (λ x. is_same_place p (place x)) (map shown (take i ts))) t h g
      ∙ ap (λ (r : Place). Some (filter (λ x. is_same_place p (place x)) (map shown (take i ts))
      ++ (if is_same_place p r then shown t ∷ [] else []))) at
      ∙ ap (λ (l : List X). Some l) (sym (kept_one_more (λ x. is_same_place p (place x)) ts i t lt e))
