-- Items of lists by place: the items that are kept while a list grows, and lists of places.
use Rattle.std.proofs.Common.{◌≡◌, ℕ, zero, suc, ◌⊎◌, inl, inr, Bool, true, false, cond, List, [], ◌∷◌, ◌++◌, length}
use Rattle.std.proofs.Common.{map, Some, None, refl, ap, subst, ◌∙◌}
use Rattle.std.specs.List.{slice_get, AllByRecursion}
use Rattle.std.specs.Map.{lookup, lookup_key}
use Rattle.std.specs.Option.{option_map}
use Rattle.std.proofs.lemmas.Map.{none_passes_from_lookup}
use Rattle.std.proofs.lemmas.Option.{slice_get-map}

module _ {X : Type 0} where
  -- an item keeps its index when others are appended
  pub stays : (xs ys : List X) (n : ℕ) (x : X) → slice_get xs n ≡ Some x → slice_get (xs ++ ys) n ≡ Some x
  stays [] ys zero x h = cc
  stays [] ys (suc n) x h = cc
  stays (z ∷ xs) ys zero x h = h
  stays (z ∷ xs) ys (suc n) x h = stays xs ys n x h

  pub each_stays : (xs ys : List X) (ps : List ℕ) (us : List X) → map (slice_get xs) ps ≡ map Some us
      → map (slice_get (xs ++ ys)) ps ≡ map Some us
  each_stays xs ys [] us h = h
  each_stays xs ys (p ∷ ps) [] h = cc
  each_stays xs ys (p ∷ ps) (u ∷ us) h =
      let e : slice_get xs p ≡ Some u = cc in
      let r : map (slice_get xs) ps ≡ map Some us = cc in
      let f = stays xs ys p u e in
      let g = each_stays xs ys ps us r in
      cc

  -- where one item is put after a list, an item is one of the list's, or that one
  pub pushed : (xs : List X) (y : X) (n : ℕ) (x : X) → slice_get (xs ++ y ∷ []) n ≡ Some x → (slice_get xs n ≡ Some x)
      ⊎ ((n ≡ length xs) × (y ≡ x))
  pushed [] y zero x h = inr (refl, cc)
  pushed [] y (suc zero) x h = cc
  pushed [] y (suc (suc n)) x h = cc
  pushed (z ∷ xs) y zero x h = inl h
  pushed (z ∷ xs) y (suc n) x h = elim (pushed xs y n x h) [ inl a ↦ inl a | inr b ↦ inr (ap suc b.0, b.1) ]

  pub at_end : (xs : List X) (y : X) → slice_get (xs ++ y ∷ []) (length xs) ≡ Some y
  at_end [] y = refl
  at_end (z ∷ xs) y = at_end xs y

  -- no item stands at two places
  abbrev pub IsOnce : List X → Type 0
  IsOnce xs = (m n : ℕ) (x : X) → slice_get xs m ≡ Some x → slice_get xs n ≡ Some x → m ≡ n

  -- where each item stands once, its place is known by the item
  pub same_places : (xs : List X) → IsOnce xs → (ps qs : List ℕ) (us : List X) → map (slice_get xs) ps ≡ map Some us
      → map (slice_get xs) qs ≡ map Some us → ps ≡ qs
  same_places xs once [] [] us h g = refl
  same_places xs once [] (q ∷ qs) [] h g = cc
  same_places xs once [] (q ∷ qs) (u ∷ us) h g = cc
  same_places xs once (p ∷ ps) [] [] h g = cc
  same_places xs once (p ∷ ps) [] (u ∷ us) h g = cc
  same_places xs once (p ∷ ps) (q ∷ qs) [] h g = cc
  same_places xs once (p ∷ ps) (q ∷ qs) (u ∷ us) h g =
      let a : slice_get xs p ≡ Some u = cc in
      let b : slice_get xs q ≡ Some u = cc in
      let c : map (slice_get xs) ps ≡ map Some us = cc in
      let d : map (slice_get xs) qs ≡ map Some us = cc in
      let e : p ≡ q = once p q u a b in
      let r : ps ≡ qs = same_places xs once ps qs us c d in
      cc

  pub same_items : (us vs : List X) → map Some us ≡ map Some vs → us ≡ vs
  same_items [] [] h = refl
  same_items [] (v ∷ vs) h = cc
  same_items (u ∷ us) [] h = cc
  same_items (u ∷ us) (v ∷ vs) h =
      let e : u ≡ v = cc in
      let g : map Some us ≡ map Some vs = cc in
      let r : us ≡ vs = same_items us vs g in
      cc

  -- one more of each
  pub each_push : (xs : List X) (ps : List ℕ) (p : ℕ) (us : List X) (u : X) → map (slice_get xs) ps ≡ map Some us
      → slice_get xs p ≡ Some u → map (slice_get xs) (ps ++ p ∷ []) ≡ map Some (us ++ u ∷ [])
  each_push xs [] p [] u h e = ap (λ o. o ∷ []) e
  each_push xs [] p (v ∷ us) u h e = cc
  each_push xs (q ∷ ps) p [] u h e = cc
  each_push xs (q ∷ ps) p (v ∷ us) u h e =
      let a : slice_get xs q ≡ Some v = cc in
      let g : map (slice_get xs) ps ≡ map Some us = cc in
      let r = each_push xs ps p us u g e in
      cc

module _ {A B : Type 0} (f : A → B) where
  pub map_at : (xs : List A) (n : ℕ) (x : A) → slice_get xs n ≡ Some x → slice_get (map f xs) n ≡ Some (f x)
  map_at xs n x h = slice_get-map f xs n ∙ ap (option_map f) h

  pub at_map : (xs : List A) (n : ℕ) (y : B) → slice_get (map f xs) n ≡ Some y → (x : A) × (slice_get xs n ≡ Some x)
      × (f x ≡ y)
  at_map [] zero y h = cc
  at_map [] (suc n) y h = cc
  at_map (x ∷ xs) zero y h = (x, refl, cc)
  at_map (x ∷ xs) (suc n) y h = at_map xs n y h

module _ {K X : Type 0} (test : K → Bool) where
  within : (es : List (K × X)) → AllByRecursion (λ e. test e.0 ≡ false) es → (n : ℕ) (e : K × X)
      → slice_get es n ≡ Some e → test e.0 ≡ false
  within [] h zero e at = cc
  within [] h (suc n) e at = cc
  within (x ∷ es) h zero e at = let q : x ≡ e = cc in subst (λ (y : K × X). test y.0 ≡ false) q h.0
  within (x ∷ es) h (suc n) e at = within es h.1 n e at

  -- where a look-up finds none, the test fails at each key
  pub fails : (es : List (K × X)) → lookup test es ≡ None → (n : ℕ) (e : K × X) → slice_get es n ≡ Some e
      → test e.0 ≡ false
  fails es h = within es (none_passes_from_lookup test es h)

  -- the key that a look-up finds passes the test
  pub passes : (es : List (K × X)) (k : K) → lookup_key test es ≡ Some k → test k ≡ true
  passes [] k h = cc
  passes (x ∷ es) k h = by (test x.0) refl h (λ g. passes es k g)
    where
      by : (b : Bool) → test x.0 ≡ b → cond b (Some x.0) (lookup_key test es) ≡ Some k
          → (lookup_key test es ≡ Some k → test k ≡ true) → test k ≡ true
      by true e g rest = let q : x.0 ≡ k = cc in subst (λ y. test y ≡ true) q e
      by false e g rest = rest g

-- the pair at a place, by its parts
pub pair_at : {K V : Type 0} (es : List (K × V)) (n : ℕ) (k : K) (v : V) → slice_get (map (λ e. e.0) es) n ≡ Some k
    → slice_get (map (λ e. e.1) es) n ≡ Some v → slice_get es n ≡ Some (k, v)
pair_at [] zero k v p q = cc
pair_at [] (suc n) k v p q = cc
pair_at (e ∷ es) zero k v p q =
    let first : e.0 ≡ k = cc in
    let second : e.1 ≡ v = cc in
    λ i. Some (first i, second i)
pair_at (e ∷ es) (suc n) k v p q = pair_at es n k v p q
