-- Names with numbers: a name that is put in changes the number of no other, and no map that was there.
use Rattle.std.proofs.Common.{◌≡◌, ◌<◌, ◌≤◌, ◌==◌, ◌⊎◌, ℕ, zero, suc, List, [], ◌∷◌, ◌++◌, map, length, refl, sym, ap}
use Rattle.std.proofs.Common.{◌∙◌, subst, inl, inr, arith, length-append}
use Rattle.std.specs.Prelude.{Bool, true, false, ◌||◌, if◌then◌else◌, Option, Some, None, bytes_eq, slice_get}
use Rattle.std.specs.Option.{option_map}
use Rattle.std.proofs.lemmas.Bool.{false≢true}
use Rattle.std.proofs.lemmas.Bool.Decides.{nat_tests}
use Rattle.std.proofs.lemmas.Slice.Eq.{bytes_eq-Decides}
use Rattle.std.proofs.lemmas.Map.Keys.{IsDistinct-head, IsDistinct-tail}
use Rattle.std.specs.List.{IsDistinct, AllByRecursion}
use Rattle.pc_scope.specs.Resolution.{index_of, is_one_of}
use Rattle.pc_shared_maps.specs.declared.shared.MapNode.{MapNode}
use Rattle.pc_shared_maps.specs.SharedMaps.{held_at, KeepsMaps, HasBelow}
use Rattle.pc_shared_maps.specs.NameMaps.{NameMaps, number_at, named_at, with_text, IsNumbered, KeepsNamed}
use Rattle.pc_shared_maps.proofs.SharedParts.{IsPut}

same_text : (t : List ℕ) → bytes_eq t t ≡ true
same_text t = (bytes_eq-Decides t t).1 refl

-- ---- numbers of names

later_is : (o : Option ℕ) (i : ℕ) → option_map suc o ≡ Some (suc i) → o ≡ Some i
later_is None i e = absurd (grind (arith, e))
later_is (Some j) i e = grind arith

later_zero : (o : Option ℕ) → option_map suc o ≡ Some 0 → ⊥
later_zero None e = grind (arith, e)
later_zero (Some j) e = grind (arith, e)

-- two names of one number are the same
pub same_number : (t u : List ℕ) (names : List (List ℕ)) (i : ℕ) → index_of t names ≡ Some i → index_of u names ≡ Some i
    → t ≡ u
same_number t u [] i e f = absurd (grind (arith, e))
same_number t u (n ∷ names) i e f = go (bytes_eq t n) (bytes_eq u n) refl refl i e f
    (λ j g h. same_number t u names j g h)
  where
    go : (a b : Bool) → bytes_eq t n ≡ a → bytes_eq u n ≡ b → (i : ℕ)
        → (if a then Some 0 else option_map suc (index_of t names)) ≡ Some i
        → (if b then Some 0 else option_map suc (index_of u names)) ≡ Some i
        → ((j : ℕ) → index_of t names ≡ Some j → index_of u names ≡ Some j → t ≡ u) → t ≡ u
    go true true a b i e f rest = (bytes_eq-Decides t n).0 a ∙ sym ((bytes_eq-Decides u n).0 b)
    go true false a b zero e f rest = absurd (later_zero (index_of u names) f)
    go true false a b (suc i) e f rest = absurd (grind (arith, e))
    go false true a b zero e f rest = absurd (later_zero (index_of t names) e)
    go false true a b (suc i) e f rest = absurd (grind (arith, f))
    go false false a b zero e f rest = absurd (later_zero (index_of t names) e)
    go false false a b (suc i) e f rest = rest i (later_is (index_of t names) i e) (later_is (index_of u names) i f)

all_at : {A : Type 0} (P : A → Type 0) (xs : List A) (i : ℕ) (x : A) → AllByRecursion P xs → slice_get xs i ≡ Some x
    → P x
all_at P [] i x h e = absurd (grind (arith, e))
all_at P (y ∷ xs) zero x h e = let q : y ≡ x = cc in subst P q h.0
all_at P (y ∷ xs) (suc i) x h e = all_at P xs i x h.1 e

-- a name that stands once has the number of its place
pub number_once : {A : Type 0} (f : A → List ℕ) (ks : List A) (i : ℕ) (k : A)
    → IsDistinct (λ x y. bytes_eq (f x) (f y)) ks → slice_get ks i ≡ Some k → index_of (f k) (map f ks) ≡ Some i
number_once f [] i k d e = absurd (grind (arith, e))
number_once f (x ∷ ks) zero k d e = let q : x ≡ k = cc in
    ap (λ b. if b then Some 0 else option_map suc (index_of (f k) (map f ks)))
    (subst (λ y. bytes_eq (f k) (f y) ≡ true) (sym q) (same_text (f k)))
number_once f (x ∷ ks) (suc i) k d e = go (bytes_eq (f k) (f x)) refl
    (number_once f ks i k (IsDistinct-tail (λ x y. bytes_eq (f x) (f y)) x ks d) e)
  where
    apart : bytes_eq (f x) (f k) ≡ false
    apart = all_at (λ y. bytes_eq (f x) (f y) ≡ false) ks i k
        (IsDistinct-head (λ x y. bytes_eq (f x) (f y)) x ks d) e

    go : (b : Bool) → bytes_eq (f k) (f x) ≡ b → index_of (f k) (map f ks) ≡ Some i
        → (if b then Some 0 else option_map suc (index_of (f k) (map f ks))) ≡ Some (suc i)
    go true q rest = absurd (false≢true (sym apart ∙ (subst (λ t. bytes_eq (f x) t ≡ true)
        (sym ((bytes_eq-Decides (f k) (f x)).0 q)) (same_text (f x)))))
    go false q rest = ap (option_map suc) rest

-- a number is less than the number of names
pub number_less : (t : List ℕ) (names : List (List ℕ)) (i : ℕ) → index_of t names ≡ Some i → i < length names
number_less t [] i e = absurd (grind (arith, e))
number_less t (n ∷ names) i e = go (bytes_eq t n) i e (λ j g. number_less t names j g)
  where
    go : (a : Bool) (i : ℕ) → (if a then Some 0 else option_map suc (index_of t names)) ≡ Some i
        → ((j : ℕ) → index_of t names ≡ Some j → j < length names) → i < length (n ∷ names)
    go a zero e rest = omega arith
    go true (suc i) e rest = absurd (grind (arith, e))
    go false (suc i) e rest = let h = rest i (later_is (index_of t names) i e) in omega arith

-- a name that is not among others has no number, and the next one after them
pub no_number : (t : List ℕ) (names : List (List ℕ)) → is_one_of t names ≡ false → index_of t names ≡ None
no_number t [] e = refl
no_number t (n ∷ names) e = go (bytes_eq t n) e (λ g. no_number t names g)
  where
    go : (a : Bool) → (a || is_one_of t names) ≡ false → (is_one_of t names ≡ false → index_of t names ≡ None)
        → (if a then Some 0 else option_map suc (index_of t names)) ≡ None
    go true e rest = absurd (false≢true (sym e))
    go false e rest = ap (option_map suc) (rest e)

pub next_number : (t : List ℕ) (names : List (List ℕ)) → is_one_of t names ≡ false → index_of t (names ++ t ∷ [])
    ≡ Some (length names)
next_number t [] e = ap (λ b. if b then Some 0 else None) (same_text t)
next_number t (n ∷ names) e = go (bytes_eq t n) e (λ g. next_number t names g)
  where
    go : (a : Bool) → (a || is_one_of t names) ≡ false → (is_one_of t names ≡ false → index_of t (names ++ t ∷ [])
        ≡ Some (length names)) → (if a then Some 0 else option_map suc (index_of t (names ++ t ∷ [])))
        ≡ Some (suc (length names))
    go true e rest = absurd (false≢true (sym e))
    go false e rest = ap (option_map suc) (rest e)

-- a name that is among others has a number
pub some_number : (t : List ℕ) (names : List (List ℕ)) (i : ℕ) → index_of t names ≡ Some i → is_one_of t names ≡ true
some_number t names i e = go (is_one_of t names) refl
  where
    go : (b : Bool) → is_one_of t names ≡ b → is_one_of t names ≡ true
    go true f = f
    go false f = absurd (grind (arith, sym (no_number t names f) ∙ e))

-- another name keeps its number
pub other_number : (t u : List ℕ) (names : List (List ℕ)) → bytes_eq t u ≡ false → index_of t (names ++ u ∷ [])
    ≡ index_of t names
other_number t u [] e = ap (λ b. if b then Some 0 else None) e
other_number t u (n ∷ names) e = ap (λ o. if bytes_eq t n then Some 0 else option_map suc o) (other_number t u names e)

-- with one more name at most, another one keeps its number
pub other_with : (t u : List ℕ) (names : List (List ℕ)) → bytes_eq t u ≡ false → index_of t (with_text names u)
    ≡ index_of t names
other_with t u names e = go (is_one_of u names)
  where
    go : (b : Bool) → index_of t (if b then names else names ++ u ∷ []) ≡ index_of t names
    go true = refl
    go false = other_number t u names e

-- and there are no fewer
pub longer_with : (u : List ℕ) (names : List (List ℕ)) → length names ≤ length (with_text names u)
longer_with u names = go (is_one_of u names)
  where
    go : (b : Bool) → length names ≤ length (if b then names else names ++ u ∷ [])
    go true = omega arith
    go false = let e = length-append names (u ∷ []) in omega arith

-- a new name had no number, one that has kept it has the same
pub number_before : (t u : List ℕ) (names : List (List ℕ)) (i : ℕ) → bytes_eq t u ≡ true
    → index_of u (with_text names u) ≡ Some i → (index_of t names ≡ Some i)
    ⊎ ((index_of t names ≡ None) × (length names ≤ i))
number_before t u names i e is = go (is_one_of u names) refl is
  where
    same : t ≡ u
    same = (bytes_eq-Decides t u).0 e

    go : (b : Bool) → is_one_of u names ≡ b → index_of u (if b then names else names ++ u ∷ []) ≡ Some i
        → (index_of t names ≡ Some i) ⊎ ((index_of t names ≡ None) × (length names ≤ i))
    go true f is = inl (ap (λ x. index_of x names) same ∙ is)
    go false f is = inr (
      ap (λ x. index_of x names) same ∙ no_number u names f,
      (let g : Some i ≡ Some (length names) = sym is ∙ next_number u names f in let h : i ≡ length names =
          grind arith in omega arith),
    )

-- a name with a number is one of those that there were
pub with_present : (t : List ℕ) (names : List (List ℕ)) (i : ℕ) → index_of t names ≡ Some i → names ≡ with_text names t
with_present t names i e = sym (ap (λ b. if b then names else names ++ t ∷ []) (some_number t names i e))

pub with_absent : (t : List ℕ) (names : List (List ℕ)) → is_one_of t names ≡ false → names ++ t ∷ [] ≡ with_text names t
with_absent t names e = sym (ap (λ b. if b then names else names ++ t ∷ []) e)

-- ---- maps

-- the value of a map at a name is that at the name's number; at a name without a number there is none
pub held_named : (d : NameMaps) (map k : ℕ) (name : List ℕ) → index_of name d.texts ≡ Some k
    → held_at d.nodes map k ≡ named_at d map name
unfolding named_at
held_named d map k name e = sym (ap (number_at d.nodes map) e)

pub none_named : (d : NameMaps) (map : ℕ) (name : List ℕ) → index_of name d.texts ≡ None → None ≡ named_at d map name
unfolding named_at
none_named d map name e = sym (ap (number_at d.nodes map) e)

-- a value put at a name is the map's value there, and the values at all other names are unchanged
pub put_named : (old new : NameMaps) (name : List ℕ) (number map value at : ℕ) → IsNumbered old
    → new.texts ≡ with_text old.texts name → index_of name new.texts ≡ Some number → map < length old.nodes
    → IsPut old.nodes map number value new.nodes at → (t : List ℕ)
    → named_at new at t ≡ (if bytes_eq t name then Some value else named_at old map t)
unfolding named_at
put_named old new name number map value at numbered texts is h put t = go (bytes_eq t name) refl
  where
    by_number : (o : Option ℕ) → ((k : ℕ) → o ≡ Some k → (k == number) ≡ false)
        → number_at new.nodes at o ≡ number_at old.nodes map o
    by_number None d = refl
    by_number (Some k) d = put k ∙ ap (λ b. if b then Some value else held_at old.nodes map k) (d k refl)

    same : (k : ℕ) → (k == k) ≡ true
    same k = grind (arith, nat_tests)

    other : bytes_eq t name ≡ false → (k : ℕ) → index_of t new.texts ≡ Some k → (b : Bool) → (k == number) ≡ b
        → (k == number) ≡ false
    other d k e false f = f
    other d k e true f =
        absurd
        (false≢true (sym d ∙ (bytes_eq-Decides t name).1 (same_number t name new.texts number
        (e ∙ ap Some (grind (arith, nat_tests))) is)))

    go : (b : Bool) → bytes_eq t name ≡ b → number_at new.nodes at (index_of t new.texts)
        ≡ (if b then Some value else number_at old.nodes map (index_of t old.texts))
    go true e = ap (number_at new.nodes at) (ap (λ x. index_of x new.texts) ((bytes_eq-Decides t name).0 e) ∙ is)
        ∙ put number ∙ ap (λ b. if b then Some value else held_at old.nodes map number) (same number)
    go false e = by_number (index_of t new.texts) (λ k f. other e k f (k == number) refl)
        ∙ ap (number_at old.nodes map) (ap (index_of t) texts ∙ other_with t name old.texts e)

-- the maps that were there before keep their values at names
pub kept_named : (old new : NameMaps) (name : List ℕ) (number : ℕ) → IsNumbered old
    → new.texts ≡ with_text old.texts name → index_of name new.texts ≡ Some number → KeepsMaps old.nodes new.nodes
    → KeepsNamed old new
unfolding named_at
kept_named old new name number numbered texts is keeps = record {
  more = keeps.more;
  same = λ map t h. go map t h (bytes_eq t name) refl;
}
  where
    by_number : (map : ℕ) (o : Option ℕ) → map < length old.nodes → number_at new.nodes map o ≡ number_at old.nodes map
        o
    by_number map None h = refl
    by_number map (Some k) h = keeps.same map k h

    as_before : (map : ℕ) (t : List ℕ) → map < length old.nodes → bytes_eq t name ≡ true
        → (index_of t old.texts ≡ Some number) ⊎ ((index_of t old.texts ≡ None) × (length old.texts ≤ number))
        → number_at new.nodes map (index_of t new.texts) ≡ number_at old.nodes map (index_of t old.texts)
    as_before map t h e (inl f) = ap (number_at new.nodes map) (ap (λ x. index_of x new.texts)
        ((bytes_eq-Decides t name).0 e) ∙ is) ∙ keeps.same map number h ∙ sym (ap (number_at old.nodes map) f)
    as_before map t h e (inr f) = ap (number_at new.nodes map) (ap (λ x. index_of x new.texts)
        ((bytes_eq-Decides t name).0 e) ∙ is) ∙ keeps.same map number h ∙ numbered.nothing map number h f.1
        ∙ sym (ap (number_at old.nodes map) f.0)

    go : (map : ℕ) (t : List ℕ) → map < length old.nodes → (b : Bool) → bytes_eq t name ≡ b
        → number_at new.nodes map (index_of t new.texts) ≡ number_at old.nodes map (index_of t old.texts)
    go map t h true e = as_before map t h e (number_before t name old.texts number e (ap (index_of name) (sym texts)
        ∙ is))
    go map t h false e = ap (number_at new.nodes map) (ap (index_of t) texts ∙ other_with t name old.texts e)
        ∙ by_number map (index_of t old.texts) h

-- the numbers in maps stay those of names
pub numbered_more : (old new : NameMaps) (name : List ℕ) (number : ℕ) → IsNumbered old
    → new.texts ≡ with_text old.texts name → index_of name new.texts ≡ Some number
    → ((limit : ℕ) → number < limit → HasBelow limit old.nodes → HasBelow limit new.nodes) → IsNumbered new
numbered_more old new name number numbered texts is below = below (length new.texts)
    (number_less name new.texts number is) (record {
      nothing = λ map k h g. numbered.nothing map k h (let l : length old.texts ≤ length new.texts =
          subst (λ (x : List (List ℕ)). length old.texts ≤ length x) (sym texts) (longer_with name old.texts) in
          omega arith);
    })

-- more names alone change no map
pub numbered_names : (texts more : List (List ℕ)) (nodes : List MapNode) → length texts ≤ length more
    → HasBelow (length texts) nodes → HasBelow (length more) nodes
numbered_names texts more nodes l numbered = record { nothing = λ map k h g. numbered.nothing map k h (omega arith) }

pub nothing_named : (d : NameMaps) → ((key : ℕ) → held_at d.nodes 0 key ≡ None) → (name : List ℕ)
    → named_at d 0 name ≡ None
unfolding named_at
nothing_named d none name = go (index_of name d.texts)
  where
    go : (o : Option ℕ) → number_at d.nodes 0 o ≡ None
    go None = refl
    go (Some k) = none k

pub map_length : {A B : Type 0} (f : A → B) (xs : List A) → length (map f xs) ≡ length xs
map_length f [] = refl
map_length f (x ∷ xs) = ap suc (map_length f xs)

pub map_end : {A B : Type 0} (f : A → B) (xs : List A) (y : A) → map f (xs ++ y ∷ []) ≡ map f xs ++ (f y ∷ [])
map_end f [] y = refl
map_end f (x ∷ xs) y = ap (λ l. f x ∷ l) (map_end f xs y)
