-- The set that holds the locals of a function, as the list of their texts.
use Rattle.std.proofs.Common.{◌≡◌, ◌+◌, ℕ, suc, List, [], ◌∷◌, ◌++◌, map, refl, ap, ◌∙◌, sym, arith, append_assoc}
use Rattle.std.proofs.Common.{append-nil}
use Rattle.std.proofs.lemmas.List.Sums.{fold-append}
use Rattle.std.specs.Prelude.{Bool, true, false, ◌||◌, if◌then◌else◌, bytes_eq, position, cond, not, nat_lt, length}
use Rattle.std.specs.Prelude.{fold, Option, Some, None, is_some}
use Rattle.std.specs.List.{list_any, position_or_len}
use Rattle.std.specs.Option.{option_map}
use lib.Dec.{leb-suc-suc}
use Rattle.pc_scope.specs.Reserved.{builtin_of, is_builtin_name}
use Rattle.pc_scope.specs.Resolution.{is_one_of, first_of_each, index_of}
use Rattle.pc_scope.specs.Internal.WalkViews.{with_new_local}

-- a set of texts has a text where the list of its texts does
pub among : {A : Type 0} (f : A → List ℕ) (t : List ℕ) (ks : List A) → list_any (λ k. bytes_eq t (f k)) ks
    ≡ is_one_of t (map f ks)
among f t [] = refl
among f t (k ∷ ks) = ap (λ b. bytes_eq t (f k) || b) (among f t ks)

kept : (b : Bool) (names : List (List ℕ)) (text : List ℕ) → b ≡ true → (if b then names else names ++ (text ∷ []))
    ≡ names
kept true names text e = refl
kept false names text e = absurd (grind (arith, e))

added : (b : Bool) (names : List (List ℕ)) (text : List ℕ) → b ≡ false → (if b then names else names ++ (text ∷ []))
    ≡ names ++ (text ∷ [])
added true names text e = absurd (grind (arith, e))
added false names text e = refl

or_both : (a b : Bool) → a ≡ false → b ≡ false → (a || b) ≡ false
or_both true b e f = e
or_both false b e f = f

or_first : (a b : Bool) → a ≡ true → (a || b) ≡ true
or_first true b e = refl
or_first false b e = absurd (grind (arith, e))

or_second : (a b : Bool) → b ≡ true → (a || b) ≡ true
or_second true b e = refl
or_second false b e = e

map_end : {A B : Type 0} (f : A → B) (xs : List A) (y : A) → map f (xs ++ (y ∷ [])) ≡ map f xs ++ (f y ∷ [])
map_end f [] y = refl
map_end f (x ∷ xs) y = ap (λ l. f x ∷ l) (map_end f xs y)

-- a text that is put in comes after the others, if it is not among them
pub put : {A : Type 0} (f : A → List ℕ) (ks : List A) (s : A) (b : Bool) → list_any (λ k. bytes_eq (f s) (f k)) ks ≡ b
    → b ≡ false → map f (if b then ks else ks ++ (s ∷ [])) ≡ map f ks ++ (f s ∷ [])
put f ks s true e e' = absurd (grind (arith, e'))
put f ks s false e e' = map_end f ks s

-- a name that is neither reserved nor a local becomes a local
pub bound_new : (names : List (List ℕ)) (t : List ℕ) → is_some (builtin_of t) ≡ false → is_one_of t names ≡ false
    → with_new_local names t ≡ names ++ (t ∷ [])
bound_new names t e e' = added (is_builtin_name t || is_one_of t names) names t
    (or_both (is_builtin_name t) (is_one_of t names) e e')

-- a reserved name does not become a local
pub bound_reserved : (names : List (List ℕ)) (t : List ℕ) → is_some (builtin_of t) ≡ true
    → with_new_local names t ≡ names
bound_reserved names t e = kept (is_builtin_name t || is_one_of t names) names t
    (or_first (is_builtin_name t) (is_one_of t names) e)

-- a local does not become a local again
pub bound_again : (names : List (List ℕ)) (t : List ℕ) → is_one_of t names ≡ true → with_new_local names t ≡ names
bound_again names t e = kept (is_builtin_name t || is_one_of t names) names t
    (or_second (is_builtin_name t) (is_one_of t names) e)

same_behind : (t x : List ℕ) (names : List (List ℕ)) → is_one_of t (names ++ (x ∷ []))
    ≡ (bytes_eq t x || is_one_of t names)
same_behind t x [] = refl
same_behind t x (n ∷ names) = ap (λ b. bytes_eq t n || b) (same_behind t x names)
    ∙ turned (bytes_eq t n) (bytes_eq t x) (is_one_of t names)
  where
    turned : (a b c : Bool) → (a || (b || c)) ≡ (b || (a || c))
    turned true true c = refl
    turned true false c = refl
    turned false b c = refl

-- names put in one after another are those of first occurrence, after the earlier ones
pub puts : (before names ts : List (List ℕ)) → ((t : List ℕ) → is_one_of t before ≡ is_one_of t names)
    → fold with_new_local names ts ≡ names ++ first_of_each before ts
puts before names [] same = sym (append-nil names)
puts before names (t ∷ ts) same = go (is_builtin_name t || is_one_of t names) refl (puts before names ts same)
    (puts (t ∷ before) (names ++ (t ∷ [])) ts (λ u. ap (λ c. bytes_eq u t || c) (same u) ∙ sym (same_behind u t names)))
  where
    go : (b : Bool) → (is_builtin_name t || is_one_of t names) ≡ b
        → fold with_new_local names ts ≡ names ++ first_of_each before ts
        → fold with_new_local (names ++ (t ∷ [])) ts ≡ (names ++ (t ∷ [])) ++ first_of_each (t ∷ before) ts
        → fold with_new_local (if b then names else names ++ (t ∷ [])) ts ≡ names
        ++ (if is_builtin_name t || is_one_of t before then first_of_each before ts else t ∷ first_of_each
        (t ∷ before) ts)
    go true e old new = rw (ap (λ c. is_builtin_name t || c) (same t) ∙ e) old
    go false e old new = rw (ap (λ c. is_builtin_name t || c) (same t) ∙ e)
        (new ∙ append_assoc names (t ∷ []) (first_of_each (t ∷ before) ts))

-- names put in by three lists in turn are the first occurrences in all three
pub in_turn : (self params body : List (List ℕ)) → fold with_new_local
    (fold with_new_local (fold with_new_local [] self) params) body ≡ first_of_each [] (self ++ (params ++ body))
in_turn self params body = sym (fold-append with_new_local (fold with_new_local [] self) params body)
    ∙ sym (fold-append with_new_local [] self (params ++ body)) ∙ puts [] [] (self ++ (params ++ body)) (λ t. refl)

below : (n : ℕ) → nat_lt 0 (suc n) ≡ true
below n = grind arith

next : (i : ℕ) → 1 + i ≡ suc i
next i = omega arith

one_more : (i n : ℕ) → nat_lt (suc i) (suc n) ≡ nat_lt i n
one_more i n = leb-suc-suc (suc i) n

later : (i n : ℕ) → cond (nat_lt (suc i) (suc n)) (Some (suc i)) None ≡ option_map suc (cond (nat_lt i n) (Some i) None)
later i n = ap (λ c. cond c (Some (suc i)) None) (one_more i n) ∙ go (nat_lt i n)
  where
    go : (b : Bool) → cond b (Some (suc i)) None ≡ option_map suc (cond b (Some i) None)
    go true = refl
    go false = refl

-- the position of a text in a set is its position in the list of its texts
pub placed : {A : Type 0} (f : A → List ℕ) (t : List ℕ) (ks : List A) → position (λ k. bytes_eq t (f k)) ks
    ≡ index_of t (map f ks)
placed f t [] = refl
placed f t (k ∷ ks) = go (bytes_eq t (f k)) (placed f t ks)
  where
    go : (b : Bool) → position (λ x. bytes_eq t (f x)) ks ≡ index_of t (map f ks)
        → cond (nat_lt (cond (not b) (1 + position_or_len (λ x. bytes_eq t (f x)) ks) 0) (suc (length ks)))
        (Some (cond (not b) (1 + position_or_len (λ x. bytes_eq t (f x)) ks) 0)) None
        ≡ (if b then Some 0 else option_map suc (index_of t (map f ks)))
    go true e = ap (λ c. cond c (Some 0) None) (below (length ks))
    go false e = ap (λ j. cond (nat_lt j (suc (length ks))) (Some j) None)
        (next (position_or_len (λ x. bytes_eq t (f x)) ks)) ∙ later (position_or_len (λ x. bytes_eq t (f x)) ks)
        (length ks) ∙ ap (option_map suc) e

some_mapped : (o : Option ℕ) → is_some (option_map suc o) ≡ is_some o
some_mapped None = refl
some_mapped (Some n) = refl

-- a text has a position among others if and only if it is one of them
pub placed_among : (t : List ℕ) (ts : List (List ℕ)) → is_some (index_of t ts) ≡ is_one_of t ts
placed_among t [] = refl
placed_among t (u ∷ us) = go (bytes_eq t u) (placed_among t us)
  where
    go : (b : Bool) → is_some (index_of t us) ≡ is_one_of t us
        → is_some (if b then Some 0 else option_map suc (index_of t us)) ≡ (b || is_one_of t us)
    go true e = refl
    go false e = some_mapped (index_of t us) ∙ e
