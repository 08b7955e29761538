-- Lists that share their common parts: earlier lists are kept when one is built on them.
use Rattle.std.proofs.Common.{◌≡◌, ◌<◌, ◌+◌, ℕ, zero, suc, List, [], ◌∷◌, ◌++◌, length, refl, sym, ap, ◌∙◌, subst}
use Rattle.std.proofs.Common.{arith, length-append}
use Rattle.std.specs.Prelude.{Bool, true, false, if◌then◌else◌, ◌==◌, is_some, Option, Some, None, slice_get, bytes_eq}
use Rattle.std.specs.Option.{option_map}
use Rattle.std.proofs.lemmas.Slice.Eq.{bytes_eq-Decides}
use Rattle.pc_tree.specs.Names.{first_of}
use Rattle.pc_scope.specs.Resolution.{index_of}
use Rattle.pc_shared_maps.specs.declared.lists.ListPlace.{ListPlace}
use Rattle.pc_shared_maps.specs.declared.lists.SharedList.{SharedList}
use Rattle.pc_shared_maps.specs.declared.lists.SharedLists.{SharedLists}
use Rattle.pc_shared_maps.specs.SharedLists.{at_number, IsNumberIn, list_place_at, HasRoom, KeepsLists}
use Rattle.pc_shared_maps.specs.NameMaps.{NameMaps, IsMap, named_at, KeepsNamed}
use Rattle.pc_shared_maps.specs.SharedMaps.{held_at, KeepsMaps}

-- ---- numbers of a list and of a longer one

pub get_left : {A : Type 0} (xs ys : List A) (i : ℕ) → i < length xs → slice_get (xs ++ ys) i ≡ slice_get xs i
get_left [] ys i h = absurd (omega arith)
get_left (x ∷ xs) ys zero h = refl
get_left (x ∷ xs) ys (suc i) h = get_left xs ys i (omega arith)

pub get_end : {A : Type 0} (xs : List A) (y : A) → slice_get (xs ++ y ∷ []) (length xs) ≡ Some y
get_end [] y = refl
get_end (x ∷ xs) y = get_end xs y

pub at_left : {A : Type 0} (xs ys : List A) (o : Option ℕ) → IsNumberIn xs o → at_number (xs ++ ys) o ≡ at_number xs o
at_left xs ys None h = refl
at_left xs ys (Some i) h = get_left xs ys i h

pub within_left : {A : Type 0} (xs ys : List A) (o : Option ℕ) → IsNumberIn xs o → IsNumberIn (xs ++ ys) o
within_left xs ys None h = tt
within_left xs ys (Some i) h = let e = length-append xs ys in omega arith

-- ---- one name more

-- the place of a word, with one name more behind
pub index_behind : (word : List ℕ) (names : List (List ℕ)) (name : List ℕ) → index_of word (names ++ name ∷ [])
    ≡ first_of (index_of word names) (if bytes_eq word name then Some (length names) else None)
index_behind word [] name = go (bytes_eq word name)
  where
    go : (b : Bool) → (if b then Some 0 else option_map suc None) ≡ (if b then Some 0 else None)
    go true = refl
    go false = refl
index_behind word (n ∷ names) name = go (bytes_eq word n) (bytes_eq word name) (index_of word names)
    (index_behind word names name)
  where
    go : (a b : Bool) (o : Option ℕ) → index_of word (names ++ name ∷ []) ≡ first_of o
        (if b then Some (length names) else None)
        → (if a then Some 0 else option_map suc (index_of word (names ++ name ∷ []))) ≡ first_of
        (if a then Some 0 else option_map suc o) (if b then Some (suc (length names)) else None)
    go true b o e = refl
    go false true None e = ap (option_map suc) e
    go false false None e = ap (option_map suc) e
    go false b (Some i) e = ap (option_map suc) e

module _ (d : NameMaps) (map : ℕ) (names : List (List ℕ)) (name : List ℕ)
    (h : (word : List ℕ) → named_at d map word ≡ index_of word names) where
  -- a name that is there already keeps its place
  pub name_there : is_some (named_at d map name) ≡ true → (word : List ℕ) → named_at d map word
      ≡ index_of word (names ++ name ∷ [])
  name_there there word = h word ∙ sym (index_behind word names name
      ∙ go (bytes_eq word name) refl (index_of word names) refl)
    where
      go : (b : Bool) → bytes_eq word name ≡ b → (o : Option ℕ) → index_of word names ≡ o
          → first_of o (if b then Some (length names) else None) ≡ index_of word names
      go b e (Some i) f = sym f
      go false e None f = sym f
      go true e None f = let g = sym there ∙ ap is_some (ap (named_at d map) (sym ((bytes_eq-Decides word name).0 e))
          ∙ h word ∙ f) in absurd (grind (arith, g))

  -- one that is put in has the place behind the others
  pub name_put : (new : NameMaps) (at place : ℕ) → is_some (named_at d map name) ≡ false → place ≡ length names
      → ((word : List ℕ) → named_at new at word ≡ (if bytes_eq word name then Some place else named_at d map word))
      → (word : List ℕ) → named_at new at word ≡ index_of word (names ++ name ∷ [])
  name_put new at place none is put word = put word
      ∙ ap (λ o. if bytes_eq word name then Some place else o) (h word)
      ∙ go (bytes_eq word name) refl (index_of word names) refl
      ∙ ap (λ k. first_of (index_of word names) (if bytes_eq word name then Some k else None)) is
      ∙ sym (index_behind word names name)
    where
      go : (b : Bool) → bytes_eq word name ≡ b → (o : Option ℕ) → index_of word names ≡ o
          → (if b then Some place else index_of word names)
          ≡ first_of (index_of word names) (if b then Some place else None)
      go true e None f = sym (ap (λ o. first_of o (Some place)) f)
      go false e None f = f ∙ sym (ap (λ o. first_of o None) f)
      go false e (Some i) f = f ∙ sym (ap (λ o. first_of o None) f)
      go true e (Some i) f = let g = sym none ∙ ap is_some (ap (named_at d map)
          (sym ((bytes_eq-Decides word name).0 e)) ∙ h word ∙ f) in absurd (grind (arith, g))

-- ---- one list place more

module _ (s t : SharedLists) (named : KeepsNamed s.named t.named) (placed : KeepsMaps s.placed t.placed) (list_place : ListPlace)
    (list_places : t.list_places.items ≡ s.list_places.items ++ list_place ∷ []) where
  module _ (l : SharedList) (r : HasRoom s l) where
    held_kept : (place : ℕ) → held_at t.placed l.list_places place ≡ held_at s.placed l.list_places place
    held_kept place = placed.same l.list_places place r.placed

    room_kept : HasRoom t l
    room_kept = record {
      named = let a = r.named in let b = named.more in omega (arith, a, b);
      placed = let a = r.placed in let b = placed.more in omega (arith, a, b);
      has_places = let a = r.has_places in let b = ap length list_places in let c = length-append s.list_places.items (list_place ∷ []) in
          omega (arith, a, b, c);
      numbered = λ place. subst (IsNumberIn t.list_places.items) (sym (held_kept place))
          (subst (λ (xs : List ListPlace). IsNumberIn xs (held_at s.placed l.list_places place)) (sym list_places)
          (within_left s.list_places.items (list_place ∷ []) (held_at s.placed l.list_places place) (r.numbered place)));
    }

    list_place_kept : (place : ℕ) → list_place_at t l place ≡ list_place_at s l place
    list_place_kept place = ap (at_number t.list_places.items) (held_kept place)
        ∙ ap (λ (xs : List ListPlace). at_number xs (held_at s.placed l.list_places place)) list_places
        ∙ at_left s.list_places.items (list_place ∷ []) (held_at s.placed l.list_places place) (r.numbered place)

  -- the lists that were there stay
  pub lists_kept : KeepsLists s t
  lists_kept = record {
    room = room_kept;
    names = λ l word r. named.same l.names word r.named;
    list_places = λ l place r. list_place_kept l r place;
  }

  -- the list that is built
  module _ (l m : SharedList) (r : HasRoom s l) (is_map : IsMap t.named m.names) (within : m.list_places < length t.placed)
      (count : m.count ≡ l.count + 1)
      (put : (k : ℕ) → held_at t.placed m.list_places k
      ≡ (if k == l.count then Some (length s.list_places.items) else held_at s.placed l.list_places k)) where
    number_more : (k : ℕ) (b : Bool)
        → IsNumberIn (s.list_places.items ++ list_place ∷ [])
        (if b then Some (length s.list_places.items) else held_at s.placed l.list_places k)
    number_more k true = let e = length-append s.list_places.items (list_place ∷ []) in omega (arith, e)
    number_more k false = within_left s.list_places.items (list_place ∷ []) (held_at s.placed l.list_places k) (r.numbered k)

    pub room_more : HasRoom t m
    room_more = record {
      named = is_map;
      placed = within;
      has_places = let a = r.has_places in let b = ap length list_places in let c = length-append s.list_places.items (list_place ∷ []) in
          omega (arith, a, b, c, count);
      numbered = λ k. subst (IsNumberIn t.list_places.items) (sym (put k))
          (subst (λ (xs : List ListPlace). IsNumberIn xs (if k == l.count then Some (length s.list_places.items)
          else held_at s.placed l.list_places k)) (sym list_places) (number_more k (k == l.count)));
    }

    list_place_end : (k : ℕ) (b : Bool) → at_number (s.list_places.items ++ list_place ∷ [])
        (if b then Some (length s.list_places.items) else held_at s.placed l.list_places k)
        ≡ (if b then Some list_place else list_place_at s l k)
    list_place_end k true = get_end s.list_places.items list_place
    list_place_end k false = at_left s.list_places.items (list_place ∷ []) (held_at s.placed l.list_places k) (r.numbered k)

    pub list_place_more : (k : ℕ) → list_place_at t m k ≡ (if k == l.count then Some list_place else list_place_at s l k)
    list_place_more k = ap (at_number t.list_places.items) (put k)
        ∙ ap (λ (xs : List ListPlace). at_number xs (if k == l.count then Some (length s.list_places.items)
        else held_at s.placed l.list_places k)) list_places
        ∙ list_place_end k (k == l.count)
