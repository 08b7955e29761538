-- The lists of the fields of classes: with one more field, and after others are added.
use Rattle.std.proofs.Common.{◌≡◌, ◌<◌, ◌≤◌, ◌+◌, ◌≢◌, ℕ, zero, suc, List, [], ◌∷◌, ◌++◌, length, get_or, refl}
use Rattle.std.proofs.Common.{sym, ap}
use Rattle.std.proofs.Common.{take, map, ◌∙◌, ◌⊎◌, inl, inr, subst, arith, length-append, append_assoc, append-nil}
use Rattle.std.specs.Prelude.{Bool, true, false, if◌then◌else◌, ◌==◌, Option, Some, None, slice_get, slice_index_or}
use Rattle.std.specs.Prelude.{IfSome, MatchOption, not}
use Rattle.std.specs.Borrow.{Bor}
use Rattle.std.specs.Option.{option_map}
use Rattle.std.proofs.lemmas.List.{take_more}
use Rattle.std.proofs.lemmas.Option.{slice_get_read, slice_get_within, get_or_from_slice_get}
use Rattle.std.proofs.lemmas.Bool.Decides.{nat_tests}
use Rattle.std.proofs.Math.Seq.{get_or-append_seam}
use Rattle.pc_scope.specs.Resolution.{index_of}
use Rattle.pc_shared_maps.specs.declared.lists.ListPlace.{ListPlace}
use Rattle.pc_shared_maps.specs.declared.lists.SharedList.{SharedList}
use Rattle.pc_shared_maps.specs.declared.lists.SharedLists.{SharedLists}
use Rattle.pc_shared_maps.specs.SharedLists.{empty_list, list_place_at, needed_or, needed_at, HasRoom, AreNamed, KeepsLists}
use Rattle.pc_shared_maps.proofs.Naming.{map_end, map_length}
use Rattle.pc_class.specs.declared.table.Parameter.{Parameter as RustParameter}
use Rattle.pc_class.specs.FieldLists.{IsListPlace, IsListPlaceIfAny, IsListOf, fields_in, list_at}
use Rattle.pc_class.specs.Listed.{names_listed, needed_in, is_defaulted, parameter_name}
use Rattle.pc_class.specs.Parts.{items_in_span}
use Rattle.pc_class.specs.Tables.{ClassEntry, empty_entry, inherited_entry}
use Rattle.pc_class.proofs.TableFields.{span, part_more, part_none}
use Rattle.pc_class.proofs.TableMore.{get_before, get_last, index_before}

pub lists_same : (s : SharedLists) → KeepsLists s s
lists_same s = record { room = λ l r. r; names = λ l word r. refl; list_places = λ l place r. refl }

pub lists_on : (s t u : SharedLists) → KeepsLists s t → KeepsLists t u → KeepsLists s u
lists_on s t u k m = record {
  room = λ l r. m.room l (k.room l r);
  names = λ l word r. m.names l word (k.room l r) ∙ k.names l word r;
  list_places = λ l place r. m.list_places l place (k.room l r) ∙ k.list_places l place r;
}

-- the number of needed fields, by whether there is a default
needed_by_default : (default needs : Bool) (many last : ℕ) → needs ≡ not default
    → (if needs then many else last) ≡ (if default then last else many)
needed_by_default true needs many last e = ap (λ (b : Bool). if b then many else last) e
needed_by_default false needs many last e = ap (λ (b : Bool). if b then many else last) e

module _ {Ty : Type 0} where
  -- a list stays
  pub list_kept : (s t : SharedLists) → KeepsLists s t → (fields these : List (RustParameter Ty)) (l : SharedList)
      → IsListOf fields s these l → IsListOf fields t these l
  list_kept s t k fields these l h = record {
    room = k.room l h.room;
    count = h.count;
    needed = h.needed;
    names = λ word. k.names l word h.room ∙ h.names word;
    list_places = λ place. subst (IsListPlaceIfAny fields these place) (sym (k.list_places l place h.room)) (h.list_places place);
  }

  -- the list without fields
  pub list_of_none : (s : SharedLists) (fields : List (RustParameter Ty)) → HasRoom s empty_list
      → AreNamed s empty_list [] → ((place : ℕ) → list_place_at s empty_list place ≡ None) → IsListOf fields s [] empty_list
  list_of_none s fields room names list_places = record {
    room = room;
    count = refl;
    needed = refl;
    names = names;
    list_places = λ place. subst (IsListPlaceIfAny fields [] place) (sym (list_places place)) (omega arith);
  }

  -- the fields without default before a place do not depend on those behind
  needed_front : (ps qs : List (RustParameter Ty)) (k : ℕ) → k ≤ length ps → needed_in (ps ++ qs) k ≡ needed_in ps k
  needed_front ps qs zero less = refl
  needed_front ps qs (suc k) less =
      ap (λ o. if is_defaulted o then needed_in (ps ++ qs) k else suc k) (get_before ps qs k (omega (arith, less)))
      ∙ ap (λ n. if is_defaulted (slice_get ps k) then n else suc k) (needed_front ps qs k (omega (arith, less)))

  needed_end : (ps : List (RustParameter Ty)) (p : RustParameter Ty) → needed_in (ps ++ p ∷ []) (suc (length ps))
      ≡ (if p.has_default then needed_in ps (length ps) else suc (length ps))
  needed_end ps p =
      ap (λ o. if is_defaulted o then needed_in (ps ++ p ∷ []) (length ps) else suc (length ps)) (get_last ps p)
      ∙ ap (λ n. if p.has_default then n else suc (length ps)) (needed_front ps (p ∷ []) (length ps) (omega arith))

  module _ (fields these : List (RustParameter Ty)) (s t : SharedLists) (l m : SharedList) (x : RustParameter Ty)
      (number : ℕ) (needs : Bool) (h : IsListOf fields s these l) (there : slice_get fields number ≡ Some x)
      (default : needs ≡ not x.has_default) (room : HasRoom t m) (count : m.count ≡ l.count + 1)
      (needed : m.needed ≡ (if needs then l.count + 1 else l.needed))
      (names : (ns : List (List ℕ)) → AreNamed s l ns → l.count ≡ length ns
      → AreNamed t m (ns ++ parameter_name x ∷ []))
      (list_places : (place : ℕ) → list_place_at t m place ≡ (if place == l.count then Some (let q : ListPlace = record {
        number = number;
        needed = l.needed;
      } in q) else list_place_at s l place)) where
    abbrev pub all : List (RustParameter Ty)
    all = these ++ x ∷ []

    longer : length all ≡ suc (length these)
    longer = let e = length-append these (x ∷ []) in omega (arith, e)

    abbrev list_place : ListPlace
    list_place = record { number = number; needed = l.needed }

    list_place_here : (k : ℕ) → k ≡ length these → IsListPlace fields all k list_place
    list_place_here k e = record {
      within = let f = longer in omega (arith, e, f);
      field = there ∙ sym (ap (slice_get all) e ∙ get_last these x);
      needed = h.needed ∙ sym (ap (needed_in all) e ∙ needed_front these (x ∷ []) (length these) (omega arith));
    }

    list_place_before : (k : ℕ) → k ≢ length these → (o : Option ListPlace) → IsListPlaceIfAny fields these k o
        → IsListPlaceIfAny fields all k o
    list_place_before k other None less = let f = longer in omega (arith, f, less, other)
    list_place_before k other (Some q) g = let w = g.within in record {
      within = let f = longer in omega (arith, f, w);
      field = g.field ∙ sym (get_before these (x ∷ []) k w);
      needed = g.needed ∙ sym (needed_front these (x ∷ []) k (omega (arith, w)));
    }

    list_place_more : (k : ℕ) (b : Bool) → (k == l.count) ≡ b
        → IsListPlaceIfAny fields all k (if b then Some list_place else list_place_at s l k)
    list_place_more k true e = let c = h.count in list_place_here k (grind (arith, nat_tests, e, c))
    list_place_more k false e = let c = h.count in
        list_place_before k (λ f. absurd (grind (arith, nat_tests, e, f, c))) (list_place_at s l k) (h.list_places k)

    one_more : l.count + 1 ≡ suc (length these)
    one_more = let c = h.count in omega (arith, c)

    pub list_more : IsListOf fields t all m
    list_more = record {
      room = room;
      count = let c = h.count in let f = longer in omega (arith, c, f, count);
      needed = needed ∙ needed_by_default x.has_default needs (l.count + 1) l.needed default
          ∙ ap (λ n. if x.has_default then n else l.count + 1) h.needed
          ∙ ap (λ n. if x.has_default then needed_in these (length these) else n) one_more
          ∙ sym (ap (needed_in all) longer ∙ needed_end these x);
      names = λ word. names (names_listed these) h.names (h.count ∙ sym (map_length parameter_name these)) word
          ∙ ap (index_of word) (sym (map_end parameter_name these x));
      list_places = λ k. subst (IsListPlaceIfAny fields all k) (sym (list_places k)) (list_place_more k (k == l.count) refl);
    }

-- ---- a part with one more

module _ {X : Type 0} (xs : List X) (before : List X) where
  pub part_first : (start : ℕ) → before ++ items_in_span xs (span start start) ≡ before
  part_first start = ap (λ ys. before ++ ys) (part_none xs start start (omega arith)) ∙ append-nil before

  pub part_next : (start number : ℕ) (x : X) → start ≤ number → number < length xs → x ≡ get_or xs number x
      → before ++ items_in_span xs (span start (number + 1)) ≡ (before ++ items_in_span xs (span start number)) ++ x ∷ []
  part_next start number x order less is =
      ap (λ n. before ++ items_in_span xs (span start n)) (let e : number + 1 ≡ suc number = omega arith in e)
      ∙ ap (λ ys. before ++ ys) (part_more xs start number x order less is)
      ∙ sym (append_assoc before (items_in_span xs (span start number)) (x ∷ []))

-- ---- the lists of all classes

index_past : {X : Type 0} (xs : List X) (i : ℕ) (d : X) → length xs ≤ i → slice_index_or xs i d ≡ d
index_past [] i d h = refl
index_past (x ∷ xs) zero d h = absurd (omega (arith, h))
index_past (x ∷ xs) (suc i) d h = index_past xs i d (omega (arith, h))

module _ {Ty : Type 0} (fields : List (RustParameter Ty)) (s : SharedLists) (es : List (ClassEntry Ty))
    (classes : List SharedList) (class : ℕ) (none : IsListOf fields s [] empty_list)
    (each : (c : ℕ) → c < class → IsListOf fields s (fields_in es c) (slice_index_or classes c empty_list)) where
  -- the list of a base
  based_list : (o : Option ℕ) → ((b : ℕ) → o ≡ Some b → b < class)
      → IsListOf fields s (inherited_entry es o).fields (list_at classes o)
  based_list None before = none
  based_list (Some b) before = each b (before b refl)

  pub inherited_list : (o : Option ℕ) → ((b : ℕ) → o ≡ Some b → b < class) → (xs : List SharedList) (l : SharedList)
      → xs ≡ classes → l ≡ list_at xs o → IsListOf fields s (inherited_entry es o).fields l
  inherited_list o before xs l same is = subst (IsListOf fields s (inherited_entry es o).fields)
      (sym (is ∙ ap (λ (ys : List SharedList). list_at ys o) same)) (based_list o before)

  -- a list for each class
  pub class_lists : length classes ≡ class → length es ≤ class → (o : Option ℕ)
      → IsListOf fields s (inherited_entry es o).fields (list_at classes o)
  class_lists many all None = none
  class_lists many all (Some c) = go (cases c class)
    where
      cases : (i n : ℕ) → (i < n) ⊎ (n ≤ i)
      cases i n = grind arith

      go : (c < class) ⊎ (class ≤ c) → IsListOf fields s (fields_in es c) (slice_index_or classes c empty_list)
      go (inl less) = each c less
      go (inr past) = subst (λ (e : ClassEntry Ty). IsListOf fields s e.fields (slice_index_or classes c empty_list))
          (sym (index_past es c empty_entry (omega (arith, past, all))))
          (subst (λ (l : SharedList). IsListOf fields s [] l)
          (sym (index_past classes c empty_list (omega (arith, past, many)))) none)

  -- the lists with that of one class more
  module _ (t : SharedLists) (new : List SharedList) (list : SharedList) (many : length classes ≡ class)
      (kept : KeepsLists s t) (pushed : new ≡ classes ++ list ∷ []) (here : IsListOf fields t (fields_in es class) list)
    where
      pub many_more : length new ≡ class + 1
      many_more = let e = ap length pushed in let f = length-append classes (list ∷ []) in omega (arith, e, f, many)

      pub each_more : (c : ℕ) → c < class + 1 → IsListOf fields t (fields_in es c) (slice_index_or new c empty_list)
      each_more c less = subst (λ (xs : List SharedList). IsListOf fields t (fields_in es c)
          (slice_index_or xs c empty_list)) (sym pushed) (go (cases c less))
        where
          cases : (i : ℕ) → i < class + 1 → (i < class) ⊎ (i ≡ length classes)
          cases i less = grind (arith, less, many)

          go : (c < class) ⊎ (c ≡ length classes)
              → IsListOf fields t (fields_in es c) (slice_index_or (classes ++ list ∷ []) c empty_list)
          go (inl l) = subst (IsListOf fields t (fields_in es c))
              (sym (index_before classes (list ∷ []) c empty_list (omega (arith, l, many))))
              (list_kept s t kept fields (fields_in es c) _ (each c l))
          go (inr e) = subst (λ k. IsListOf fields t (fields_in es k)
              (slice_index_or (classes ++ list ∷ []) k empty_list))
              (sym e) (subst (IsListOf fields t (fields_in es (length classes)))
              (sym (get_or-append_seam classes list [] empty_list))
              (subst (λ k. IsListOf fields t (fields_in es k) list) (sym many) here))

-- ---- look-ups in a list of fields

get_past : {X : Type 0} (xs : List X) (i : ℕ) → length xs ≤ i → slice_get xs i ≡ None
get_past [] i past = refl
get_past (x ∷ xs) zero past = absurd (omega (arith, past))
get_past (x ∷ xs) (suc i) past = get_past xs i (omega (arith, past))

module _ {Ty : Type 0} (fields these : List (RustParameter Ty)) (s : SharedLists) (l : SharedList)
    (h : IsListOf fields s these l) (place : ℕ) where
  -- up to where there is a field without default before a place
  pub needed_told : place ≤ length these → needed_at s l place ≡ needed_in these place
  needed_told within = go (list_place_at s l place) (h.list_places place)
    where
      go : (o : Option ListPlace) → IsListPlaceIfAny fields these place o → needed_or l.needed o ≡ needed_in these place
      go None past = h.needed ∙ ap (needed_in these)
          (let e : length these ≡ place = omega (arith, past, within) in e)
      go (Some q) is = is.needed

  -- no field at a place without a list place
  pub no_list_place : list_place_at s l place ≡ None → slice_get these place ≡ None
  no_list_place none = get_past these place (subst (IsListPlaceIfAny fields these place) none (h.list_places place))

  -- the field of a list place
  pub field_of_list_place : (q : ListPlace) → list_place_at s l place ≡ Some q → slice_get fields q.number ≡ slice_get these place
  field_of_list_place q is = (subst (IsListPlaceIfAny fields these place) is (h.list_places place)).field

-- an element got from a slice
pub got_at : {X : Type 0} (Q : X → Type 0) (xs : List X) (i : ℕ) (o : Option (Bor X))
    → IfSome o (λ x. x.now ≡ get_or xs i x.now) → MatchOption o (length xs ≤ i) (λ x. (i < length xs) × Q x.now)
    → option_map (λ (x : Bor X). x.now) o ≡ slice_get xs i
got_at Q xs i None is within = sym (get_past xs i within)
got_at Q xs i (Some x) is within = sym (slice_get_read xs (length xs) i x.now refl within.0 is)

-- the first elements, and one more
pub one_taken : {X Y : Type 0} (f : X → Y) (taken : List X) (xs : List Y) (i : ℕ) (x : X) → map f taken ≡ take i xs
    → Some (f x) ≡ slice_get xs i → map f (taken ++ x ∷ []) ≡ take (i + 1) xs
one_taken f taken xs i x is there =
    map_end f taken x
    ∙ ap (λ ys. ys ++ f x ∷ []) is
    ∙ ap (λ y. take i xs ++ y ∷ []) (sym (get_or_from_slice_get xs i (f x) (f x) (sym there)))
    ∙ sym (take_more xs i (f x) (slice_get_within xs i (f x) (sym there)))

-- without an element at a place, it is past the end
pub past_end : {X : Type 0} (xs : List X) (i : ℕ) → None ≡ slice_get xs i → length xs ≤ i
past_end [] i none = omega arith
past_end (x ∷ xs) zero none = absurd (grind (arith, none))
past_end (x ∷ xs) (suc i) none = let past = past_end xs i none in omega (arith, past)
