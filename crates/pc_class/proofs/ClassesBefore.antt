-- The classes among items, the nearest first: their numbers, and the meaning of the name of a class.
use Rattle.std.proofs.Common.{◌≡◌, ℕ, suc, ◌+◌, ◌<◌, ◌≤◌, List, [], ◌∷◌, map, refl, sym, ap, ◌∙◌, arith}
use Rattle.std.specs.Prelude.{Bool, true, false, ◌&&◌, ◌||◌, not, if◌then◌else◌, nat_lt, Option, Some, None, is_some}
use Rattle.std.specs.Prelude.{slice_get, bytes_eq}
use Rattle.std.proofs.lemmas.Bool.{false≢true, false_from_ne_true, or_parts, and_parts, and_from}
use Rattle.std.proofs.lemmas.Bool.Decides.{nat_tests}
use Rattle.std.proofs.lemmas.Option.{same_Some}
use Rattle.std.proofs.lemmas.Slice.Eq.{bytes_eq-Decides}
use Rattle.pc_source.specs.declared.place.Place.{Place}
use Rattle.pc_source.specs.ReservedNames as keywords
use Rattle.pc_tree.specs.Stopping.{is_among, name_of_item, is_first_binding}
use Rattle.pc_tree.specs.Tree.{ClassDef, Item, constant_item, class_item, def_item, Module}
use Rattle.pc_scope.specs.declared.resolution.Builtin.{Builtin}
use Rattle.pc_scope.specs.declared.resolution.NameMeaning.{NameMeaning}
use Rattle.pc_scope.specs.declared.resolution.NameMeaning.TheVariants as meaning
use Rattle.pc_scope.specs.Reserved.{builtin_of, is_builtin_name}
use Rattle.pc_scope.specs.Bindings.{classes_in}
use Rattle.pc_scope.specs.Resolution.{bound_first, or_meaning, builtin_meaning, resolve_in_module}
use Rattle.pc_annotations.specs.Bases.{earlier_class}
use Rattle.pc_class.proofs.ReservedNames.{reserved_same}

-- items, the nearest first, and then others, as they stand in the text
abbrev pub onto : List Item → List Item → List Item
onto [] rest = rest
onto (i ∷ before) rest = onto before (i ∷ rest)

-- the number of classes among items
abbrev pub class_count : List Item → ℕ
class_count [] = 0
class_count (class_item p c ∷ before) = suc (class_count before)
class_count (constant_item p c ∷ before) = class_count before
class_count (def_item p f ∷ before) = class_count before

-- the number of functions among items
abbrev function_count : List Item → ℕ
function_count [] = 0
function_count (class_item p c ∷ before) = function_count before
function_count (constant_item p c ∷ before) = function_count before
function_count (def_item p f ∷ before) = suc (function_count before)

-- the number of constants among items
abbrev constant_count : List Item → ℕ
constant_count [] = 0
constant_count (class_item p c ∷ before) = constant_count before
constant_count (constant_item p c ∷ before) = suc (constant_count before)
constant_count (def_item p f ∷ before) = constant_count before

-- the names that they bind
abbrev names_of : List Item → List (List ℕ)
names_of before = map (λ i. (name_of_item i).text) before

-- a class among the others has its number after the classes before
pub class_numbered : (before rest : List Item) (i : ℕ) → slice_get (classes_in (onto before rest))
    (class_count before + i) ≡ slice_get (classes_in rest) i
class_numbered [] rest i = ap (slice_get (classes_in rest)) (omega arith)
class_numbered (constant_item p c ∷ before) rest i = class_numbered before (constant_item p c ∷ rest) i
class_numbered (def_item p f ∷ before) rest i = class_numbered before (def_item p f ∷ rest) i
class_numbered (class_item p c ∷ before) rest i =
    ap (slice_get (classes_in (onto before (class_item p c ∷ rest)))) (omega arith)
    ∙ class_numbered before (class_item p c ∷ rest) (suc i)

-- ---- classes as meanings of names

-- the meaning is a class
abbrev is_class : NameMeaning → Bool
is_class (meaning.Class c) = true
is_class (meaning.Local n) = false
is_class (meaning.Const n) = false
is_class (meaning.Func n) = false
is_class (meaning.Builtin b) = false
is_class meaning.None = false

-- the number of a class that is meant
abbrev number_of : NameMeaning → ℕ
number_of (meaning.Class c) = c
number_of (meaning.Local n) = 0
number_of (meaning.Const n) = 0
number_of (meaning.Func n) = 0
number_of (meaning.Builtin b) = 0
number_of meaning.None = 0

not_class : {r : NameMeaning} {i : ℕ} {P : Type 0} → is_class r ≡ false → r ≡ meaning.Class i → P
not_class f e = absurd (false≢true (sym f ∙ ap is_class e))

-- a name that no item before has is the first one of the others
passed : (before rest : List Item) (w : List ℕ) → is_among (names_of before) w ≡ false
    → bound_first 0 0 0 (onto before rest) w ≡ bound_first (constant_count before) (function_count before)
    (class_count before) rest w
passed [] rest w e = refl
passed (constant_item p c ∷ before) rest w e =
    let r = or_parts (bytes_eq c.name.text w) (is_among (names_of before) w) e in
    passed before (constant_item p c ∷ rest) w r.1 ∙ ap (λ b. if b then Some (meaning.Const (constant_count before))
    else bound_first (suc (constant_count before)) (function_count before) (class_count before) rest w) r.0
passed (def_item p c ∷ before) rest w e =
    let r = or_parts (bytes_eq c.name.text w) (is_among (names_of before) w) e in
    passed before (def_item p c ∷ rest) w r.1 ∙ ap (λ b. if b then Some (meaning.Func (function_count before))
    else bound_first (constant_count before) (suc (function_count before)) (class_count before) rest w) r.0
passed (class_item p c ∷ before) rest w e =
    let r = or_parts (bytes_eq c.name.text w) (is_among (names_of before) w) e in
    passed before (class_item p c ∷ rest) w r.1 ∙ ap (λ b. if b then Some (meaning.Class (class_count before))
    else bound_first (constant_count before) (function_count before) (suc (class_count before)) rest w) r.0

-- a first test that holds, where the other fails
first_holds : (a b : Bool) → (a || b) ≡ true → b ≡ false → a ≡ true
first_holds true b e f = refl
first_holds false b e f = absurd (false≢true (sym f ∙ e))

-- a class of a name that an item before has is one before
early : (before rest : List Item) (w : List ℕ) (i : ℕ) → is_among (names_of before) w ≡ true
    → bound_first 0 0 0 (onto before rest) w ≡ Some (meaning.Class i) → i < class_count before
early [] rest w i e h = absurd (false≢true e)
early (constant_item p c ∷ before) rest w i e h = go (is_among (names_of before) w) refl
    (λ f. early before (constant_item p c ∷ rest) w i f h)
  where
    go : (b : Bool) → is_among (names_of before) w ≡ b → (is_among (names_of before) w ≡ true → i < class_count before)
        → i < class_count before
    go true f on = on f
    go false f on =
        let here = first_holds (bytes_eq c.name.text w) (is_among (names_of before) w) e f in
        let is = sym (ap (λ b. if b then Some (meaning.Const (constant_count before)) else bound_first
        (suc (constant_count before)) (function_count before) (class_count before) rest w) here)
        ∙ (sym (passed before (constant_item p c ∷ rest) w f) ∙ h) in
        not_class refl (same_Some _ _ is)
early (def_item p c ∷ before) rest w i e h = go (is_among (names_of before) w) refl
    (λ f. early before (def_item p c ∷ rest) w i f h)
  where
    go : (b : Bool) → is_among (names_of before) w ≡ b → (is_among (names_of before) w ≡ true → i < class_count before)
        → i < class_count before
    go true f on = on f
    go false f on =
        let here = first_holds (bytes_eq c.name.text w) (is_among (names_of before) w) e f in
        let is = sym (ap (λ b. if b then Some (meaning.Func (function_count before)) else bound_first
        (constant_count before) (suc (function_count before)) (class_count before) rest w) here)
        ∙ (sym (passed before (def_item p c ∷ rest) w f) ∙ h) in
        not_class refl (same_Some _ _ is)
early (class_item p c ∷ before) rest w i e h = go (is_among (names_of before) w) refl
    (λ f. early before (class_item p c ∷ rest) w i f h)
  where
    go : (b : Bool) → is_among (names_of before) w ≡ b → (is_among (names_of before) w ≡ true → i < class_count before)
        → i < suc (class_count before)
    go true f on = let l = on f in omega arith
    go false f on =
        let here = first_holds (bytes_eq c.name.text w) (is_among (names_of before) w) e f in
        let is = sym (ap (λ b. if b then Some (meaning.Class (class_count before)) else bound_first (constant_count before)
        (function_count before) (suc (class_count before)) rest w) here)
        ∙ (sym (passed before (class_item p c ∷ rest) w f) ∙ h) in
        let same : class_count before ≡ i = ap number_of (same_Some (meaning.Class (class_count before)) (meaning.Class i)
        is) in
        omega arith

-- a class that is found after others has a number after theirs
later : (k f c : ℕ) (items : List Item) (w : List ℕ) (i : ℕ) → bound_first k f c items w ≡ Some (meaning.Class i) → c ≤ i
later k f c [] w i e = absurd (grind (arith, e))
later k f c (constant_item p x ∷ rest) w i e = go (bytes_eq x.name.text w) e (later (suc k) f c rest w i)
  where
    go : (b : Bool) → (if b then Some (meaning.Const k) else bound_first (suc k) f c rest w) ≡ Some (meaning.Class i)
        → (bound_first (suc k) f c rest w ≡ Some (meaning.Class i) → c ≤ i) → c ≤ i
    go true e on = not_class refl (same_Some _ _ e)
    go false e on = on e
later k f c (def_item p x ∷ rest) w i e = go (bytes_eq x.name.text w) e (later k (suc f) c rest w i)
  where
    go : (b : Bool) → (if b then Some (meaning.Func f) else bound_first k (suc f) c rest w) ≡ Some (meaning.Class i)
        → (bound_first k (suc f) c rest w ≡ Some (meaning.Class i) → c ≤ i) → c ≤ i
    go true e on = not_class refl (same_Some _ _ e)
    go false e on = on e
later k f c (class_item p x ∷ rest) w i e = go (bytes_eq x.name.text w) e (later k f (suc c) rest w i)
  where
    go : (b : Bool) → (if b then Some (meaning.Class c) else bound_first k f (suc c) rest w) ≡ Some (meaning.Class i)
        → (bound_first k f (suc c) rest w ≡ Some (meaning.Class i) → suc c ≤ i) → c ≤ i
    go true e on = let same : c ≡ i = ap number_of (same_Some (meaning.Class c) (meaning.Class i) e) in omega arith
    go false e on = let l = on e in omega arith

-- ---- the name of a class among the items before

not_true : (a : Bool) → not a ≡ true → a ≡ false
not_true true e = absurd (false≢true e)
not_true false e = refl

none_of : {X : Type 0} (o : Option X) → is_some o ≡ false → o ≡ None
none_of None e = refl
none_of (Some x) e = absurd (false≢true (sym e))

builtin_none : (w : List ℕ) → builtin_of w ≡ None → keywords.is_reserved w ≡ false
builtin_none w e = reserved_same w ∙ ap is_some e

module _ (m : Module) (before : List Item) (c : ClassDef) where
  -- the item before is the class that the name means
  abbrev pub is_meant : List ℕ → Bool
  is_meant w = bytes_eq c.name.text w && is_first_binding before c.name

  -- a name that means the item's class resolves to it
  pub meant_class : (rest : List Item) (p : Place) → onto before (class_item p c ∷ rest) ≡ m.items → (w : List ℕ)
      → is_meant w ≡ true → resolve_in_module m w ≡ meaning.Class (class_count before)
  meant_class rest p whole w e =
      let a = and_parts (bytes_eq c.name.text w) (is_first_binding before c.name) e in
      let b = and_parts (not (is_among (names_of before) c.name.text)) (not (keywords.is_reserved c.name.text)) a.1 in
      let same : c.name.text ≡ w = (bytes_eq-Decides c.name.text w).0 a.0 in
      let new : is_among (names_of before) w ≡ false = ap (is_among (names_of before)) (sym same)
      ∙ not_true (is_among (names_of before) c.name.text) b.0 in
      let free : is_builtin_name w ≡ false = sym (reserved_same w)
      ∙ (ap keywords.is_reserved (sym same) ∙ not_true (keywords.is_reserved c.name.text) b.1) in
      ap (λ o. or_meaning (builtin_meaning o) (or_meaning (bound_first 0 0 0 m.items w) meaning.None))
      (none_of (builtin_of w) free)
      ∙ ap (λ (items : List Item). or_meaning (bound_first 0 0 0 items w) meaning.None) (sym whole)
      ∙ ap (λ o. or_meaning o meaning.None) (passed before (class_item p c ∷ rest) w new
      ∙ ap (λ t. if t then Some (meaning.Class (class_count before)) else bound_first (constant_count before)
      (function_count before) (suc (class_count before)) rest w) a.0)

  -- and only so
  pub class_meant : (rest : List Item) (p : Place) → onto before (class_item p c ∷ rest) ≡ m.items → (w : List ℕ)
      → resolve_in_module m w ≡ meaning.Class (class_count before) → is_meant w ≡ true
  class_meant rest p whole w e = by_builtin (builtin_of w) refl e
    where
      by_name : builtin_of w ≡ None → is_among (names_of before) w ≡ false → (t : Bool) → bytes_eq c.name.text w ≡ t
          → (if t then Some (meaning.Class (class_count before)) else bound_first (constant_count before)
          (function_count before) (suc (class_count before)) rest w) ≡ Some (meaning.Class (class_count before))
          → is_meant w ≡ true
      by_name none new true is h =
          let same : c.name.text ≡ w = (bytes_eq-Decides c.name.text w).0 is in
          and_from (bytes_eq c.name.text w) (is_first_binding before c.name) is
          (ap (λ v. not (is_among (names_of before) v) && not (keywords.is_reserved v)) same
          ∙ ap (λ t. not t && not (keywords.is_reserved w)) new ∙ ap not (builtin_none w none))
      by_name none new false is h = let l = later (constant_count before) (function_count before)
          (suc (class_count before)) rest w (class_count before) h in absurd (omega arith)

      by_among : builtin_of w ≡ None → bound_first 0 0 0 (onto before (class_item p c ∷ rest)) w
          ≡ Some (meaning.Class (class_count before)) → (t : Bool) → is_among (names_of before) w ≡ t → is_meant w ≡ true
      by_among none h true f = let l = early before (class_item p c ∷ rest) w (class_count before) f h in
          absurd (omega arith)
      by_among none h false f = by_name none f (bytes_eq c.name.text w) refl
          (sym (passed before (class_item p c ∷ rest) w f) ∙ h)

      by_item : builtin_of w ≡ None → (o : Option NameMeaning) → bound_first 0 0 0 m.items w ≡ o
          → or_meaning o meaning.None ≡ meaning.Class (class_count before) → is_meant w ≡ true
      by_item none None is h = not_class refl h
      by_item none (Some r) is h = by_among none (ap (λ (items : List Item). bound_first 0 0 0 items w) whole
          ∙ (is ∙ ap Some h)) (is_among (names_of before) w) refl

      by_builtin : (o : Option Builtin) → builtin_of w ≡ o → or_meaning (builtin_meaning o)
          (or_meaning (bound_first 0 0 0 m.items w) meaning.None) ≡ meaning.Class (class_count before) → is_meant w ≡ true
      by_builtin None none h = by_item none (bound_first 0 0 0 m.items w) refl h
      by_builtin (Some b) some h = not_class refl h

-- ---- the earlier class that a name means

none_before : (b : ℕ) → nat_lt b 0 ≡ false
none_before b = false_from_ne_true (nat_lt b 0) (λ e. grind (arith, nat_tests))

-- no class is before the first
pub never_earlier : (r : NameMeaning) → earlier_class 0 r ≡ None
never_earlier (meaning.Class b) = ap (λ t. if t then Some b else None) (none_before b)
never_earlier (meaning.Local n) = refl
never_earlier (meaning.Const n) = refl
never_earlier (meaning.Func n) = refl
never_earlier (meaning.Builtin b) = refl
never_earlier meaning.None = refl

next_is : (n : ℕ) → nat_lt n (suc n) ≡ true
next_is n = grind (arith, nat_tests)

-- each is before the next
pub just_before : (n : ℕ) → earlier_class (suc n) (meaning.Class n) ≡ Some n
just_before n = ap (λ t. if t then Some n else None) (next_is n)

same_test : (b n : ℕ) → (b ≡ n → ⊥) → nat_lt b (suc n) ≡ nat_lt b n
same_test b n other = go (nat_lt b (suc n)) refl (nat_lt b n) refl
  where
    go : (s : Bool) → nat_lt b (suc n) ≡ s → (t : Bool) → nat_lt b n ≡ t → s ≡ t
    go true e true f = refl
    go false e false f = refl
    go true e false f = absurd (other (grind (arith, nat_tests)))
    go false e true f = absurd (grind (arith, nat_tests))

-- another class than the one of a number is before the next where it is before that
pub not_the_one : (n : ℕ) (r : NameMeaning) → (r ≡ meaning.Class n → ⊥) → earlier_class (suc n) r ≡ earlier_class n r
not_the_one n (meaning.Class b) other = ap (λ t. if t then Some b else None) (same_test b n (λ e. other (ap meaning.Class e)))
not_the_one n (meaning.Local x) other = refl
not_the_one n (meaning.Const x) other = refl
not_the_one n (meaning.Func x) other = refl
not_the_one n (meaning.Builtin b) other = refl
not_the_one n meaning.None other = refl
