-- The details of names and members, one after another.
use Rattle.std.proofs.Common.{◌≡◌, ◌∙◌, ◌<◌, ◌+◌, ℕ, List, [], ◌∷◌, ◌++◌, Bool, true, false, Option, Some, None, refl, sym, ap, ap₂}
use Rattle.std.proofs.Common.{map, take, length, get_or, cond, subst, append_assoc}
use Rattle.std.proofs.lemmas.List.{append-nil, map-append, take_more}
use Rattle.std.proofs.lemmas.List.Folds.{find-append}
use Rattle.std.specs.Map.{update}
use Rattle.std.specs.Option.{option_map, option_or}
use Rattle.std.proofs.lemmas.Grind.{flat_map-append}
use Rattle.std.specs.Prelude.{bytes_eq, find, flat_map, if◌then◌else◌, is_some}
use Rattle.pc_source.specs.declared.place.Place.{Place}
use Rattle.pc_tree.specs.declared.code.Code.{Code}
use Rattle.pc_tree.specs.declared.code.Code.TheVariants.{E01}
use Rattle.pc_tree.specs.declared.code.Finding.{Finding}
use Rattle.pc_tree.specs.declared.tree.Param.{Param as RustParam}
use Rattle.pc_tree.specs.Tree.{Name, Param, param_of}
use Rattle.pc_types.specs.Tree.{Tree}
use Rattle.pc_notes.specs.Notes.{is_same_place, is_same_code, or_else}
use Rattle.pc_detail_texts.specs.Details as detail
use Rattle.pc_detail_texts.specs.Details.{Detail, Earlier}
use Rattle.pc_detail_texts.specs.Sentences.{Words}
use Rattle.pc_detail_texts.specs.Shortened.{shortened}
use Rattle.pc_detail_facts.specs.declared.facts.Facts.{Facts}
use Rattle.pc_name_details.specs.declared.first_places.FirstPlaces.{FirstPlaces}
use Rattle.pc_name_details.specs.declared.offers.Offers.{Offers}
use Rattle.pc_detail_rules.specs.Names.{Together, first_from, first_named, first_of_all, name_at, place_of_name}
use Rattle.pc_detail_rules.specs.Names.{repeated_name, twice_among}
use Rattle.pc_name_details.specs.Naming.{AreFirst, place_held, reserved_of_names}
use Rattle.pc_name_details.specs.Offered.{AddsDetails, Rule, of_code, at_place}
use Rattle.pc_detail_rules.specs.Overrides.{detail_or}
use Rattle.pc_detail_facts.proofs.FirstNamed.{kept_first, put_first}
use Rattle.pc_name_details.proofs.Offered.{added_as, added_both, none_added}

-- ---- first places

pub kept_place : (names : List Name) (f : FirstPlaces) (n : Name) (word : List ℕ) → word ≡ n.text → AreFirst f names
    → is_some (place_held f word) ≡ true → AreFirst f (names ++ n ∷ [])
kept_place names f n word e h has = record {
  at = kept_first (λ (x : Name). x.text) place_of_name (place_held f) names n h.at
      (ap (λ t. is_some (place_held f t)) (sym e) ∙ has);
}

pub added_place : (names : List Name) (f g : FirstPlaces) (n : Name) (word : List ℕ) → word ≡ n.text → AreFirst f names
    → is_some (place_held f word) ≡ false
    → ((cs : List ℕ) → place_held g cs ≡ update bytes_eq (place_held f) word (Some n.place) cs)
    → AreFirst g (names ++ n ∷ [])
added_place names f g n word e h none updates = record {
  at = put_first (λ (x : Name). x.text) place_of_name (place_held f) names n h.at
      (ap (λ t. is_some (place_held f t)) (sym e) ∙ none) (place_held g)
      (λ cs. updates cs ∙ ap (λ t. update bytes_eq (place_held f) t (Some n.place) cs) e);
}

-- ---- lists

-- one item more
pub mapped_more : {A B : Type 0} (f : A → B) (xs : List A) (i : ℕ) (x : A) → i < length xs → x ≡ get_or xs i x
    → map f (take (i + 1) xs) ≡ map f (take i xs) ++ f x ∷ []
mapped_more f xs i x h e = ap (map f) (take_more xs i x h ∙ ap (λ y. take i xs ++ y ∷ []) (sym e))
    ∙ map-append f (take i xs) (x ∷ [])

-- what items give, one item more
pub flat_mapped : {A B C : Type 0} (f : A → B) (g : B → List C) (xs : List A) (i : ℕ) (x : A) → i < length xs
    → x ≡ get_or xs i x → flat_map g (map f (take (i + 1) xs)) ≡ flat_map g (map f (take i xs)) ++ g (f x)
flat_mapped f g xs i x h e = ap (flat_map g) (mapped_more f xs i x h e)
    ∙ flat_map-append g (map f (take i xs)) (f x ∷ []) ∙ ap (λ ys. flat_map g (map f (take i xs)) ++ ys) (append-nil (g (f x)))

or_none : (d : Option (Detail Tree)) → d ≡ detail_or d None
or_none None = refl
or_none (Some d) = refl

or_both : (a b c : Option (Detail Tree)) → detail_or a (detail_or b c) ≡ detail_or (detail_or a b) c
or_both None b c = refl
or_both (Some d) b c = refl

-- the first detail of one more
pub all_more : {A : Type 0} (rule : A → Option (Detail Tree)) (xs : List A) (x : A)
    → first_of_all rule (xs ++ x ∷ []) ≡ detail_or (first_of_all rule xs) (rule x)
all_more rule [] x = sym (or_none (rule x))
all_more rule (y ∷ ys) x = ap (λ (d : Option (Detail Tree)). detail_or (rule y) d) (all_more rule ys x)
    ∙ or_both (rule y) (first_of_all rule ys) (rule x)

-- the first detail of several lists
pub all_append : {A : Type 0} (rule : A → Option (Detail Tree)) (xs ys : List A)
    → first_of_all rule (xs ++ ys) ≡ detail_or (first_of_all rule xs) (first_of_all rule ys)
all_append rule [] ys = refl
all_append rule (x ∷ xs) ys = ap (λ (d : Option (Detail Tree)). detail_or (rule x) d) (all_append rule xs ys)
    ∙ or_both (rule x) (first_of_all rule xs) (first_of_all rule ys)

module _ {B : Type 0} (place : B → Place) (rule : List B → B → Option (Detail Tree)) (p : Place) where
  abbrev here : List B → B → Option (Detail Tree)
  here before x = if is_same_place p (place x) then rule before x else None

  -- the first detail of one more, by those before it
  pub from_more : (before xs : List B) (x : B) → first_from place rule p before (xs ++ x ∷ [])
      ≡ detail_or (first_from place rule p before xs)
      (if is_same_place p (place x) then rule (before ++ xs) x else None)
  from_more before [] x = sym (or_none (here before x)) ∙ ap (λ (l : List B). here l x) (sym (append-nil before))
  from_more before (y ∷ ys) x =
      ap (λ (d : Option (Detail Tree)). detail_or (here before y) d) (from_more (before ++ y ∷ []) ys x)
      ∙ or_both (here before y) (first_from place rule p (before ++ y ∷ []) ys) (here ((before ++ y ∷ []) ++ ys) x)
      ∙ ap (λ (l : List B). detail_or (detail_or (here before y) (first_from place rule p (before ++ y ∷ []) ys)) (here l x))
      (append_assoc before (y ∷ []) ys)

-- ---- rules of one code

code_both : (c : Code) (r q : Place → Option (Detail Tree)) (f : Finding)
    → detail_or (of_code c r f) (of_code c q f) ≡ of_code c (λ p. detail_or (r p) (q p)) f
code_both c r q f = by (is_same_code c f.code)
  where
    by : (t : Bool) → detail_or (if t then r f.place else None) (if t then q f.place else None)
        ≡ (if t then detail_or (r f.place) (q f.place) else None)
    by true = refl
    by false = refl

code_none : (c : Code) (f : Finding) → of_code c (λ p. None) f ≡ None
code_none c f = by (is_same_code c f.code)
  where
    by : (t : Bool) → ◌≡◌ {A = Option (Detail Tree)} (if t then None else None) None
    by true = refl
    by false = refl

-- a rule that gives nothing at any place adds nothing
pub code_added : (facts : Facts) (c : Code) (o : Offers) → AddsDetails facts (of_code c (λ p. None)) o o
code_added facts c o = none_added facts (of_code c (λ p. None)) o (code_none c)

-- one rule of a code after another
pub next_added : (facts : Facts) (c : Code) (r q s : Place → Option (Detail Tree)) (a b o : Offers)
    → AddsDetails facts (of_code c r) a b → AddsDetails facts (of_code c q) b o → ((p : Place) → detail_or (r p) (q p) ≡ s p)
    → AddsDetails facts (of_code c s) a o
next_added facts c r q s a b o h g same = added_as facts (λ f. detail_or (of_code c r f) (of_code c q f)) (of_code c s) a o
    (λ f. code_both c r q f ∙ ap (λ (d : Option (Detail Tree)). if is_same_code c f.code then d else None) (same f.place))
    (added_both facts (of_code c r) (of_code c q) a b o h g)

-- ---- loops

module _ {A B : Type 0} (tree : A → B) (facts : Facts) (xs : List A) (i : ℕ) (x : A) (less : i < length xs)
    (is : x ≡ get_or xs i x) (a b o : Offers) where
  -- the detail of one more, by those before it
  pub from_next : (c : Code) (place : B → Place) (rule : List B → B → Option (Detail Tree))
      → AddsDetails facts (of_code c (λ p. first_from place rule p [] (map tree (take i xs)))) a b
      → AddsDetails facts (of_code c (at_place (place (tree x)) (rule (map tree (take i xs)) (tree x)))) b o
      → AddsDetails facts (of_code c (λ p. first_from place rule p [] (map tree (take (i + 1) xs)))) a o
  from_next c place rule h g = next_added facts c (λ p. first_from place rule p [] (map tree (take i xs)))
      (at_place (place (tree x)) (rule (map tree (take i xs)) (tree x)))
      (λ p. first_from place rule p [] (map tree (take (i + 1) xs))) a b o h g
      (λ p. sym (ap (first_from place rule p []) (mapped_more tree xs i x less is)
      ∙ from_more place rule p [] (map tree (take i xs)) (tree x)))

  -- the details of one more
  pub all_next : (rule : B → Rule) → AddsDetails facts (λ f. first_of_all (λ y. rule y f) (map tree (take i xs))) a b
      → AddsDetails facts (rule (tree x)) b o
      → AddsDetails facts (λ f. first_of_all (λ y. rule y f) (map tree (take (i + 1) xs))) a o
  all_next rule h g = added_as facts
      (λ f. detail_or (first_of_all (λ y. rule y f) (map tree (take i xs))) (rule (tree x) f))
      (λ f. first_of_all (λ y. rule y f) (map tree (take (i + 1) xs))) a o
      (λ f. sym (ap (first_of_all (λ y. rule y f)) (mapped_more tree xs i x less is)
      ∙ all_more (λ y. rule y f) (map tree (take i xs)) (tree x)))
      (added_both facts (λ f. first_of_all (λ y. rule y f) (map tree (take i xs))) (rule (tree x)) a b o h g)

-- ---- reserved names

-- one more reserved name
pub reserved_more : (p : Place) (names : List Name) (n : Name) → reserved_of_names (names ++ n ∷ []) p
    ≡ detail_or (reserved_of_names names p) (at_place n.place (Some (detail.reserved n.text)) p)
reserved_more p names n = ap (option_map (λ (x : Name). detail.reserved x.text))
    (find-append (λ (x : Name). is_same_place p x.place) names (n ∷ [])) ∙ by (name_at p names) (is_same_place p n.place)
  where
    by : (o : Option Name) (t : Bool)
        → option_map (λ (x : Name). detail.reserved x.text) (option_or o (cond t (Some n) None))
        ≡ detail_or (option_map (λ (x : Name). detail.reserved x.text) o) (if t then Some (detail.reserved n.text) else None)
    by (Some x) t = refl
    by None true = refl
    by None false = refl

-- ---- defaults

-- the first parameter with a default, one more
pub default_more : (params : List RustParam) (i : ℕ) (x : RustParam) → i < length params → x ≡ get_or params i x
    → (o : Option Param) → o ≡ find (λ (y : Param). is_some y.default) (map param_of (take i params))
    → or_else o (if is_some (param_of x).default then Some (param_of x) else None)
    ≡ find (λ (y : Param). is_some y.default) (map param_of (take (i + 1) params))
default_more params i x h e o is =
    ap (λ (q : Option Param). or_else q (if is_some (param_of x).default then Some (param_of x) else None)) is
    ∙ sym (ap (find (λ (y : Param). is_some y.default)) (mapped_more param_of params i x h e)
    ∙ find-append (λ (y : Param). is_some y.default) (map param_of (take i params)) (param_of x ∷ [])
    ∙ by (find (λ (y : Param). is_some y.default) (map param_of (take i params))))
  where
    by : (q : Option Param) → option_or q (cond (is_some (param_of x).default) (Some (param_of x)) None)
        ≡ or_else q (if is_some (param_of x).default then Some (param_of x) else None)
    by None = refl
    by (Some y) = refl

-- ---- shown

-- where a name first stands among these
place_is : (before : List Name) (f : FirstPlaces) (n : Name) (t : List ℕ) (o : Option Place) → t ≡ n.text
    → o ≡ place_held f t → AreFirst f before → o ≡ option_map place_of_name (first_named n.text before)
place_is before f n t o e g h = g ∙ h.at t ∙ ap (λ w. option_map place_of_name (first_named w before)) e

-- the earlier binding of a name, as it is shown
pub late_shown : (before : List Name) (f : FirstPlaces) (n : Name) (t w : List ℕ) (o : Option Place) → w ≡ shortened t
    → t ≡ n.text
    → o ≡ place_held f t → AreFirst f before → ◌≡◌ {A = Detail Words} (detail.late_annotation w o)
    (detail.late_annotation (shortened n.text) (option_map place_of_name (first_named n.text before)))
late_shown before f n t w o v e g h =
    let made : List ℕ → Option Place → Detail Words = λ x y. detail.late_annotation x y in
    ap₂ made (v ∙ ap shortened e) (place_is before f n t o e g h)

-- a base that is none, as it is shown
pub base_shown : (before : List Name) (f : FirstPlaces) (n : Name) (t w : List ℕ) (o : Option Place) → w ≡ shortened t
    → t ≡ n.text
    → o ≡ place_held f t → AreFirst f before → ◌≡◌ {A = Detail Words} (detail.base w o)
    (detail.base (shortened n.text) (option_map place_of_name (first_named n.text before)))
base_shown before f n t w o v e g h =
    let made : List ℕ → Option Place → Detail Words = λ x y. detail.base x y in
    ap₂ made (v ∙ ap shortened e) (place_is before f n t o e g h)

-- ---- together

-- the same names, bound together in the same way
pub together_as : (facts : Facts) (a o : Offers) (x y : Together) → x ≡ y
    → AddsDetails facts (of_code E01 (λ p. twice_among p x)) a o → AddsDetails facts (of_code E01 (λ p. twice_among p y)) a o
together_as facts a o x y e h = subst (λ (t : Together). AddsDetails facts (of_code E01 (λ p. twice_among p t)) a o) e h

pub both_ways : (a b c : Option (Detail Tree)) → detail_or (detail_or a b) c ≡ detail_or a (detail_or b c)
both_ways a b c = sym (or_both a b c)

-- ---- earlier names

-- what an earlier name is
pub earlier_found : (b : Bool) (g : Place → Earlier) (o : Option Name) (p : Place) → Some p ≡ option_map place_of_name o
    → Some (g p) ≡ repeated_name b g o
earlier_found b g (Some n) p e = let same : p ≡ n.place = cc in ap (λ x. Some (g x)) same
earlier_found b g None p e = let never : ⊥ = cc in absurd never

-- where no earlier name is
pub earlier_none : (b : Bool) (g : Place → Earlier) (o : Option Name) → None ≡ option_map place_of_name o
    → repeated_name b g None ≡ repeated_name b g o
earlier_none b g None e = refl
earlier_none b g (Some n) e = let never : ⊥ = cc in absurd never
