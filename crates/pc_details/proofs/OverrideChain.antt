-- A method against those above it, one after another and one class after another.
use Rattle.std.proofs.Common.{◌≡◌, ◌∙◌, ◌<◌, ◌≤◌, ◌+◌, ◌++◌, ◌∷◌, [], ℕ, zero, suc, List, Bool, true, false, Option, Some, None}
use Rattle.std.proofs.Common.{arith, ap, cond, drop, get_or, length, map, refl, subst, sym}
use Rattle.std.proofs.lemmas.Bool.{false≢true, true≢false}
use Rattle.std.proofs.lemmas.List.{map-append}
use Rattle.std.proofs.lemmas.List.Elements.{All-cons, All-head, All-nil, All-tail, filter-append}
use Rattle.std.proofs.lemmas.Option.{slice_get_past}
use Rattle.std.specs.Option.{option_map}
use Rattle.std.specs.Prelude.{All, bytes_eq, is_some, slice_get, slice_index_or}
use Rattle.pc_tree.specs.declared.code.Code.{Code}
use Rattle.pc_tree.specs.Tree.{ClassDef, FuncDef, Module}
use Rattle.pc_scope.specs.Bindings.{classes_in}
use Rattle.pc_types.specs.Below.{AreSmaller, Bases, base_of}
use Rattle.pc_types.specs.Boxed.{tree_of, IsGiven}
use Rattle.pc_types.specs.Tree.{Tree}
use Rattle.pc_types.specs.declared.boxed.BoxType.{BoxType}
use Rattle.pc_annotations.specs.Bases.{base_named, bases_from, bases_of}
use Rattle.pc_class.specs.Facts.{ClassFacts, Method, base_facts, class_facts_at, classes_of, method_made}
use Rattle.pc_class.specs.Overrides.{overridden}
use Rattle.pc_class.specs.Parts.{bases_in}
use Rattle.pc_class.specs.Tables.{ClassEntry, HasEntries, HasEntry, HasMethod, class_with, classes_with, empty_entry, inherited_entry, method_with}
use Rattle.pc_class.specs.declared.table.Method.{Method as RustMethod}
use Rattle.pc_detail_texts.specs.Details.{Detail}
use Rattle.pc_detail_texts.specs.Mapped.{map_detail}
use Rattle.pc_detail_texts.specs.Shown.{detail_of_value}
use Rattle.pc_detail_texts.specs.declared.details.Detail.{Detail as RustDetail}
use Rattle.pc_detail_facts.specs.declared.facts.Facts.{Facts}
use Rattle.pc_detail_facts.specs.Held.{ShowsDetail, text_held}
use Rattle.pc_detail_rules.specs.Overrides.{against, detail_or, first_against, override_in}
use Rattle.pc_details.specs.OverridesHeld.{first_over}
use Rattle.pc_detail_facts.proofs.Held.{drop_next}

-- ---- one after another

detail_both : (a b c : Option (Detail Tree)) → detail_or a (detail_or b c) ≡ detail_or (detail_or a b) c
detail_both None b c = refl
detail_both (Some d) b c = refl

against_more : (m : Module) (code : Code) (here : Method) (xs ys : List Method)
    → first_against m code here (xs ++ ys) ≡ detail_or (first_against m code here xs) (first_against m code here ys)
against_more m code here [] ys = refl
against_more m code here (x ∷ xs) ys =
    ap (λ (d : Option (Detail Tree)). detail_or (against m code here x) d) (against_more m code here xs ys)
    ∙ detail_both (against m code here x) (first_against m code here xs) (first_against m code here ys)

-- the first of two lists, and then of the other
pub over_both : (m : Module) (code : Code) (here : Method) (xs ys : List Method)
    → first_over m code here (xs ++ ys) ≡ detail_or (first_over m code here xs) (first_over m code here ys)
over_both m code here xs ys =
    ap (first_against m code here) (filter-append (λ (f : Method). bytes_eq here.name f.name) xs ys)
    ∙ against_more m code here (overridden xs here.name) (overridden ys here.name)

-- the methods from one on
pub over_next : (m : Module) (code : Code) (here : Method) (xs : List (RustMethod BoxType)) (i : ℕ)
    (x : RustMethod BoxType) → i < length xs → x ≡ get_or xs i x
    → first_over m code here (map (method_with tree_of) (drop i xs))
    ≡ detail_or (first_over m code here (method_with tree_of x ∷ []))
    (first_over m code here (map (method_with tree_of) (drop (i + 1) xs)))
over_next m code here xs i x h e =
    ap (λ (l : List (RustMethod BoxType)). first_over m code here (map (method_with tree_of) l)) (drop_next xs i x h e)
    ∙ over_both m code here (method_with tree_of x ∷ []) (map (method_with tree_of) (drop (i + 1) xs))

-- one method alone
pub over_one : (m : Module) (code : Code) (here x : Method) → bytes_eq here.name x.name ≡ true
    → first_over m code here (x ∷ []) ≡ against m code here x
over_one m code here x h = ap (λ (b : Bool). first_against m code here (cond b (x ∷ []) [])) h ∙ alone (against m code here x)
  where
    alone : (d : Option (Detail Tree)) → detail_or d None ≡ d
    alone None = refl
    alone (Some d) = refl

-- a method of another name
pub over_other : (m : Module) (code : Code) (here x : Method) → bytes_eq here.name x.name ≡ false
    → ◌≡◌ {A = Option (Detail Tree)} None (first_over m code here (x ∷ []))
over_other m code here x h = sym (ap (λ (b : Bool). first_against m code here (cond b (x ∷ []) [])) h)

module _ (facts : Facts) (want rest : Option (Detail Tree)) where
  -- a detail that is found is the first
  pub first_found : (made : Option RustDetail) → is_some made ≡ true → ShowsDetail facts want made
      → ShowsDetail facts (detail_or want rest) made
  first_found None h e = absurd (false≢true h)
  first_found (Some d) h e = go want e
    where
      go : (o : Option (Detail Tree)) → Some (detail_of_value d) ≡ option_map (map_detail (text_held facts)) o
          → Some (detail_of_value d) ≡ option_map (map_detail (text_held facts)) (detail_or o rest)
      go None e = let never : ⊥ = cc in absurd never
      go (Some x) e = e

  -- where none is found, the first is a later one
  pub later_found : (made : Option RustDetail) → is_some made ≡ false → ShowsDetail facts want made
      → detail_or want rest ≡ rest
  later_found (Some d) h e = absurd (true≢false h)
  later_found None h e = go want e
    where
      go : (o : Option (Detail Tree)) → None ≡ option_map (map_detail (text_held facts)) o → detail_or o rest ≡ rest
      go None e = refl
      go (Some x) e = let never : ⊥ = cc in absurd never

-- ---- one class after another

facts_at : (es : List (ClassEntry BoxType)) (c : ℕ)
    → class_facts_at (classes_with tree_of es) c ≡ class_with tree_of (slice_index_or es c empty_entry)
facts_at [] zero = refl
facts_at [] (suc c) = refl
facts_at (e ∷ es) zero = refl
facts_at (e ∷ es) (suc c) = facts_at es c

base_at : (es : List (ClassEntry BoxType)) (c : ℕ) → base_of (bases_in es) c ≡ (slice_index_or es c empty_entry).base
base_at [] zero = refl
base_at [] (suc c) = refl
base_at (e ∷ es) zero = refl
base_at (e ∷ es) (suc c) = base_at es c

inherited_at : (es : List (ClassEntry BoxType)) (b : Option ℕ)
    → base_facts (classes_with tree_of es) b ≡ class_with tree_of (inherited_entry es b)
inherited_at es None = refl
inherited_at es (Some b) = facts_at es b

-- the methods of a class are its own, and then those of its base
pub methods_above : (es : List (ClassEntry BoxType)) (cs : List ClassFacts) (bases : Bases) (c : ℕ)
    (own : List (RustMethod BoxType)) → classes_with tree_of es ≡ cs → bases_in es ≡ bases
    → (slice_index_or es c empty_entry).methods
    ≡ own ++ (inherited_entry es (slice_index_or es c empty_entry).base).methods
    → (base_facts cs (Some c)).methods ≡ map (method_with tree_of) own ++ (base_facts cs (base_of bases c)).methods
methods_above es cs bases c own e f over =
    ap (λ (l : List ClassFacts). (base_facts l (Some c)).methods) (sym e)
    ∙ ap (λ (x : ClassFacts). x.methods) (facts_at es c) ∙ ap (map (method_with tree_of)) over
    ∙ map-append (method_with tree_of) own (inherited_entry es (slice_index_or es c empty_entry).base).methods
    ∙ ap (λ (x : ClassFacts). map (method_with tree_of) own ++ x.methods)
    (sym (inherited_at es (slice_index_or es c empty_entry).base))
    ∙ ap (λ (b : Option ℕ). map (method_with tree_of) own ++ (base_facts (classes_with tree_of es) b).methods)
    (sym (base_at es c) ∙ ap (λ (bs : Bases). base_of bs c) f)
    ∙ ap (λ (l : List ClassFacts). map (method_with tree_of) own ++ (base_facts l (base_of bases c)).methods) e

-- past the classes there are no methods
pub methods_past : (es : List (ClassEntry BoxType)) (cs : List ClassFacts) (c : ℕ) → classes_with tree_of es ≡ cs
    → length es ≤ c → (base_facts cs (Some c)).methods ≡ []
methods_past es cs c e h = ap (λ (l : List ClassFacts). (base_facts l (Some c)).methods) (sym e)
    ∙ ap (λ (x : ClassFacts). x.methods) (facts_at es c) ∙ past es c h
  where
    past : (l : List (ClassEntry BoxType)) (k : ℕ) → length l ≤ k
        → (class_with tree_of (slice_index_or l k empty_entry)).methods ≡ []
    past [] zero less = refl
    past [] (suc k) less = refl
    past (x ∷ l) zero less = absurd (omega arith)
    past (x ∷ l) (suc k) less = past l k (omega (arith, less))

-- ---- the base of a class

based_at : (m : Module) (n : ℕ) (cs : List ClassDef) (i : ℕ) (class : ClassDef) → slice_get cs i ≡ Some class
    → base_of (bases_from m n cs) i ≡ base_named m (n + i) class.base
based_at m n [] zero class e = let never : ⊥ = cc in absurd never
based_at m n [] (suc i) class e = let never : ⊥ = cc in absurd never
based_at m n (d ∷ cs) zero class e =
    let same : d ≡ class = cc in
    ap (λ (x : ClassDef). base_named m n x.base) same ∙ ap (λ k. base_named m k class.base) (omega arith)
based_at m n (d ∷ cs) (suc i) class e = based_at m (suc n) cs i class e ∙ ap (λ k. base_named m k class.base) (omega arith)

no_base_at : (m : Module) (n : ℕ) (cs : List ClassDef) (i : ℕ) → slice_get cs i ≡ None
    → base_of (bases_from m n cs) i ≡ None
no_base_at m n [] zero e = refl
no_base_at m n [] (suc i) e = refl
no_base_at m n (d ∷ cs) zero e = let never : ⊥ = cc in absurd never
no_base_at m n (d ∷ cs) (suc i) e = no_base_at m (suc n) cs i e

-- a method against those above its class
pub override_is : (m : Module) (code : Code) (c i : ℕ) (f : FuncDef)
    → first_over m code (method_made m c i f) (base_facts (classes_of m) (base_of (bases_of m) c)).methods
    ≡ override_in m code c i f (slice_get (classes_in m.items) c)
unfolding bases_of
override_is m code c i f = by (slice_get (classes_in m.items) c) refl
  where
    by : (o : Option ClassDef) → slice_get (classes_in m.items) c ≡ o
        → first_over m code (method_made m c i f)
        (base_facts (classes_of m) (base_of (bases_from m 0 (classes_in m.items)) c)).methods
        ≡ override_in m code c i f o
    by None e = ap (λ (b : Option ℕ). first_over m code (method_made m c i f) (base_facts (classes_of m) b).methods)
        (no_base_at m 0 (classes_in m.items) c e)
    by (Some class) e = ap (λ (b : Option ℕ). first_over m code (method_made m c i f) (base_facts (classes_of m) b).methods)
        (based_at m 0 (classes_in m.items) c class e ∙ ap (λ k. base_named m k class.base) (omega arith))

-- ---- the way up

-- the number of classes that may be left on the way up
abbrev pub classes_left : Option ℕ → ℕ
classes_left None = 0
classes_left (Some c) = c + 1

-- a base has a smaller number
pub left_less : (bases : Bases) → AreSmaller bases → (c : ℕ) → classes_left (base_of bases c) < classes_left (Some c)
left_less bases h c = by (base_of bases c) refl
  where
    by : (o : Option ℕ) → base_of bases c ≡ o → classes_left o < c + 1
    by None e = omega arith
    by (Some b) e = omega (arith, h c b e)

-- ---- given types

front_given : (own rest : List (RustMethod BoxType)) → All (HasMethod IsGiven) (own ++ rest) → All (HasMethod IsGiven) own
front_given [] rest h = All-nil (HasMethod IsGiven)
front_given (x ∷ xs) rest h = All-cons (HasMethod IsGiven) x xs (All-head (HasMethod IsGiven) x (xs ++ rest) h)
    (front_given xs rest (All-tail (HasMethod IsGiven) x (xs ++ rest) h))

entry_given : (es : List (ClassEntry BoxType)) → HasEntries IsGiven es → (c : ℕ)
    → All (HasMethod IsGiven) (slice_index_or es c empty_entry).methods
entry_given [] h zero = All-nil (HasMethod IsGiven)
entry_given [] h (suc c) = All-nil (HasMethod IsGiven)
entry_given (e ∷ es) h zero = (All-head (HasEntry IsGiven) e es h).methods
entry_given (e ∷ es) h (suc c) = entry_given es (All-tail (HasEntry IsGiven) e es h) c

-- the methods that a class of a table binds itself
pub own_given : (es : List (ClassEntry BoxType)) (c : ℕ) (own rest : List (RustMethod BoxType)) → HasEntries IsGiven es
    → (slice_index_or es c empty_entry).methods ≡ own ++ rest → All (HasMethod IsGiven) own
own_given es c own rest h over = front_given own rest
    (subst (λ (l : List (RustMethod BoxType)). All (HasMethod IsGiven) l) over (entry_given es h c))
