-- Look-ups in what details are made from.
use Rattle.std.proofs.Common.{◌≡◌, ◌∙◌, ◌<◌, ◌≤◌, ◌+◌, ltb, ◌++◌, ◌∷◌, [], ℕ, zero, suc, List, Bool, true, Option, Some, None}
use Rattle.std.proofs.Common.{Bor, refl, sym, ap, subst, map, take, drop, length, get_or, inl, inr, arith}
use Rattle.std.proofs.lemmas.List.{append-nil, drop_more, map-append, take_more}
use Rattle.std.proofs.lemmas.Grind.{flat_map-append}
use Rattle.std.proofs.lemmas.List.Elements.{All-append, All-cons, All-contains, All-nil, filter-append, filter_map-append}
use Rattle.std.proofs.lemmas.Bool.{ltb-true}
use Rattle.std.proofs.lemmas.Option.{slice_get-map, slice_get_cases, slice_get_past, slice_get_read}
use Rattle.std.specs.Prelude.{All, IfSome, filter, flat_map, if◌then◌else◌, unwrap_or, slice_get, slice_index_or}
use Rattle.std.specs.Option.{option_copied, option_map}
use Rattle.pc_tree.specs.Tree.{item_of}
use Rattle.pc_tree.specs.declared.tree.Item.{Item as RustItem}
use Rattle.pc_scope.specs.Bindings.{constants_in, functions_in, classes_in}
use Rattle.pc_types.specs.Boxed.{tree_of, IsGiven}
use Rattle.pc_types.specs.Tree.{Tree}
use Rattle.pc_types.specs.declared.boxed.BoxType.{BoxType}
use Rattle.pc_class.specs.Facts.{ClassFacts, TypedParameter, class_facts_at, class_in}
use Rattle.pc_class.specs.Parts.{lent_parameter}
use Rattle.pc_class.specs.FieldLists.{fields_in}
use Rattle.pc_class.specs.Tables.{ClassEntry, HasEntries, HasEntry, HasMethod, HasParameter, IsField, IsMethod}
use Rattle.pc_class.specs.Tables.{classes_with, empty_entry, parameter_lent, parameter_with, parameters_with}
use Rattle.pc_class.specs.declared.listing.Listing.{Listing}
use Rattle.pc_class.specs.declared.listing.Listing.TheVariants as listing
use Rattle.pc_class.specs.declared.table.Method.{Method as RustMethod}
use Rattle.pc_class.specs.declared.table.Parameter.{Parameter as RustParameter}
use Rattle.pc_detail_facts.specs.Held.{AreListedGiven, HasGivenType, listing_held, tree_lent, trees_lent}

-- a fact of a value that a look-up gives
pub given_lent : {A : Type 0} (P : A → Type 0) (o : Option (Bor A)) (x : Option A) → option_copied o ≡ x → IfSome x P
    → IfSome o (λ t. P t.now)
given_lent P None x e h = tt
given_lent P (Some t) x e h = subst (λ y. IfSome y P) (sym e) h

-- what a look-up gives is the item at its place
pub found_at : {A : Type 0} (xs : List A) (i : ℕ) (x : A) → true ≡ ltb i (length xs) → x ≡ get_or xs i x
    → Some x ≡ slice_get xs i
found_at xs i x h e = sym (slice_get_read xs (length xs) i x refl (ltb-true i (length xs) (sym h)) e)

-- and nothing past the end
pub missed_at : {A : Type 0} (xs : List A) (i : ℕ) → length xs ≤ i → None ≡ slice_get xs i
missed_at xs i h = sym (slice_get_past xs i h)

-- ---- one item more

module _ (xs : List RustItem) (i : ℕ) (x : RustItem) (h : i < length xs) (e : x ≡ get_or xs i x) where
  item_more : map item_of (take (i + 1) xs) ≡ map item_of (take i xs) ++ item_of x ∷ []
  item_more = ap (map item_of) (take_more xs i x h ∙ ap (λ y. take i xs ++ y ∷ []) (sym e))
      ∙ map-append item_of (take i xs) (x ∷ [])

  pub constants_more : constants_in (map item_of (take (i + 1) xs))
      ≡ constants_in (map item_of (take i xs)) ++ constants_in (item_of x ∷ [])
  constants_more = ap constants_in item_more ∙ filter_map-append _ (map item_of (take i xs)) (item_of x ∷ [])

  pub functions_more : functions_in (map item_of (take (i + 1) xs))
      ≡ functions_in (map item_of (take i xs)) ++ functions_in (item_of x ∷ [])
  functions_more = ap functions_in item_more ∙ filter_map-append _ (map item_of (take i xs)) (item_of x ∷ [])

  pub classes_more : classes_in (map item_of (take (i + 1) xs))
      ≡ classes_in (map item_of (take i xs)) ++ classes_in (item_of x ∷ [])
  classes_more = ap classes_in item_more ∙ filter_map-append _ (map item_of (take i xs)) (item_of x ∷ [])

-- ---- the fields of classes

class_or : (o : Option ClassFacts) → unwrap_or (option_map (λ (c : ClassFacts). c.fields) o) [] ≡ (class_in o).fields
class_or None = refl
class_or (Some c) = refl

-- the fields of a class are those of its listing
pub fields_listed : (ls : List (Listing BoxType)) (cs : List ClassFacts) (i : ℕ)
    → map listing_held ls ≡ map (λ (c : ClassFacts). c.fields) cs
    → unwrap_or (option_map listing_held (slice_get ls i)) [] ≡ (class_facts_at cs i).fields
fields_listed ls cs i e = ap (λ (o : Option (List TypedParameter)). unwrap_or o []) (sym (slice_get-map listing_held ls i)
    ∙ ap (λ (l : List (List TypedParameter)). slice_get l i) e ∙ slice_get-map (λ (c : ClassFacts). c.fields) cs i)
    ∙ class_or (slice_get cs i)

-- a borrowed parameter means what the parameter means
pub parameter_twice : (o : Option (Bor (RustParameter BoxType)))
    → option_map (parameter_lent tree_of) o ≡ option_map (parameter_with tree_of) (option_map lent_parameter o)
parameter_twice None = refl
parameter_twice (Some p) = refl

-- an empty list has no item
pub none_at : (k : ℕ) → ◌≡◌ {A = Option TypedParameter} None (slice_get [] k)
none_at zero = refl
none_at (suc k) = refl

-- one class more
pub fields_more : (es : List (ClassEntry BoxType)) (i : ℕ) → i < length es
    → map (λ (c : ClassFacts). c.fields) (take (suc i) (classes_with tree_of es))
    ≡ map (λ (c : ClassFacts). c.fields) (take i (classes_with tree_of es))
    ++ parameters_with tree_of (slice_index_or es i empty_entry).fields ∷ []
fields_more [] i h = absurd (omega arith)
fields_more (e ∷ es) zero h = refl
fields_more (e ∷ es) (suc i) h = ap (λ l. parameters_with tree_of e.fields ∷ l) (fields_more es i (omega arith))

-- ---- members that are kept

-- one member more: it is kept if the test holds
pub kept_more : (p : Tree → Bool) (xs : List (Bor BoxType)) (i : ℕ) (x : Bor BoxType) → i < length xs
    → x ≡ get_or xs i x → filter p (trees_lent (take (i + 1) xs))
    ≡ filter p (trees_lent (take i xs)) ++ (if p (tree_lent x) then tree_lent x ∷ [] else [])
kept_more p xs i x h e =
    ap (λ ys. filter p (trees_lent ys)) (take_more xs i x h ∙ ap (λ y. take i xs ++ y ∷ []) (sym e))
    ∙ ap (filter p) (map-append tree_lent (take i xs) (x ∷ []))
    ∙ filter-append p (trees_lent (take i xs)) (tree_lent x ∷ [])

-- what members give, one member more
pub flat_more : {A : Type 0} (f : Tree → List A) (xs : List (Bor BoxType)) (i : ℕ) (x : Bor BoxType) → i < length xs
    → x ≡ get_or xs i x → flat_map f (trees_lent (take (i + 1) xs))
    ≡ flat_map f (trees_lent (take i xs)) ++ f (tree_lent x)
flat_more f xs i x h e =
    ap (λ ys. flat_map f (trees_lent ys)) (take_more xs i x h ∙ ap (λ y. take i xs ++ y ∷ []) (sym e))
    ∙ ap (flat_map f) (map-append tree_lent (take i xs) (x ∷ []))
    ∙ flat_map-append f (trees_lent (take i xs)) (tree_lent x ∷ [])
    ∙ ap (λ ys. flat_map f (trees_lent (take i xs)) ++ ys) (append-nil (f (tree_lent x)))

-- what is left begins with this item
pub drop_next : {A : Type 0} (xs : List A) (i : ℕ) (x : A) → i < length xs → x ≡ get_or xs i x
    → drop i xs ≡ x ∷ drop (i + 1) xs
drop_next xs i x h e = drop_more xs i x h ∙ ap (λ y. y ∷ drop (i + 1) xs) (sym e)

-- ---- given types

-- what holds of each item holds of one that a look-up gives
pub all_at : {A : Type 0} (P : A → Type 0) (xs : List A) (i : ℕ) (x : A) → All P xs → slice_get xs i ≡ Some x → P x
all_at P xs i x h e = elim (slice_get_cases xs i).1 [
  | inl w ↦ let same : w.0 ≡ x = cc in subst P (w.3 ∙ same) (h i w.0 w.1)
  | inr w ↦ let never : ⊥ = cc in absurd never
]

-- the types of the methods of a table
pub method_held : (cs : List (ClassEntry BoxType)) → HasEntries IsGiven cs → (x : RustMethod BoxType) → IsMethod cs x
    → HasMethod IsGiven x
method_held cs h x w = All-contains (HasMethod IsGiven) w.class.methods x
    (All-contains (HasEntry IsGiven) cs w.class h w.listed).methods w.among

-- the types of the fields of a table
pub field_held : (cs : List (ClassEntry BoxType)) → HasEntries IsGiven cs → (p : RustParameter BoxType) → IsField cs p
    → IsGiven p.ty
field_held cs h p w = All-contains (HasParameter IsGiven) w.class.fields p
    (All-contains (HasEntry IsGiven) cs w.class h w.listed).fields w.among

-- the fields of a class of a table
fields_given : (cs : List (ClassEntry BoxType)) → HasEntries IsGiven cs → (c : ℕ)
    → All (HasParameter IsGiven) (fields_in cs c)
fields_given [] h c = All-nil (HasParameter IsGiven)
fields_given (e ∷ es) h zero = (h zero empty_entry (omega arith)).fields
fields_given (e ∷ es) h (suc c) = fields_given es (λ k d less. h (suc k) d (omega (arith, less))) c

-- the listings of classes, one more
pub listed_given : (ls : List (Listing BoxType)) (t : Bor (List (ClassEntry BoxType))) (c : ℕ) → HasEntries IsGiven t.now
    → All AreListedGiven ls → All AreListedGiven (ls ++ listing.Fields t c ∷ [])
listed_given ls t c h all = All-append AreListedGiven ls (listing.Fields t c ∷ []) all
    (All-cons AreListedGiven (listing.Fields t c) [] (fields_given t.now h c) (All-nil AreListedGiven))

-- the type of a parameter that is given of a list
pub parameter_given : (ps : List (RustParameter BoxType)) (k : ℕ) (o : Option (Bor (RustParameter BoxType)))
    → All (HasParameter IsGiven) ps → option_map lent_parameter o ≡ slice_get ps k → HasGivenType o
parameter_given ps k None h e = tt
parameter_given ps k (Some p) h e = all_at (HasParameter IsGiven) ps k p.now h (sym e)
