-- Maps of the annotated fields of classes: with one field more, with a class more, and look-ups in them.
use Rattle.std.proofs.Common.{◌≡◌, ◌∙◌, ◌<◌, ◌+◌, ◌++◌, ◌∷◌, [], ℕ, zero, suc, List, Bool, true, false, cond, Option, Some, None}
use Rattle.std.proofs.Common.{Bor, refl, sym, ap, subst, map, length, arith, append-nil, append_assoc}
use Rattle.std.proofs.Common.{◌≤◌, Vec, Global, drop, get_or, length-append, take}
use Rattle.std.proofs.Math.ListN.{drop_of_length-le}
use Rattle.std.proofs.lemmas.Bool.{true≢false}
use Rattle.std.proofs.lemmas.Grind.{flat_map-append}
use Rattle.std.proofs.lemmas.List.{map-append, take_more}
use Rattle.std.proofs.lemmas.List.Folds.{find-append}
use Rattle.std.proofs.lemmas.Slice.Eq.{bytes_eq-Decides}
use Rattle.std.proofs.lemmas.Option.{slice_get-map}
use Rattle.std.specs.Prelude.{bytes_eq, find, flat_map, is_some, slice_get, slice_index_or, unwrap_or}
use Rattle.std.specs.Option.{option_map, option_or}
use Rattle.pc_tree.specs.declared.tree.ClassDef.{ClassDef as RustClass}
use Rattle.pc_tree.specs.declared.tree.Field.{Field as RustField}
use Rattle.pc_tree.specs.declared.tree.FuncDef.{FuncDef as RustFunction}
use Rattle.pc_tree.specs.declared.tree.Member.{Member as RustMember}
use Rattle.pc_tree.specs.Tree.{ClassDef, FuncDef, ann_of, member_of}
use Rattle.pc_scope.specs.Bindings.{methods_in}
use Rattle.pc_scope.specs.Resolution.{method_at}
use Rattle.pc_types.specs.Below.{Bases, base_of}
use Rattle.pc_shared_maps.specs.NameMaps.{IsMap, named_at}
use Rattle.pc_shared_maps.specs.SharedLists.{IsNumberIn, at_number}
use Rattle.pc_class.specs.Outlines.{IsMapOf, first_named}
use Rattle.pc_class.proofs.Holding.{held_kept, held_more, named_behind, named_on, named_same}
use Rattle.pc_detail_facts.specs.declared.annotations.FieldAnnotations.{FieldAnnotations}
use Rattle.pc_detail_facts.specs.Annotated.{HoldsFields, IsFieldMap, KeepsFields, annotated_lent, name_of_field}
use Rattle.pc_detail_facts.specs.Held.{class_lent, function_lent}
use Rattle.pc_detail_facts.proofs.Held.{drop_next}
use Rattle.pc_detail_rules.specs.Written.{Annotated, annotated_field, annotated_fields, annotation_named, fields_behind}
use Rattle.pc_detail_rules.specs.Written.{inherited_fields}

-- ---- maps that are kept

pub fields_same : (f : FieldAnnotations) → KeepsFields f f
fields_same f = record { named = named_same f.named; more = []; fields = sym (append-nil f.fields.items) }

pub fields_on : (a b c : FieldAnnotations) → KeepsFields a b → KeepsFields b c → KeepsFields a c
fields_on a b c k l = record {
  named = named_on a.named b.named c.named k.named l.named;
  more = k.more ++ l.more;
  fields = l.fields ∙ ap (λ (xs : List (Bor RustField)). xs ++ l.more) k.fields
      ∙ append_assoc a.fields.items k.more l.more;
}

-- a map is kept
pub map_kept : (a b : FieldAnnotations) (those : List Annotated) (at : ℕ) → KeepsFields a b → IsFieldMap a those at
    → IsFieldMap b those at
map_kept a b those at k h = record {
  fields = h.fields;
  are = h.are;
  held = subst (λ (xs : List (Bor RustField)). IsMapOf name_of_field b.named xs at h.fields) (sym k.fields)
      (held_kept name_of_field a.named b.named a.fields.items k.more at h.fields h.held k.named);
}

-- ---- look-ups

module _ (word : List ℕ) where
  -- the annotation of the first field of a name
  found_annotated : (fs : List (Bor RustField))
      → option_map (λ (f : Bor RustField). ann_of f.now.annotation) (first_named name_of_field fs word)
      ≡ annotation_named (map annotated_lent fs) word
  found_annotated [] = refl
  found_annotated (f ∷ fs) = by (bytes_eq word (name_of_field f)) (found_annotated fs)
    where
      by : (b : Bool) → option_map (λ (x : Bor RustField). ann_of x.now.annotation) (first_named name_of_field fs word)
          ≡ annotation_named (map annotated_lent fs) word
          → option_map (λ (x : Bor RustField). ann_of x.now.annotation)
          (cond b (Some f) (first_named name_of_field fs word))
          ≡ option_map (λ (a : Annotated). a.annotation) (cond b (Some (annotated_lent f))
          (find (λ (a : Annotated). bytes_eq word a.name) (map annotated_lent fs)))
      by true e = refl
      by false e = e

  -- what a map has of a name is the annotation of the first field of the name
  pub annotation_held : (f : FieldAnnotations) (those : List Annotated) (at : ℕ) → IsFieldMap f those at
      → option_map (λ (x : Bor RustField). ann_of x.now.annotation) (at_number f.fields.items (named_at f.named at word))
      ≡ annotation_named those word
  annotation_held f those at h =
      ap (option_map (λ (x : Bor RustField). ann_of x.now.annotation)) (h.held.same word) ∙ found_annotated h.fields
      ∙ ap (λ (l : List Annotated). annotation_named l word) h.are

-- ---- one field more

module _ (f : FieldAnnotations) (those : List Annotated) (at : ℕ) (h : IsFieldMap f those at) (x : Bor RustField) where
  are_more : map annotated_lent (h.fields ++ x ∷ []) ≡ those ++ annotated_lent x ∷ []
  are_more = map-append annotated_lent h.fields (x ∷ [])
      ∙ ap (λ (l : List Annotated). l ++ annotated_lent x ∷ []) h.are

  -- the first of a name, where there is one of this name already
  behind_one : (n : List ℕ) → is_some (first_named name_of_field h.fields (name_of_field x)) ≡ true
      → first_named name_of_field (h.fields ++ x ∷ []) n ≡ first_named name_of_field h.fields n
  behind_one n has = find-append (λ (y : Bor RustField). bytes_eq n (name_of_field y)) h.fields (x ∷ [])
      ∙ by (bytes_eq n (name_of_field x)) refl (first_named name_of_field h.fields n) refl
    where
      by : (b : Bool) → bytes_eq n (name_of_field x) ≡ b → (o : Option (Bor RustField))
          → first_named name_of_field h.fields n ≡ o
          → option_or (first_named name_of_field h.fields n) (cond b (Some x) None)
          ≡ first_named name_of_field h.fields n
      by b e (Some y) s = ap (λ q. option_or q (cond b (Some x) None)) s ∙ sym s
      by false e None s = ap (λ q. option_or q None) s ∙ sym s
      by true e None s = absurd (true≢false (sym has ∙ ap is_some (ap (first_named name_of_field h.fields)
          (sym ((bytes_eq-Decides n (name_of_field x)).0 e)) ∙ s)))

  -- what a map has of a name it has among its fields
  held_there : is_some (named_at f.named at (name_of_field x))
      ≡ is_some (first_named name_of_field h.fields (name_of_field x))
  held_there = go (named_at f.named at (name_of_field x)) (h.held.within (name_of_field x)) (h.held.same (name_of_field x))
    where
      there : (i : ℕ) (xs : List (Bor RustField)) → i < length xs → is_some (slice_get xs i) ≡ true
      there i [] l = absurd (omega arith)
      there zero (y ∷ ys) l = refl
      there (suc i) (y ∷ ys) l = there i ys (omega arith)

      go : (o : Option ℕ) → IsNumberIn f.fields.items o
          → at_number f.fields.items o ≡ first_named name_of_field h.fields (name_of_field x)
          → is_some o ≡ is_some (first_named name_of_field h.fields (name_of_field x))
      go None w e = ap is_some e
      go (Some i) w e = sym (there i f.fields.items w) ∙ ap is_some e

  -- a field of a name that the map has
  pub field_known : is_some (named_at f.named at (name_of_field x)) ≡ true
      → IsFieldMap f (those ++ annotated_lent x ∷ []) at
  field_known known = record {
    fields = h.fields ++ x ∷ [];
    are = are_more;
    held = record {
      is_map = h.held.is_map;
      within = h.held.within;
      same = λ n. h.held.same n ∙ sym (behind_one n (sym held_there ∙ known));
    };
  }

  none_of : (o : Option (Bor RustField)) → is_some o ≡ false → o ≡ None
  none_of None e = refl
  none_of (Some y) e = absurd (true≢false e)

  -- a field of a new name
  pub field_new : (g : FieldAnnotations) (new : ℕ) → is_some (named_at f.named at (name_of_field x)) ≡ false
      → IsMap g.named new
      → ((n : List ℕ) → named_at g.named new n
      ≡ cond (bytes_eq n (name_of_field x)) (Some (length f.fields.items)) (named_at f.named at n))
      → g.fields.items ≡ f.fields.items ++ x ∷ [] → IsFieldMap g (those ++ annotated_lent x ∷ []) new
  field_new g new unknown is_map put all = record {
    fields = h.fields ++ x ∷ [];
    are = are_more;
    held = subst (λ (xs : List (Bor RustField)). IsMapOf name_of_field g.named xs new (h.fields ++ x ∷ [])) (sym all)
        (held_more name_of_field f.named g.named f.fields.items at new h.fields (h.fields ++ x ∷ []) x h.held is_map put
        (named_behind name_of_field h.fields x
        (none_of (first_named name_of_field h.fields (name_of_field x)) (sym held_there ∙ unknown))));
  }

-- ---- the members of a class

-- the fields among members, one member more
pub fields_more_of : (ms : List RustMember) (i : ℕ) (x : RustMember) → i < length ms → x ≡ get_or ms i x
    → flat_map annotated_field (map member_of (take (i + 1) ms))
    ≡ flat_map annotated_field (map member_of (take i ms)) ++ annotated_field (member_of x)
fields_more_of ms i x h e =
    ap (λ (l : List RustMember). flat_map annotated_field (map member_of l))
    (take_more ms i x h ∙ ap (λ (y : RustMember). take i ms ++ y ∷ []) (sym e))
    ∙ ap (flat_map annotated_field) (map-append member_of (take i ms) (x ∷ []))
    ∙ flat_map-append annotated_field (map member_of (take i ms)) (member_of x ∷ [])
    ∙ ap (λ (l : List Annotated). flat_map annotated_field (map member_of (take i ms)) ++ l)
    (append-nil (annotated_field (member_of x)))

-- ---- one class more

module _ (f g : FieldAnnotations) (lists : List (List Annotated)) (h : HoldsFields lists f) (kept : KeepsFields f g)
    (own : List Annotated) (at : ℕ) (new : IsFieldMap g own at) (maps : g.maps.items ≡ f.maps.items ++ at ∷ []) where
  at_end : (xs : List ℕ) (ls : List (List Annotated)) → length xs ≡ length ls → (c k : ℕ)
      → ((i j : ℕ) → slice_get xs i ≡ Some j → IsFieldMap g (slice_index_or ls i []) j)
      → slice_get (xs ++ at ∷ []) c ≡ Some k → IsFieldMap g (slice_index_or (ls ++ own ∷ []) c []) k
  at_end [] [] same zero k each e = let is : at ≡ k = cc in subst (IsFieldMap g own) is new
  at_end [] [] same (suc c) k each e = let never : ⊥ = cc in absurd never
  at_end [] (l ∷ ls) same c k each e = let never : ⊥ = omega (arith, same) in absurd never
  at_end (x ∷ xs) [] same c k each e = let never : ⊥ = omega (arith, same) in absurd never
  at_end (x ∷ xs) (l ∷ ls) same zero k each e = each 0 k e
  at_end (x ∷ xs) (l ∷ ls) same (suc c) k each e =
      at_end xs ls (omega (arith, same)) c k (λ i j s. each (suc i) j s) e

  -- the maps of the classes so far, and of one more
  pub class_more : HoldsFields (lists ++ own ∷ []) g
  class_more = record {
    none = map_kept f g [] 0 kept h.none;
    many = ap length maps ∙ length-append f.maps.items (at ∷ []) ∙ ap (λ (n : ℕ). n + 1) h.many
        ∙ sym (length-append lists (own ∷ []));
    each = λ c k e. at_end f.maps.items lists h.many c k
        (λ i j s. map_kept f g (slice_index_or lists i []) j kept (h.each i j s))
        (sym (ap (λ (l : List ℕ). slice_get l c) maps) ∙ e);
  }

-- one class more, whose map is put behind the others
pub class_added : (f s : FieldAnnotations) (maps : Vec ℕ Global) (lists : List (List Annotated)) (own : List Annotated)
    (at : ℕ) → HoldsFields lists f → KeepsFields f s → s.maps.items ≡ f.maps.items → IsFieldMap s own at
    → maps.items ≡ s.maps.items ++ at ∷ []
    → HoldsFields (lists ++ own ∷ []) (record { named = s.named; maps = maps; fields = s.fields })
class_added f s maps lists own at h kept same new pushed =
    let g : FieldAnnotations = record { named = s.named; maps = maps; fields = s.fields } in
    class_more f g lists h (record { named = kept.named; more = kept.more; fields = kept.fields }) own at
    (record { fields = new.fields; are = new.are; held = new.held })
    (pushed ∙ ap (λ (l : List ℕ). l ++ at ∷ []) same)

-- ---- the maps of classes

never_some : (at : ℕ) → ◌≡◌ {A = Option ℕ} None (Some at) → ⊥
never_some at e = cc

-- the maps of no classes
pub start_holds : (f : FieldAnnotations) → IsMap f.named 0 → ((n : List ℕ) → named_at f.named 0 n ≡ None)
    → f.maps.items ≡ [] → HoldsFields [] f
start_holds f room empty maps = record {
  none = record {
    fields = [];
    are = refl;
    held = record {
      is_map = room;
      within = λ n. subst (IsNumberIn f.fields.items) (sym (empty n)) tt;
      same = λ n. ap (at_number f.fields.items) (empty n);
    };
  };
  many = ap length maps;
  each = λ c at e. absurd (never_some at (ap (λ (l : List ℕ). slice_get l c) (sym maps) ∙ e));
}

-- the map of a class
pub map_at : (lists : List (List Annotated)) (f : FieldAnnotations) (c at : ℕ) → HoldsFields lists f
    → Some at ≡ slice_get f.maps.items c → IsFieldMap f (slice_index_or lists c []) at
map_at lists f c at h e = h.each c at (sym e)

none_past : (lists : List (List Annotated)) (c : ℕ) → length lists ≤ c → slice_index_or lists c [] ≡ []
none_past [] zero h = refl
none_past [] (suc c) h = refl
none_past (l ∷ ls) zero h = absurd (omega arith)
none_past (l ∷ ls) (suc c) h = none_past ls c (omega arith)

-- a class without a map has no fields
pub no_map : (lists : List (List Annotated)) (f : FieldAnnotations) (maps : List ℕ) (c : ℕ) → HoldsFields lists f
    → maps ≡ f.maps.items → length maps ≤ c → slice_index_or lists c [] ≡ []
no_map lists f maps c h same past =
    let many : length maps ≡ length lists = ap length same ∙ h.many in
    none_past lists c (omega (arith, past, many))

-- ---- class after class

module _ (bases : Bases) (lists : List (List Annotated)) (all : List (List Annotated)) where
  -- one class more
  pub class_next : (n m i : ℕ) (cs : List (Bor RustClass)) (x : Bor RustClass) (base : Option ℕ) → suc n ≡ m → i < length cs
      → x ≡ get_or cs i x → base ≡ base_of bases n
      → fields_behind bases lists n (map class_lent (drop i cs)) ≡ all
      → fields_behind bases (lists ++ (inherited_fields lists base ++ annotated_fields (class_lent x)) ∷ []) m
      (map class_lent (drop (i + 1) cs)) ≡ all
  class_next n m i cs x base next less is same whole =
      ap (λ (k : ℕ). fields_behind bases (lists ++ (inherited_fields lists base ++ annotated_fields (class_lent x)) ∷ []) k
      (map class_lent (drop (i + 1) cs))) (sym next)
      ∙ ap (λ (o : Option ℕ). fields_behind bases (lists ++ (inherited_fields lists o ++ annotated_fields (class_lent x)) ∷ [])
      (suc n) (map class_lent (drop (i + 1) cs))) same
      ∙ sym (ap (λ (l : List (Bor RustClass)). fields_behind bases lists n (map class_lent l)) (drop_next cs i x less is))
      ∙ whole

  -- no class is left
  pub class_end : (n i : ℕ) (cs : List (Bor RustClass)) → length cs ≤ i
      → fields_behind bases lists n (map class_lent (drop i cs)) ≡ all → lists ≡ all
  class_end n i cs past whole = sym (ap (λ (l : List (Bor RustClass)). fields_behind bases lists n (map class_lent l))
      (drop_of_length-le cs past)) ∙ whole

-- ---- methods

method_or : (o : Option ClassDef) (i : ℕ)
    → slice_get (unwrap_or (option_map (λ (c : ClassDef). methods_in c.members) o) []) i ≡ method_at o i
method_or None i = refl
method_or (Some c) i = refl

-- a method of a class by its number
pub method_held : (vs : List (Vec (Bor RustFunction) Global)) (cs : List ClassDef) (c i : ℕ)
    → map (λ (v : Vec (Bor RustFunction) Global). map function_lent v.items) vs
    ≡ map (λ (c : ClassDef). methods_in c.members) cs
    → slice_get (unwrap_or (option_map (λ (v : Vec (Bor RustFunction) Global). map function_lent v.items)
    (slice_get vs c)) []) i ≡ method_at (slice_get cs c) i
method_held vs cs c i e =
    ap (λ (o : Option (List FuncDef)). slice_get (unwrap_or o []) i)
    (sym (slice_get-map (λ (v : Vec (Bor RustFunction) Global). map function_lent v.items) vs c)
    ∙ ap (λ (l : List (List FuncDef)). slice_get l c) e
    ∙ slice_get-map (λ (c : ClassDef). methods_in c.members) cs c)
    ∙ method_or (slice_get cs c) i
