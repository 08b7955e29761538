-- The fields and the methods of a class: those that it binds itself and those of its base.
use Rattle.std.proofs.Common.{◌≡◌, ◌<◌, ◌≤◌, ◌+◌, ◌-◌, ℕ, zero, suc, List, [], ◌∷◌, ◌++◌, length, take, drop}
use Rattle.std.proofs.Common.{get_or, refl, sym, ap, ◌∙◌, arith, length-drop}
use Rattle.std.specs.Prelude.{Option, Some, None, Contains, slice_get, slice_index_or}
use Rattle.std.proofs.lemmas.List.{get_or-drop}
use Rattle.std.proofs.Math.Seq.{take-suc}
use Rattle.pc_class.specs.declared.table.Parameter.{Parameter as RustParameter}
use Rattle.pc_class.specs.declared.table.Method.{Method as RustMethod}
use Rattle.pc_class.specs.declared.parts.Span.{Span}
use Rattle.pc_class.specs.declared.parts.ClassNode.{ClassNode}
use Rattle.pc_shared_maps.specs.NameMaps.{NameMaps}
use Rattle.pc_class.specs.Tables.{ClassEntry, empty_entry, inherited_entry}
use Rattle.pc_class.specs.Parts.{items_in_span, AreNodes}

abbrev pub span : ℕ → ℕ → Span
span start end = record { start = start; end = end }

-- a part with one more
pub part_more : {X : Type 0} (xs : List X) (start end : ℕ) (x : X) → start ≤ end → end < length xs → x ≡ get_or xs end x
    → items_in_span xs (span start (suc end)) ≡ items_in_span xs (span start end) ++ x ∷ []
part_more xs start end x order less is =
    let l = length-drop start xs in
    ap (λ n. take n (drop start xs)) (let e : suc end - start ≡ suc (end - start) = omega arith in e)
    ∙ take-suc (drop start xs) (end - start) x (omega arith)
    ∙ ap (λ y. take (end - start) (drop start xs) ++ y ∷ []) (get_or-drop start xs (end - start) x
    ∙ ap (λ n. get_or xs n x) (let e : start + (end - start) ≡ end = omega arith in e) ∙ sym is)

pub part_none : {X : Type 0} (xs : List X) (start end : ℕ) → end ≤ start → items_in_span xs (span start end) ≡ []
part_none xs start end less = ap (λ n. take n (drop start xs)) (let e : end - start ≡ 0 = omega arith in e)

-- the number of classes that there can be on the way up
abbrev pub steps_left : Option ℕ → ℕ
steps_left None = 0
steps_left (Some n) = suc n

pub fewer : (o : Option ℕ) (n : ℕ) → ((b : ℕ) → o ≡ Some b → b < n) → steps_left o ≤ n
fewer None n h = omega arith
fewer (Some b) n h = let l = h b refl in omega arith

module _ {Ty : Type 0} where
  pub index_is : (es : List (ClassEntry Ty)) (i : ℕ) (x other : ClassEntry Ty) → slice_get es i ≡ Some x
      → slice_index_or es i other ≡ x
  index_is [] i x other e = absurd (grind (arith, e))
  index_is (y ∷ xs) zero x other e = grind (arith, e)
  index_is (y ∷ xs) (suc i) x other e = index_is xs i x other e

  -- a class's fields are its base's and then those that it binds itself
  pub fields_over : (d : NameMaps) (F : List (RustParameter Ty)) (M : List (RustMethod Ty)) (ns : List ClassNode)
      (es : List (ClassEntry Ty)) → AreNodes d F M ns es → (c : ℕ) (n : ClassNode) → slice_get ns c ≡ Some n
      → (inherited_entry es (Some c)).fields ≡ (inherited_entry es n.base).fields ++ items_in_span F n.fields
  fields_over d F M ns es are c n is = ap (λ (e : ClassEntry Ty). e.fields)
      (index_is es c _ empty_entry (are.each c n is).is)

  -- the methods of a class are those that it binds itself and then those of its base
  pub methods_over : (d : NameMaps) (F : List (RustParameter Ty)) (M : List (RustMethod Ty)) (ns : List ClassNode)
      (es : List (ClassEntry Ty)) → AreNodes d F M ns es → (c : ℕ) (n : ClassNode) → slice_get ns c ≡ Some n
      → (own : List (RustMethod Ty)) → own ≡ items_in_span M n.methods
      → (slice_index_or es c empty_entry).methods ≡ own ++ (inherited_entry es
      (slice_index_or es c empty_entry).base).methods
  methods_over d F M ns es are c n is own same =
      let here = index_is es c _ empty_entry (are.each c n is).is in
      ap (λ (e : ClassEntry Ty). e.methods) here ∙ ap (λ (xs : List (RustMethod Ty)). xs
      ++ (inherited_entry es n.base).methods) (sym same)
      ∙ ap (λ (e : ClassEntry Ty). own ++ (inherited_entry es e.base).methods) (sym here)

  pub entry_listed : (es : List (ClassEntry Ty)) (i : ℕ) (d : ClassEntry Ty) → i < length es
      → Contains es (slice_index_or es i d)
  entry_listed es i d l = (i, l, go es i (slice_index_or es i d) l)
    where
      go : (xs : List (ClassEntry Ty)) (k : ℕ) (e : ClassEntry Ty) → k < length xs
          → slice_index_or xs k e ≡ slice_index_or xs k d
      go [] k e h = absurd (omega arith)
      go (x ∷ xs) zero e h = refl
      go (x ∷ xs) (suc k) e h = go xs k e (omega arith)
