-- A class table with one more class: the classes before it are kept, and it has the members of its base and its own.
use Rattle.std.proofs.Common.{◌≡◌, ◌<◌, ◌+◌, ◌-◌, ◌⊎◌, ℕ, zero, suc, List, [], ◌∷◌, ◌++◌, length, take, drop, refl, sym}
use Rattle.std.proofs.Common.{ap, ◌∙◌, subst, inl, inr, arith, length-append, length-drop, append-nil}
use Rattle.std.specs.Prelude.{Option, Some, None, slice_get, slice_index_or}
use Rattle.std.specs.List.{list_any}
use Rattle.std.proofs.lemmas.Option.{same_Some}
use Rattle.std.proofs.lemmas.List.{take-append-le, drop-append-le}
use Rattle.std.proofs.Math.Seq.{drop-append_seam, take-length}
use Rattle.pc_class.specs.declared.table.Parameter.{Parameter as RustParameter}
use Rattle.pc_class.specs.declared.table.Method.{Method as RustMethod}
use Rattle.pc_class.specs.declared.parts.Span.{Span}
use Rattle.pc_class.specs.declared.parts.ClassNode.{ClassNode}
use Rattle.pc_shared_maps.specs.NameMaps.{NameMaps, KeepsNamed}
use Rattle.pc_class.specs.Outlines.{IsMapOf}
use Rattle.pc_class.specs.Tables.{ClassEntry, empty_entry, inherited_entry}
use Rattle.pc_class.specs.Parts.{items_in_span, IsSpan, parameter_name, stored_method_name, entry_over, entries_behind}
use Rattle.pc_class.specs.Parts.{IsClassNode, AreNodes}
use Rattle.pc_class.proofs.Holding.{held_kept}

-- ---- parts of lists

pub part_front : {X : Type 0} (xs ys : List X) (s : Span) → IsSpan (length xs) s → items_in_span (xs ++ ys) s ≡ items_in_span xs s
part_front xs ys s h =
    let o = h.order in
    let w = h.within in
    let l = length-drop s.start xs in
    ap (take (s.end - s.start)) (drop-append-le s.start xs ys (omega arith))
    ∙ take-append-le (s.end - s.start) (drop s.start xs) ys (omega arith)

pub part_back : {X : Type 0} (xs ys : List X) → items_in_span (xs ++ ys)
    (let s : Span = record { start = length xs; end = length (xs ++ ys) } in s) ≡ ys
part_back xs ys =
    let l = length-append xs ys in
    let n : length (xs ++ ys) - length xs ≡ length ys = omega arith in
    ap (λ k. take k (drop (length xs) (xs ++ ys))) n ∙ ap (take (length ys)) (drop-append_seam xs ys) ∙ take-length ys

pub span_front : (n k : ℕ) (s : Span) → IsSpan n s → IsSpan (n + k) s
span_front n k s h = let w = h.within in record { order = h.order; within = omega arith }

-- ---- elements of lists with one more

pub get_before : {X : Type 0} (xs ys : List X) (i : ℕ) → i < length xs → slice_get (xs ++ ys) i ≡ slice_get xs i
get_before [] ys i h = absurd (omega arith)
get_before (x ∷ xs) ys zero h = refl
get_before (x ∷ xs) ys (suc i) h = get_before xs ys i (omega arith)

pub index_before : {X : Type 0} (xs ys : List X) (i : ℕ) (d : X) → i < length xs → slice_index_or (xs ++ ys) i d
    ≡ slice_index_or xs i d
index_before [] ys i d h = absurd (omega arith)
index_before (x ∷ xs) ys zero d h = refl
index_before (x ∷ xs) ys (suc i) d h = index_before xs ys i d (omega arith)

pub get_last : {X : Type 0} (xs : List X) (y : X) → slice_get (xs ++ y ∷ []) (length xs) ≡ Some y
get_last [] y = refl
get_last (x ∷ xs) y = get_last xs y

get_less : {X : Type 0} (xs : List X) (i : ℕ) (x : X) → slice_get xs i ≡ Some x → i < length xs
get_less [] i x e = absurd (grind (arith, e))
get_less (y ∷ xs) zero x e = omega arith
get_less (y ∷ xs) (suc i) x e = let l = get_less xs i x e in omega arith

one_more : {A : Type 0} (xs : List A) (y : A) (i : ℕ) (z : A) → slice_get (xs ++ y ∷ []) i ≡ Some z
    → (slice_get xs i ≡ Some z) ⊎ ((i ≡ length xs) × (y ≡ z))
one_more [] y zero z e = inr (refl, same_Some _ _ e)
one_more [] y (suc i) z e = absurd (grind (arith, e))
one_more (x ∷ xs) y zero z e = inl e
one_more (x ∷ xs) y (suc i) z e = elim (one_more xs y i z e) [ inl a ↦ inl a | inr b ↦ inr (ap suc b.0, b.1) ]

-- ---- the classes of a table with more

module _ {Ty : Type 0} where
  pub inherited_before : (es more : List (ClassEntry Ty)) (o : Option ℕ) → ((b : ℕ) → o ≡ Some b → b < length es)
      → inherited_entry (es ++ more) o ≡ inherited_entry es o
  inherited_before es more None h = refl
  inherited_before es more (Some b) h = index_before es more b empty_entry (h b refl)

  module _ (F fs : List (RustParameter Ty)) (M ms : List (RustMethod Ty)) where
    over_front : (es : List (ClassEntry Ty)) (n : ClassNode) → IsSpan (length F) n.fields → IsSpan (length M) n.methods
        → entry_over (F ++ fs) (M ++ ms) es n ≡ entry_over F M es n
    over_front es n hf hm =
        ap (λ (ps : List (RustParameter Ty)). let e : ClassEntry Ty =
        record {
          base = n.base;
          fields = (inherited_entry es n.base).fields ++ ps;
          methods =
              items_in_span (M ++ ms) n.methods ++ (inherited_entry es n.base).methods;
        } in e) (part_front F fs n.fields hf)
        ∙ ap (λ (xs : List (RustMethod Ty)). let e : ClassEntry Ty =
        record {
          base = n.base;
          fields = (inherited_entry es n.base).fields ++ items_in_span F n.fields;
          methods =
              xs ++ (inherited_entry es n.base).methods;
        } in e) (part_front M ms n.methods hm)

    entries_front : (earlier : List (ClassEntry Ty)) (ns : List ClassNode)
        → ((c : ℕ) (n : ClassNode) → slice_get ns c ≡ Some n → IsSpan (length F) n.fields × IsSpan (length M) n.methods)
        → entries_behind (F ++ fs) (M ++ ms) earlier ns ≡ entries_behind F M earlier ns
    entries_front earlier [] h = refl
    entries_front earlier (n ∷ ns) h =
        entries_front (earlier ++ entry_over (F ++ fs) (M ++ ms) earlier n ∷ []) ns (λ c x e. h (suc c) x e)
        ∙ ap (λ (e : ClassEntry Ty). entries_behind F M (earlier ++ e ∷ []) ns)
        (over_front earlier n (h 0 n refl).0 (h 0 n refl).1)

    entries_last : (earlier : List (ClassEntry Ty)) (ns : List ClassNode) (n : ClassNode)
        → entries_behind F M earlier (ns ++ n ∷ []) ≡ entries_behind F M earlier ns ++ entry_over F M
        (entries_behind F M earlier ns) n ∷ []
    entries_last earlier [] n = refl
    entries_last earlier (x ∷ ns) n = entries_last (earlier ++ entry_over F M earlier x ∷ []) ns n

  -- one more class over a table
  module _ (d d2 : NameMaps) (k : KeepsNamed d d2) (F fs : List (RustParameter Ty)) (M ms : List (RustMethod Ty))
      (ns : List ClassNode) (es : List (ClassEntry Ty)) (are : AreNodes d F M ns es)
      (n : ClassNode) (hf : n.fields ≡ (let s : Span = record { start = length F; end = length (F ++ fs) } in s))
      (hm : n.methods ≡ (let s : Span = record { start = length M; end = length (M ++ ms) } in s))
      (before : (b : ℕ) → n.base ≡ Some b → b < length ns) where
    -- the class
    abbrev pub entry_next : ClassEntry Ty
    entry_next = record {
      base = n.base;
      fields = (inherited_entry es n.base).fields ++ fs;
      methods =
          ms ++ (inherited_entry es n.base).methods;
    }

    base_before : (b : ℕ) → n.base ≡ Some b → b < length es
    base_before b e = let l = before b e in let m = are.many in omega arith

    next_over : (more : List (ClassEntry Ty)) → entry_over (F ++ fs) (M ++ ms) (es ++ more) n ≡ entry_next
    next_over more =
        ap (λ (b : ClassEntry Ty). let e : ClassEntry Ty = record {
          base = n.base;
          fields = b.fields ++ items_in_span (F ++ fs)
              n.fields;
          methods = items_in_span (M ++ ms) n.methods ++ b.methods;
        } in e)
        (inherited_before es more n.base base_before)
        ∙ ap (λ (ps : List (RustParameter Ty)). let e : ClassEntry Ty =
        record {
          base = n.base;
          fields = (inherited_entry es n.base).fields ++ ps;
          methods =
              items_in_span (M ++ ms) n.methods ++ (inherited_entry es n.base).methods;
        } in e) (ap (items_in_span (F ++ fs)) hf
        ∙ part_back F fs)
        ∙ ap (λ (xs : List (RustMethod Ty)). let e : ClassEntry Ty =
        record {
          base = n.base;
          fields = (inherited_entry es n.base).fields ++ fs;
          methods =
              xs ++ (inherited_entry es n.base).methods;
        } in e) (ap (items_in_span (M ++ ms)) hm ∙ part_back M ms)

    pub entries_next : es ≡ entries_behind F M [] ns → entries_behind (F ++ fs) (M ++ ms) [] (ns ++ n ∷ []) ≡ es
        ++ entry_next ∷ []
    entries_next e =
        let front = entries_front F fs M ms [] ns (λ c x i. let node = are.each c x i in
        (node.own_fields, node.own_methods)) ∙ sym e in
        entries_last (F ++ fs) [] (M ++ ms) [] [] ns n
        ∙ ap (λ (xs : List (ClassEntry Ty)). xs ++ entry_over (F ++ fs) (M ++ ms) xs n ∷ []) front
        ∙ ap (λ (x : ClassEntry Ty). es ++ x ∷ []) (ap (λ (xs : List (ClassEntry Ty)). entry_over (F ++ fs) (M ++ ms) xs
        n) (sym (append-nil es)) ∙ next_over [])

    -- a class before it
    node_kept : (c : ℕ) (x : ClassNode) → slice_get ns c ≡ Some x → IsClassNode d F M es c x
        → IsClassNode d2 (F ++ fs) (M ++ ms) (es ++ entry_next ∷ []) c x
    node_kept c x is h =
        let less = get_less ns c x is in
        let many = are.many in
        let same = over_front F fs M ms (es ++ entry_next ∷ []) x h.own_fields h.own_methods
        ∙ ap (λ (b : ClassEntry Ty). let e : ClassEntry Ty = record {
          base = x.base;
          fields =
              b.fields ++ items_in_span F x.fields;
          methods = items_in_span M x.methods ++ b.methods;
        } in e)
        (inherited_before es (entry_next ∷ []) x.base (λ b e. let l = h.before b e in omega arith)) in
        record {
          before = h.before;
          own_fields = subst (λ j. IsSpan j x.fields) (sym (length-append F fs))
              (span_front (length F) (length fs) x.fields h.own_fields);
          own_methods = subst (λ j. IsSpan j x.methods) (sym (length-append M ms))
              (span_front (length M) (length ms) x.methods h.own_methods);
          is = get_before es (entry_next ∷ []) c (omega arith) ∙ h.is ∙ ap Some (sym same);
          fields_held = subst (λ (e : ClassEntry Ty). IsMapOf parameter_name d2 (F ++ fs) x.held.fields e.fields)
              (sym same) (held_kept parameter_name d d2 F fs x.held.fields _ h.fields_held k);
          methods_held = subst (λ (e : ClassEntry Ty). IsMapOf stored_method_name d2 (M ++ ms) x.held.methods e.methods)
              (sym same) (held_kept stored_method_name d d2 M ms x.held.methods _ h.methods_held k);
          defaulted = h.defaulted ∙ ap (λ (e : ClassEntry Ty). list_any (λ (p : RustParameter Ty). p.has_default)
              e.fields) (sym same);
        }

    -- the class itself
    node_next : (c : ℕ) → c ≡ length ns → IsMapOf parameter_name d2 (F ++ fs) n.held.fields
        ((inherited_entry es n.base).fields ++ fs) → IsMapOf stored_method_name d2 (M ++ ms) n.held.methods
        (ms ++ (inherited_entry es n.base).methods)
        → n.defaulted ≡ list_any (λ (p : RustParameter Ty). p.has_default) ((inherited_entry es n.base).fields ++ fs)
        → IsClassNode d2 (F ++ fs) (M ++ ms) (es ++ entry_next ∷ []) c n
    node_next c e f g b =
        let same = next_over (entry_next ∷ []) in
        let lf = length-append F fs in
        let lm = length-append M ms in
        record {
          before = λ i j. let l = before i j in omega arith;
          own_fields = subst (IsSpan (length (F ++ fs))) (sym hf)
              (record { order = omega arith; within = omega arith });
          own_methods = subst (IsSpan (length (M ++ ms))) (sym hm)
              (record { order = omega arith; within = omega arith });
          is = ap (slice_get (es ++ entry_next ∷ [])) (e ∙ sym are.many) ∙ get_last es entry_next ∙ ap Some (sym same);
          fields_held = subst (λ (x : ClassEntry Ty). IsMapOf parameter_name d2 (F ++ fs) n.held.fields x.fields)
              (sym same) f;
          methods_held = subst (λ (x : ClassEntry Ty). IsMapOf stored_method_name d2 (M ++ ms) n.held.methods x.methods)
              (sym same) g;
          defaulted = b ∙ ap (λ (x : ClassEntry Ty). list_any (λ (p : RustParameter Ty). p.has_default) x.fields)
              (sym same);
        }

    pub nodes_next : IsMapOf parameter_name d2 (F ++ fs) n.held.fields ((inherited_entry es n.base).fields ++ fs)
        → IsMapOf stored_method_name d2 (M ++ ms) n.held.methods (ms ++ (inherited_entry es n.base).methods)
        → n.defaulted ≡ list_any (λ (p : RustParameter Ty). p.has_default) ((inherited_entry es n.base).fields ++ fs)
        → AreNodes d2 (F ++ fs) (M ++ ms) (ns ++ n ∷ []) (es ++ entry_next ∷ [])
    nodes_next f g b =
        let many = are.many in
        let le = length-append es (entry_next ∷ []) in
        let ln = length-append ns (n ∷ []) in
        record {
          no_fields = held_kept parameter_name d d2 F fs 0 [] are.no_fields k;
          no_methods = held_kept stored_method_name d d2 M ms 0 [] are.no_methods k;
          many = omega arith;
          each = λ c x is. elim (one_more ns n c x is) [
            | inl a ↦ node_kept c x a (are.each c x a)
            | inr a ↦ subst (IsClassNode d2 (F ++ fs) (M ++ ms) (es ++ entry_next ∷ []) c) a.1 (node_next c a.0 f g b)
          ];
        }
