-- The findings about overriding, class by class and method by method: the own methods of a class in the table are those
-- that the class binds.
use Rattle.std.proofs.Common.{◌≡◌, ◌<◌, ◌+◌, ℕ, zero, suc, List, [], ◌∷◌, ◌++◌, map, drop, length, get_or, refl, sym}
use Rattle.std.proofs.Common.{ap, ◌∙◌, arith, length-append, append_assoc}
use Rattle.std.specs.Prelude.{Option, Some, None, slice_get, slice_index_or}
use Rattle.std.proofs.lemmas.Option.{slice_get-get_or, same_Some}
use Rattle.std.proofs.lemmas.List.{append_cancel_right, map-append, length-map}
use Rattle.std.proofs.lemmas.List.Elements.{All-weaker}
use Rattle.std.proofs.Math.Seq.{drop-cons}
use Rattle.pc_tree.specs.declared.code.Finding.{Finding}
use Rattle.pc_tree.specs.Tree.{ClassDef, Module}
use Rattle.pc_scope.specs.Bindings.{classes_in}
use Rattle.pc_types.specs.Tree.{Tree}
use Rattle.pc_types.specs.Below.{Bases}
use Rattle.pc_annotations.specs.Bases.{base_named}
use Rattle.pc_class.specs.declared.table.Method.{Method as RustMethod}
use Rattle.pc_class.specs.Facts.{Method, ClassFacts, class_facts_at, base_facts, own_methods, class_facts_behind}
use Rattle.pc_class.specs.Facts.{classes_behind, classes_of}
use Rattle.pc_class.specs.OverrideFindings.{found_at_method, found_at_methods, class_overrides, overrides_from}
use Rattle.pc_class.specs.OverrideFindings.{override_findings}
use Rattle.pc_class.specs.Tables.{ClassEntry, empty_entry, inherited_entry, class_with, classes_with, method_with}
use Rattle.pc_class.specs.Tables.{HasParameter, HasMethod, HasEntry, HasEntries}
use Rattle.pc_class.proofs.ClassesBuilt.{class_is, class_over}
use Rattle.pc_class.proofs.TableReads.{inherits_there}
use Rattle.pc_overrides.proofs.OverrideWalk.{method_keeps}

module _ {Ty : Type 0} where
  -- the store has the types of a table still
  pub entries_keep : (has later : Ty → Type 0) (es : List (ClassEntry Ty)) → ((t : Ty) → has t → later t)
      → HasEntries has es → HasEntries later es
  entries_keep has later es keeps = All-weaker (HasEntry has) (HasEntry later) (λ e h. record {
    fields = All-weaker (HasParameter has) (HasParameter later) (λ p q. keeps p.ty q) e.fields h.fields;
    methods = All-weaker (HasMethod has) (HasMethod later) (λ x q. method_keeps has later x keeps q) e.methods
        h.methods;
  }) es

  -- the methods that the table has of a class beside its base's are those that the class binds
  pub own_there : (tree : Ty → Tree) (es : List (ClassEntry Ty)) (m : Module) (c : ℕ) (class : ClassDef)
      → slice_get (classes_in m.items) c ≡ Some class → classes_with tree es ≡ classes_of m
      → (own : List (RustMethod Ty)) → (slice_index_or es c empty_entry).methods ≡ own
      ++ (inherited_entry es (slice_index_or es c empty_entry).base).methods
      → map (method_with tree) own ≡ own_methods m (base_facts (classes_of m) (base_named m c class.base)) c 0 []
      class.members
  own_there tree es m c class is same own over = append_cancel_right _ _ parent.methods all
    where
      entry : ClassEntry Ty
      entry = slice_index_or es c empty_entry

      parent : ClassFacts
      parent = base_facts (classes_of m) (base_named m c class.base)

      whole : class_with tree entry ≡ class_over m c class parent
      whole = sym (inherits_there tree es (Some c)) ∙ ap (λ (cs : List ClassFacts). class_facts_at cs c) same
          ∙ class_is m c class is

      above : map (method_with tree) (inherited_entry es entry.base).methods ≡ parent.methods
      above =
          ap (λ (k : ClassFacts). k.methods) (sym (inherits_there tree es entry.base)
          ∙ ap (λ (cs : List ClassFacts). base_facts cs entry.base) same)
          ∙ ap (λ o. (base_facts (classes_of m) o).methods) (ap (λ (k : ClassFacts). k.base) whole)

      all : map (method_with tree) own ++ parent.methods ≡ own_methods m parent c 0 [] class.members ++ parent.methods
      all =
          ap (λ (xs : List Method). map (method_with tree) own ++ xs) (sym above)
          ∙ sym (map-append (method_with tree) own (inherited_entry es entry.base).methods)
          ∙ ap (map (method_with tree)) (sym over)
          ∙ ap (λ (k : ClassFacts). k.methods) whole

  -- the findings of one more method
  pub methods_next : (tree : Ty → Tree) (bases : Bases) (above : List Method) (own : List (RustMethod Ty)) (i : ℕ)
      (x : RustMethod Ty) → i < length own → x ≡ get_or own i x → (old mid total : List Finding)
      → old ++ found_at_methods bases above (map (method_with tree) (drop i own)) ≡ total
      → mid ≡ old ++ found_at_method bases above (method_with tree x)
      → mid ++ found_at_methods bases above (map (method_with tree) (drop (i + 1) own)) ≡ total
  methods_next tree bases above own i x less is old mid total so_far here =
      let rest : ℕ → List Finding = λ k. found_at_methods bases above (map (method_with tree) (drop k own)) in
      ap (λ (fs : List Finding). fs ++ rest (i + 1)) here
      ∙ append_assoc old (found_at_method bases above (method_with tree x)) (rest (i + 1))
      ∙ ap (λ k. old ++ (found_at_method bases above (method_with tree x) ++ rest k))
      (let e : i + 1 ≡ suc i = omega arith in e)
      ∙ ap (λ (ys : List (RustMethod Ty)). old ++ found_at_methods bases above (map (method_with tree) ys))
      (ap (λ (y : RustMethod Ty). y ∷ drop (suc i) own) is ∙ sym (drop-cons own i x less))
      ∙ so_far

-- ---- classes

many_behind : (m : Module) (earlier : List ClassFacts) (c : ℕ) (cs : List ClassDef)
    → length (classes_behind m earlier c cs) ≡ length earlier + length cs
many_behind m earlier c [] = omega arith
many_behind m earlier c (class ∷ rest) =
    let more = length-append earlier (class_facts_behind m earlier c class ∷ []) in
    many_behind m (earlier ++ class_facts_behind m earlier c class ∷ []) (suc c) rest ∙ omega arith

many_classes : (m : Module) → length (classes_of m) ≡ length (classes_in m.items)
unfolding classes_of
many_classes m = many_behind m [] 0 (classes_in m.items) ∙ omega arith

-- a table has as many classes as its module
pub as_many : {Ty : Type 0} (tree : Ty → Tree) (es : List (ClassEntry Ty)) (m : Module)
    → classes_with tree es ≡ classes_of m → length es ≡ length (classes_in m.items)
as_many tree es m same = sym (length-map es (class_with tree)) ∙ ap length same ∙ many_classes m

-- the findings of one more class
pub record OneMore (m : Module) (cs : List ClassDef) (c : ℕ) : Type 0 where
  pub class : ClassDef
  pub is : slice_get cs c ≡ Some class
  pub next : overrides_from m c (drop c cs) ≡ class_overrides m c class ++ overrides_from m (c + 1) (drop (c + 1) cs)

none_some : {x : ClassDef} → None ≡ Some x → ⊥
none_some e = grind (arith, e)

there : (cs : List ClassDef) (c : ℕ) → c < length cs → (x : ClassDef) × (slice_get cs c ≡ Some x)
there [] c less = absurd (omega arith)
there (x ∷ cs) zero less = (x, refl)
there (x ∷ cs) (suc c) less = there cs c (omega arith)

pub one_more : (m : Module) (cs : List ClassDef) (c : ℕ) → c < length cs → OneMore m cs c
one_more m cs c less = go (slice_get cs c) refl
  where
    go : (o : Option ClassDef) → slice_get cs c ≡ o → OneMore m cs c
    go None e = absurd (none_some (sym e ∙ (there cs c less).1))
    go (Some class) e = record {
      class = class;
      is = e;
      next = ap (overrides_from m c) (drop-cons cs c class less ∙ ap (λ (x : ClassDef). x ∷ drop (suc c) cs)
          (same_Some _ _ (sym (slice_get-get_or cs c class less) ∙ e)))
          ∙ ap (λ k. class_overrides m c class ++ overrides_from m k (drop k cs))
          (let f : suc c ≡ c + 1 = omega arith in f);
    }

pub classes_next : (m : Module) (c : ℕ) (class : ClassDef) (old mid total rest next : List Finding)
    → old ++ rest ≡ total → rest ≡ class_overrides m c class ++ next → mid ≡ old ++ class_overrides m c class
    → mid ++ next ≡ total
classes_next m c class old mid total rest next so_far e here =
    ap (λ (fs : List Finding). fs ++ next) here ∙ append_assoc old (class_overrides m c class) next
    ∙ ap (λ (fs : List Finding). old ++ fs) (sym e) ∙ so_far

pub findings_are : (m : Module) → override_findings m ≡ overrides_from m 0 (classes_in m.items)
unfolding override_findings
findings_are m = refl
