-- The store gave the types of a table's classes if it gave those of all fields and methods.
use Rattle.std.proofs.Common.{ℕ, zero, suc, List, [], ◌∷◌, ◌++◌, sym, subst}
use Rattle.std.specs.Prelude.{Option, Some, None, All}
use Rattle.std.proofs.lemmas.List.Elements.{All-nil, All-head, All-tail, All-append, All-push, All-take, All-drop}
use Rattle.pc_class.specs.declared.table.Parameter.{Parameter as RustParameter}
use Rattle.pc_class.specs.declared.table.Method.{Method as RustMethod}
use Rattle.pc_class.specs.declared.parts.Span.{Span}
use Rattle.pc_class.specs.declared.parts.ClassNode.{ClassNode}
use Rattle.pc_class.specs.declared.parts.ClassArena.{ClassArena}
use Rattle.pc_class.specs.Tables.{ClassEntry, inherited_entry, HasParameter, HasMethod, HasEntry, HasEntries}
use Rattle.pc_class.specs.Parts.{items_in_span, entry_over, entries_behind, classes_of_table, HasParts}
use Rattle.pc_class.proofs.ClassAdded.{entries_are_behind}

all_part : {X : Type 0} (P : X → Type 0) (xs : List X) (s : Span) → All P xs → All P (items_in_span xs s)
all_part P xs s h = All-take P _ _ (All-drop P s.start xs h)

module _ {Ty : Type 0} (has : Ty → Type 0) where
  -- the members that a class inherits, and then those that it has, are of the store
  pub inherited_given : (es : List (ClassEntry Ty)) (o : Option ℕ) → HasEntries has es
      → HasEntry has (inherited_entry es o)
  inherited_given es None h = record { fields = All-nil (HasParameter has); methods = All-nil (HasMethod has) }
  inherited_given [] (Some b) h = record { fields = All-nil (HasParameter has); methods = All-nil (HasMethod has) }
  inherited_given (e ∷ es) (Some zero) h = All-head (HasEntry has) e es h
  inherited_given (e ∷ es) (Some (suc b)) h = inherited_given es (Some b) (All-tail (HasEntry has) e es h)

module _ {Ty : Type 0} (has : Ty → Type 0) (F : List (RustParameter Ty)) (M : List (RustMethod Ty))
    (f : All (HasParameter has) F) (g : All (HasMethod has) M) where
  entries_given : (es : List (ClassEntry Ty)) (ns : List ClassNode) → HasEntries has es
      → HasEntries has (entries_behind F M es ns)
  entries_given es [] h = h
  entries_given es (n ∷ ns) h =
      let b = inherited_given has es n.base h in
      entries_given (es ++ entry_over F M es n ∷ []) ns (All-push (HasEntry has) es (entry_over F M es n) h (record {
        fields = All-append (HasParameter has) (inherited_entry es n.base).fields (items_in_span F n.fields) b.fields
            (all_part (HasParameter has) F n.fields f);
        methods = All-append (HasMethod has) (items_in_span M n.methods) (inherited_entry es n.base).methods
            (all_part (HasMethod has) M n.methods g) b.methods;
      }))

pub table_given : {Ty : Type 0} (has : Ty → Type 0) (p : ClassArena Ty) → HasParts has p → HasEntries has (classes_of_table p)
table_given has p h = subst (HasEntries has) (sym (entries_are_behind p))
    (entries_given has p.fields.items p.methods.items h.fields h.methods [] p.classes.items (All-nil (HasEntry has)))
