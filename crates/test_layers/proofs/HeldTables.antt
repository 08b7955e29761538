-- The types of fields and methods of a table are of the store that gave the table's types.
use Rattle.std.proofs.Common.{◌≡◌, ◌∙◌, ℕ, List, sym, ap}
use Rattle.std.specs.Prelude.{Option, Some, slice_get}
use Rattle.std.specs.Borrow.{Bor}
use Rattle.std.specs.Option.{option_map}
use Rattle.std.proofs.lemmas.List.Elements.{All-contains}
use Rattle.pc_types.specs.Boxed.{IsGiven}
use Rattle.pc_types.specs.declared.boxed.BoxType.{BoxType}
use Rattle.pc_class.specs.declared.table.Parameter.{Parameter}
use Rattle.pc_class.specs.declared.table.Method.{Method}
use Rattle.pc_class.specs.FieldLists.{fields_in}
use Rattle.pc_class.specs.Parts.{lent_parameter}
use Rattle.pc_class.specs.Tables.{ClassEntry, HasParameter, HasMethod, HasEntry, HasEntries, IsField, IsMethod}
use Rattle.pc_class.proofs.EntriesGiven.{inherited_given}
use Rattle.pc_class.proofs.TableReads.{get_contains}

module _ {cs : List (ClassEntry BoxType)} (h : HasEntries IsGiven cs) where
  -- a field of the table
  pub field_held : (p : Parameter BoxType) → IsField cs p → HasParameter IsGiven p
  field_held p f = All-contains (HasParameter IsGiven) f.class.fields p
      (All-contains (HasEntry IsGiven) cs f.class h f.listed).fields f.among

  -- a method of the table
  pub method_held : (x : Method BoxType) → IsMethod cs x → HasMethod IsGiven x
  method_held x m = All-contains (HasMethod IsGiven) m.class.methods x
      (All-contains (HasEntry IsGiven) cs m.class h m.listed).methods m.among

-- the field at a place of a class
pub place_held : (cs : List (ClassEntry BoxType)) → HasEntries IsGiven cs → (class place : ℕ)
    (o : Option (Bor (Parameter BoxType))) (p : Bor (Parameter BoxType)) → o ≡ Some p
    → option_map lent_parameter o ≡ slice_get (fields_in cs class) place → HasParameter IsGiven p.now
place_held cs h class place o p is told = All-contains (HasParameter IsGiven) (fields_in cs class) p.now
    (inherited_given IsGiven cs (Some class) h).fields
    (get_contains (fields_in cs class) place p.now (sym told ∙ ap (option_map lent_parameter) is))
