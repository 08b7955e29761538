-- A well-typed heap that has everything that values of a type and of the fields of all classes refer to; thus each flow
-- that is not static is needed.
use Rattle.std.proofs.Common.{List, [], ◌∷◌, ◌++◌, length, map, refl, sym, ap, ◌∙◌}
use Rattle.std.specs.Option.{option_map}
use Rattle.std.proofs.lemmas.List.{length-map}
use Rattle.std.proofs.lemmas.Option.{slice_get-map}
use Rattle.pc_types.specs.Tree.{Tree}
use Rattle.pc_types.specs.Below.{Bases, AreSmaller, Static}
use Rattle.pc_types.specs.Normal.{IsNormal}
use Rattle.pc_class.specs.Facts.{ClassFacts, TypedParameter, class_facts_at}
use Rattle.pc_value.specs.Value.{Slot, Cell, list_cell, dict_cell, instance_cell, Heap}
use Rattle.pc_sound.specs.Values.{HeapTyping, Recorded, a_list, a_dict, a_class, SlotsHave, CellHas, IsWell}
use Rattle.pc_sound.specs.Needed.{HasNoNever, NoneHasNever, FieldsHaveNoNever, IsNeeded, IsNeededWithin}
use Rattle.pc_sound.proofs.Values.Requirements.{required, required_by_fields, required_by_classes, Records}
use Rattle.pc_sound.proofs.Values.Requirements.{records_itself, records_first, records_second, records_fields}
use Rattle.pc_sound.proofs.Values.Requirements.{fields_without}
use Rattle.pc_sound.proofs.Values.RequiredClasses.{AllBelow, below_at}
use Rattle.pc_sound.proofs.Values.Inhabitants.{any_value}
use Rattle.pc_sound.proofs.Values.Differences.{difference}

module _ (bases : Bases) (classes : List ClassFacts) (without : FieldsHaveNoNever classes) where
  module _ (k : HeapTyping) (records : Records k (required_by_classes classes)) where
    -- slots for the fields
    record SlotsOf (fs : List TypedParameter) : Type 0 where
      slots : List Slot
      have : SlotsHave bases k fs slots

    slots_of : (fs : List TypedParameter) → NoneHasNever fs → Records k (required_by_fields fs) → SlotsOf fs
    slots_of [] n r = record { slots = []; have = tt }
    slots_of (f ∷ fs) n r =
        let v = any_value bases k f.type n.0 (records_first (required f.type) (required_by_fields fs) r) in
        let rest = slots_of fs n.1 (records_second (required f.type) (required_by_fields fs) r) in
        record { slots = record { name = f.name; value = v.value } ∷ rest.slots; have = (refl, v.has, rest.have) }

    -- a cell of what is recorded: an empty list, an empty dict, or an instance with some value in each field
    record CellOf (r : Recorded) : Type 0 where
      cell : Cell
      has : CellHas bases classes k r cell

    cell_of : (r : Recorded) → CellOf r
    cell_of (a_list t) = record { cell = list_cell []; has = tt }
    cell_of (a_dict s t) = record { cell = dict_cell []; has = tt }
    cell_of (a_class c) =
        let n = fields_without classes c without in
        let s = slots_of (class_facts_at classes c).fields n (records_fields classes c records) in
        record { cell = instance_cell c s.slots; has = (refl, s.have) }

    made : Recorded → Cell
    made r = (cell_of r).cell

    -- a cell for each location
    furnished : Heap
    furnished = map made k

    furnished_well : IsWell bases classes k furnished
    unfolding furnished made
    furnished_well = record {
      long = sym (length-map k made);
      each = λ l r e. record {
        cell = made r;
        is = slice_get-map made k l ∙ ap (option_map made) e;
        has = (cell_of r).has;
      };
    }

-- a flow that is not static is needed
pub is_needed :
    (bases : Bases) → AreSmaller bases → (classes : List ClassFacts) → FieldsHaveNoNever classes → (s t : Tree)
    → IsNormal s
    → IsNormal t → HasNoNever s → ¬ (Static bases s t) → IsNeeded bases classes s t
is_needed bases ordered classes without s t ns nt n dynamic =
    let k = required s ++ required_by_classes classes in
    let first = records_first (required s) (required_by_classes classes) (records_itself k) in
    let rest = records_second (required s) (required_by_classes classes) (records_itself k) in
    let v = difference bases ordered k s t ns nt n first dynamic in
    record {
      typing = k;
      heap = furnished bases classes without k rest;
      value = v.value;
      well = furnished_well bases classes without k rest;
      of_first = v.of_first;
      not_second = v.not_second;
    }

-- a flow is needed with instances of the classes only, where the values refer to no others
pub is_needed_within :
    (bases : Bases) → AreSmaller bases → (classes : List ClassFacts) → FieldsHaveNoNever classes → (s t : Tree)
    → IsNormal s
    → IsNormal t → HasNoNever s → ¬ (Static bases s t)
    → AllBelow (length classes) (required s ++ required_by_classes classes) → IsNeededWithin bases classes s t
unfolding is_needed
is_needed_within bases ordered classes without s t ns nt n dynamic below = record {
  needed = is_needed bases ordered classes without s t ns nt n dynamic;
  only = λ l c e. below_at (length classes) (required s ++ required_by_classes classes) l c below e;
}
