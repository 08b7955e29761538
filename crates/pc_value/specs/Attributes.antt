-- The fields of instances.
-- Language Reference 6.3.1 "Attribute references", 7.2 "Assignment statements".
use Rattle.std.specs.Prelude.{ℕ, Bool, true, false, List, [], ◌∷◌, if◌then◌else◌, Option, Some, None}
use Rattle.pc_value.specs.Value.{Value, Slot, instance_cell, Heap, AttributeError, Outside, Seen, a_none, an_instance}
use Rattle.pc_value.specs.Actions.{Outcome, gives, stops, raises, ActionResult, keeps}
use Rattle.pc_value.specs.Texts.{same_text}
use Rattle.pc_value.specs.Containers.{with_cell}

-- the value of a field
abbrev pub field_value : List ℕ → List Slot → Option Value
field_value name [] = None
field_value name (s ∷ rest) = if same_text s.name name then Some s.value else field_value name rest

-- the fields after one of them is set
abbrev pub with_field : List ℕ → Value → List Slot → List Slot
with_field name v [] = []
with_field name v (s ∷ rest) = if same_text s.name name then record { name = s.name; value = v } ∷ rest
    else s ∷ with_field name v rest

-- the value of a field; without one, a method's name is out of the profile, and any other name is AttributeError
abbrev pub field_outcome : Option Value → Bool → Outcome
field_outcome (Some v) is_method = gives v
field_outcome None true = stops Outside
field_outcome None false = raises AttributeError

-- `e.f`: an instance has its fields, None has no attribute, other kinds are out of the profile
abbrev pub attribute_outcome : Seen → List ℕ → Bool → Outcome
attribute_outcome (an_instance l class fields) name is_method = field_outcome (field_value name fields) is_method
attribute_outcome a_none name is_method = raises AttributeError
attribute_outcome v name is_method = stops Outside

-- the store of a field, if the instance has it; a name that is no field is out of the profile
abbrev pub store_field : Heap → ℕ → ℕ → List Slot → List ℕ → Value → Option Value → ActionResult
store_field heap l class fields name v (Some old) = with_cell heap l (instance_cell class (with_field name v fields))
store_field heap l class fields name v None = keeps heap (stops Outside)

-- `e.f = v`: sets a field of an instance; another name on an instance is out of the profile, other kinds are
-- AttributeError
abbrev pub store_attribute_outcome : Heap → Seen → List ℕ → Value → ActionResult
store_attribute_outcome heap (an_instance l class fields) name v =
    store_field heap l class fields name v (field_value name fields)
store_attribute_outcome heap o name v = keeps heap (raises AttributeError)
