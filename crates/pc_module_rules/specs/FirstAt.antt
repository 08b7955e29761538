-- The first of the types and of the flows at a place, as a reader of notes finds it there. Own rule of the profile.
use Rattle.std.specs.Prelude.{List, [], ◌∷◌, Option, Some, None, if◌then◌else◌}
use Rattle.pc_source.specs.declared.place.Place.{Place}
use Rattle.pc_types.specs.Tree.{Tree}
use Rattle.pc_notes.specs.Notes.{is_same_place}
use Rattle.pc_module_rules.specs.FlowsOfExpressions.{CodedFlow}
use Rattle.pc_module_rules.specs.TypesOfExpressions.{TypeAt}

module _ {Thing Value : Type 0} (place : Thing → Place) (value : Thing → Value) where
  -- the value of the first of these things that is at a place, none if no thing is
  abbrev pub first_at : Place → List Thing → Option Value
  first_at p [] = None
  first_at p (x ∷ xs) = if is_same_place p (place x) then Some (value x) else first_at p xs

-- the first of these types at a place
abbrev pub first_type_at : Place → List TypeAt → Option Tree
first_type_at p types = first_at (λ (t : TypeAt). t.place) (λ (t : TypeAt). t.type) p types

-- the two types of the first of these flows at a place
abbrev pub first_flow_at : Place → List CodedFlow → Option (Tree × Tree)
first_flow_at p flows = first_at (λ (f : CodedFlow). f.place) (λ (f : CodedFlow). (f.from, f.into)) p flows
