-- Tests of values, and actions that keep the heap well typed.
-- Own rule of the profile.
use Rattle.std.specs.Prelude.{◌≡◌, ℕ, List, [], ◌∷◌, Some, slice_get}
use Rattle.pc_types.specs.Tree.{Tree, Int, Bool, Str}
use Rattle.pc_types.specs.Tree as tree
use Rattle.pc_class.specs.Facts.{ClassFacts}
use Rattle.pc_types.specs.Below.{Bases}
use Rattle.pc_value.specs.Value.{Value, none, location, Raised, Other, Outside, Cut}
use Rattle.pc_value.specs.Actions.{Outcome, gives, iterates, finished, stops, ActionResult}
use Rattle.pc_flow.specs.Narrowing.{Tested, for_none, for_type, for_list}
use Rattle.pc_sound.specs.Values.{HeapTyping, a_list, HasType, Extends, IsWell}

-- ---- tests

-- the value is None
abbrev pub IsNoneValue : Value → Type 0
IsNoneValue none = Unit {0}
IsNoneValue _ = ⊥

-- a location is recorded as a list, of any item type
pub record IsRecordedList (k : HeapTyping) (l : ℕ) : Type 0 where
  pub item : Tree
  pub is : slice_get k l ≡ Some (a_list item)

-- the value is a location that is recorded as a list
abbrev pub IsListValue : HeapTyping → Value → Type 0
IsListValue k (location l) = IsRecordedList k l
IsListValue k _ = ⊥

-- a value passes a test, by its type
abbrev pub Passes : Bases → HeapTyping → Tested → Value → Type 0
Passes bases k for_none v = IsNoneValue v
Passes bases k (for_type c) v = HasType bases k c v
Passes bases k for_list v = IsListValue k v

-- a type that `isinstance` tests for, other than a list
abbrev pub IsTestedType : Tree → Type 0
IsTestedType Int = Unit {0}
IsTestedType Bool = Unit {0}
IsTestedType Str = Unit {0}
IsTestedType (tree.Class c) = Unit {0}
IsTestedType _ = ⊥

-- a test can narrow a member; a test for a list cannot narrow Any or object, where the list may have any item type
abbrev pub CanFollow : Tested → Tree → Type 0
CanFollow for_none m = Unit {0}
CanFollow (for_type c) m = IsTestedType c
CanFollow for_list tree.Any = ⊥
CanFollow for_list tree.Object = ⊥
CanFollow for_list m = Unit {0}

-- a test can narrow each member of a type
abbrev pub CanFollowAll : Tested → List Tree → Type 0
CanFollowAll test [] = Unit {0}
CanFollowAll test (m ∷ ms) = CanFollow test m × CanFollowAll test ms

-- ---- actions

-- the outcome of an action that keeps the heap well typed: a value of the type, another exception, or cut off
abbrev pub OutcomeHas : Bases → HeapTyping → Tree → Outcome → Type 0
OutcomeHas bases k t (gives v) = HasType bases k t v
OutcomeHas bases k t (iterates over) = ⊥
OutcomeHas bases k t finished = ⊥
OutcomeHas bases k t (stops Other) = Unit {0}
OutcomeHas bases k t (stops Cut) = Unit {0}
OutcomeHas bases k t (stops Outside) = ⊥
OutcomeHas bases k t (stops (Raised e)) = ⊥

-- after an action, a heap typing that extends the one before types the heap, and the outcome is of the type
pub record ActsWell (bases : Bases) (classes : List ClassFacts) (k : HeapTyping) (t : Tree)
    (a : ActionResult) : Type 0 where
  pub typing : HeapTyping
  pub grows : Extends k typing
  pub well : IsWell bases classes typing a.heap
  pub has : OutcomeHas bases typing t a.outcome
