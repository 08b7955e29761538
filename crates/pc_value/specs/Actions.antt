-- The actions on values, each with its operands, and the outcome of an action.
-- Language Reference 6 "Expressions", 7.2 "Assignment statements", 8.3 "The for statement".
use Rattle.std.specs.Prelude.{ℕ, Bool, List, ℤ}
use Rattle.pc_tree.specs.declared.tree.BinaryOperator.{BinaryOperator}
use Rattle.pc_tree.specs.declared.tree.ComparisonOperator.{ComparisonOperator}
use Rattle.pc_value.specs.Value.{Value, Values, DictEntry, Slot, Heap, Exception, Stop, Raised}

-- the source of a `for`'s items: the current items of a list, the keys of a dict that had `size` entries, the
-- characters of a text, the items of a tuple, or the whole numbers from 0 on below a limit
pub data Iteration : Type 0 where
  over_list : (place : ℕ) → Iteration
  over_dict : (place size : ℕ) → Iteration
  over_text : (characters : List ℕ) → Iteration
  over_tuple : (items : Values) → Iteration
  over_range : (limit : ℤ) → Iteration

-- an action on values, with its operands
pub data Action : Type 0 where
  -- a whole number as written
  number : (n : ℤ) → Action
  -- `+`, `-`, `*`, `//`, `%`
  binary : (operator : BinaryOperator) (left right : Value) → Action
  -- `==`, `!=`, `<`, `<=`, `>`, `>=`, `in`, `not in`
  compare : (operator : ComparisonOperator) (left right : Value) → Action
  -- `-e`
  negative : (operand : Value) → Action
  -- `not e`
  negation : (operand : Value) → Action
  -- the truth of a condition
  truth_of : (operand : Value) → Action
  -- `[v, ..]`
  new_list : (items : List Value) → Action
  -- `{k: v, ..}`
  new_dict : (entries : List DictEntry) → Action
  -- an instance of a class, with its fields
  new_instance : (class : ℕ) (fields : List Slot) → Action
  -- `e[i]`
  read_item : (object key : Value) → Action
  -- `e[i] = v`
  store_item : (object key value : Value) → Action
  -- `e.f`, and whether the class of e has a method of that name
  read_attribute : (object : Value) (name : List ℕ) (is_method : Bool) → Action
  -- `e.f = v`
  store_attribute : (object : Value) (name : List ℕ) (value : Value) → Action
  -- `e.append(v)`, `e.pop()`, `e.get(k)`
  append : (object value : Value) → Action
  pop : (object : Value) → Action
  get : (object key : Value) → Action
  -- `len(e)`, `str(e)`
  length_of : (operand : Value) → Action
  text_of : (operand : Value) → Action
  -- the start of a `for`, over a value and over `range(e)`
  iterate : (iterable : Value) → Action
  iterate_range : (limit : Value) → Action
  -- a turn of a `for`, counted from 0
  turn : (over : Iteration) (index : ℕ) → Action

-- the outcome of an action: a value (None where it has no result of its own), the source of a `for`'s items, the end
-- of a `for`, or the end of the run
pub data Outcome : Type 0 where
  gives : (value : Value) → Outcome
  iterates : (over : Iteration) → Outcome
  finished : Outcome
  stops : (stop : Stop) → Outcome

-- an action's outcome, and the heap after it
pub record ActionResult : Type 0 where
  pub outcome : Outcome
  pub heap : Heap

-- free answers, which the model leaves open: a truth value and a text
pub record Free : Type 0 where
  pub truth : Bool
  pub characters : List ℕ

-- the outcome with the heap unchanged
abbrev pub keeps : Heap → Outcome → ActionResult
keeps heap outcome = record { outcome = outcome; heap = heap }

-- the outcome that ends the run in one of the four exceptions
abbrev pub raises : Exception → Outcome
raises exception = stops (Raised exception)
