-- Iteration of a `for`, turn by turn.
-- Language Reference 8.3 "The for statement".
use Rattle.std.specs.Prelude.{ℕ, [], ◌∷◌, length, map, pos, nat_eq, if◌then◌else◌, Option, Some, None, slice_get}
use Rattle.pc_value.specs.Value.{Value, whole, string, list_of, DictEntry, Heap, TypeError, Other, Seen, a_number, a_text}
use Rattle.pc_value.specs.Value.{a_tuple, a_list, a_dict, seen_cell}
use Rattle.pc_value.specs.Actions.{Iteration, over_list, over_dict, over_text, over_tuple, over_range, Outcome, gives}
use Rattle.pc_value.specs.Actions.{iterates, finished, stops, raises}
use Rattle.pc_value.specs.Numbers.{number_below}

-- the source of items that a value gives a `for`
abbrev pub iterate_outcome : Seen → Outcome
iterate_outcome (a_list l items) = iterates (over_list l)
iterate_outcome (a_dict l entries) = iterates (over_dict l (length entries))
iterate_outcome (a_text cs) = iterates (over_text cs)
iterate_outcome (a_tuple items) = iterates (over_tuple items)
iterate_outcome v = raises TypeError

-- the source of items of `range(e)`
abbrev pub range_outcome : Seen → Outcome
range_outcome (a_number n) = iterates (over_range n)
range_outcome v = raises TypeError

-- an item, or the end
abbrev pub turn_item : Option Value → Outcome
turn_item None = finished
turn_item (Some v) = gives v

-- a character as a text of its own, or the end
abbrev pub turn_character : Option ℕ → Outcome
turn_character None = finished
turn_character (Some c) = gives (string (c ∷ []))

-- a turn over a list, whose current length counts
abbrev pub list_turn : Seen → ℕ → Outcome
list_turn (a_list l items) i = turn_item (slice_get items i)
list_turn v i = finished

-- a turn over the keys of a dict; a changed size is another exception
abbrev pub dict_turn : Seen → ℕ → ℕ → Outcome
dict_turn (a_dict l entries) size i = if nat_eq (length entries) size
    then turn_item (slice_get (map (λ (e : DictEntry). e.key) entries) i) else stops Other
dict_turn v size i = finished

-- a turn of a `for`, counted from 0
abbrev pub turn_outcome : Heap → Iteration → ℕ → Outcome
turn_outcome heap (over_list l) i = list_turn (seen_cell l (slice_get heap l)) i
turn_outcome heap (over_dict l size) i = dict_turn (seen_cell l (slice_get heap l)) size i
turn_outcome heap (over_text cs) i = turn_character (slice_get cs i)
turn_outcome heap (over_tuple items) i = turn_item (slice_get (list_of items) i)
turn_outcome heap (over_range n) i = if number_below (pos i) n then gives (whole (pos i)) else finished
