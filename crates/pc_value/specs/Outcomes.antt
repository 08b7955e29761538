-- The outcome of each action and the heap after it, given the free answers.
use Rattle.std.specs.Prelude.{Bool, false, not}
use Rattle.pc_value.specs.Value.{whole, boolean, Heap, list_cell, instance_cell, seen, is_true}
use Rattle.pc_value.specs.Actions.{Action, number, binary, compare, negative, negation, truth_of, new_list, new_dict}
use Rattle.pc_value.specs.Actions.{new_instance, read_item, store_item, read_attribute, store_attribute, append, pop}
use Rattle.pc_value.specs.Actions.{get, length_of, text_of, iterate, iterate_range, turn, gives, ActionResult, keeps}
use Rattle.pc_value.specs.Actions.{Free}
use Rattle.pc_value.specs.Operators.{binary_outcome, compare_outcome, negative_of, text_outcome, is_comparison_free}
use Rattle.pc_value.specs.Operators.{is_text_free}
use Rattle.pc_value.specs.Containers.{item_outcome, store_outcome, with_new_cell, dict_display, first_key_fault}
use Rattle.pc_value.specs.Containers.{append_outcome, pop_outcome, get_outcome, length_outcome}
use Rattle.pc_value.specs.Attributes.{attribute_outcome, store_attribute_outcome}
use Rattle.pc_value.specs.Iteration.{iterate_outcome, range_outcome, turn_outcome}

-- the outcome of an action on a heap and the heap after it, given the free answers
abbrev pub action_result : Free → Action → Heap → ActionResult
action_result free (number n) heap = keeps heap (gives (whole n))
action_result free (binary operator v w) heap = keeps heap (binary_outcome operator (seen heap v) (seen heap w))
action_result free (compare operator v w) heap = keeps heap (compare_outcome free operator (seen heap v) (seen heap w))
action_result free (negative v) heap = keeps heap (negative_of (seen heap v))
action_result free (negation v) heap = keeps heap (gives (boolean (not (is_true heap v))))
action_result free (truth_of v) heap = keeps heap (gives (boolean (is_true heap v)))
action_result free (new_list items) heap = with_new_cell heap (list_cell items)
action_result free (new_dict entries) heap = dict_display heap entries (first_key_fault heap entries)
action_result free (new_instance class fields) heap = with_new_cell heap (instance_cell class fields)
action_result free (read_item object key) heap = keeps heap (item_outcome (seen heap object) (seen heap key))
action_result free (store_item object key v) heap = store_outcome heap (seen heap object) (seen heap key) key v
action_result free (read_attribute object name is_method) heap =
    keeps heap (attribute_outcome (seen heap object) name is_method)
action_result free (store_attribute object name v) heap = store_attribute_outcome heap (seen heap object) name v
action_result free (append object v) heap = append_outcome heap (seen heap object) v
action_result free (pop object) heap = pop_outcome heap (seen heap object)
action_result free (get object key) heap = keeps heap (get_outcome (seen heap object) (seen heap key))
action_result free (length_of v) heap = keeps heap (length_outcome (seen heap v))
action_result free (text_of v) heap = keeps heap (text_outcome free v)
action_result free (iterate v) heap = keeps heap (iterate_outcome (seen heap v))
action_result free (iterate_range v) heap = keeps heap (range_outcome (seen heap v))
action_result free (turn over i) heap = keeps heap (turn_outcome heap over i)

-- whether an action's answer is free
abbrev pub takes_choice : Heap → Action → Bool
takes_choice heap (compare operator v w) = is_comparison_free operator (seen heap v) (seen heap w)
takes_choice heap (text_of v) = is_text_free v
takes_choice heap action = false
