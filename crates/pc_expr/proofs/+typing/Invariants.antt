use Rattle.std.proofs.Common.{◌≡◌, ◌++◌, drop, map, All, []}
use Rattle.std.specs.Prelude.{◌||◌, vec_len}
use Rattle.pc_tree.specs.Lists.{exprs_of_list, entries_of_list, keywords_of_list}
use Rattle.pc_notes.specs.Notes.{notes_of}
use Rattle.pc_rules.specs.Calls.{positional_seat, named_seat}
use Rattle.pc_rules.specs.Computed.Standing.{standing_of, types_in, items_find, keys_in, value_types_in, entries_find}
use Rattle.pc_rules.specs.Computed.Standing.{HasGivenAll, keywords_find}
use Rattle.pc_calls.specs.JudgedCalls.{offer_called, HasCallOffer, names_in}
use Rattle.pc_rules.specs.Computed.TypingStates.{StateKept}
use Rattle.pc_expr.specs.Typing.{second_is_early}
use Rattle.pc_expr.specs.Internal.Seats.{seats_of, seat_with, HasSeats, HasEntrySeats}
use Rattle.pc_expr.proofs.Steps.{seats_from, types_from, finds_from, early_from}
use Rattle.pc_expr.proofs.EntrySteps.{keys_from, values_from, entries_from}
use Rattle.pc_expr.proofs.+typing.Given as goal

abbrev pub invariant-displays::type_items-loop-item : goal.invariant-displays::type_items-loop-item
invariant-displays::type_items-loop-item g l = record {
  count : vec_len l.types ≡ l.item-index;
  given : HasGivenAll (g.S.TypeStore.has l.state.store.now) g.S.TypeStore.tree l.context l.env;
  seats : HasSeats (g.S.TypeStore.has l.state.store.now) l.seats;
  held : All (g.S.TypeStore.has l.state.store.now) l.types.items;
  types : map g.S.TypeStore.tree l.types.items ++ types_from (standing_of g.S.TypeStore.tree l.context l.env)
      (seats_of g.S.TypeStore.tree l.seats) l.items l.item-index
      ≡ types_in (standing_of g.S.TypeStore.tree l.context l.env) (seats_of g.S.TypeStore.tree l.seats)
      (exprs_of_list l.items);
  found : (notes_of l.state.found.now) ++ finds_from (standing_of g.S.TypeStore.tree l.context l.env)
      (seats_of g.S.TypeStore.tree l.seats) l.items l.item-index ≡ (notes_of l.fn.state.found.now) ++ items_find
      (standing_of g.S.TypeStore.tree l.context l.env) (seats_of g.S.TypeStore.tree l.seats) (exprs_of_list l.items);
  goes_on : StateKept g.S.TypeStore l.fn.state l.state;
}

abbrev pub invariant-displays::type_entries-loop-entry : goal.invariant-displays::type_entries-loop-entry
invariant-displays::type_entries-loop-entry g l = record {
  given : HasGivenAll (g.S.TypeStore.has l.state.store.now) g.S.TypeStore.tree l.context l.env;
  seats : HasEntrySeats (g.S.TypeStore.has l.state.store.now) l.seats;
  held_keys : All (g.S.TypeStore.has l.state.store.now) l.keys.items;
  held_values : All (g.S.TypeStore.has l.state.store.now) l.values.items;
  keys : map g.S.TypeStore.tree l.keys.items ++ keys_from (standing_of g.S.TypeStore.tree l.context l.env)
      (seat_with g.S.TypeStore.tree l.seats.key) (seat_with g.S.TypeStore.tree l.seats.value) l.entries l.entry-index
      ≡ keys_in (standing_of g.S.TypeStore.tree l.context l.env) (seat_with g.S.TypeStore.tree l.seats.key)
      (seat_with g.S.TypeStore.tree l.seats.value) (entries_of_list l.entries);
  values : map g.S.TypeStore.tree l.values.items ++ values_from (standing_of g.S.TypeStore.tree l.context l.env)
      (seat_with g.S.TypeStore.tree l.seats.key) (seat_with g.S.TypeStore.tree l.seats.value) l.entries l.entry-index
      ≡ value_types_in (standing_of g.S.TypeStore.tree l.context l.env) (seat_with g.S.TypeStore.tree l.seats.key)
      (seat_with g.S.TypeStore.tree l.seats.value) (entries_of_list l.entries);
  found : (notes_of l.state.found.now) ++ entries_from (standing_of g.S.TypeStore.tree l.context l.env)
      (seat_with g.S.TypeStore.tree l.seats.key) (seat_with g.S.TypeStore.tree l.seats.value) l.entries l.entry-index
      ≡ (notes_of l.fn.state.found.now) ++ entries_find (standing_of g.S.TypeStore.tree l.context l.env)
      (seat_with g.S.TypeStore.tree l.seats.key) (seat_with g.S.TypeStore.tree l.seats.value)
      (entries_of_list l.entries);
  goes_on : StateKept g.S.TypeStore l.fn.state l.state;
}

abbrev pub invariant-calls::type_arguments-loop-argument : goal.invariant-calls::type_arguments-loop-argument
invariant-calls::type_arguments-loop-argument g l = record {
  count : vec_len l.types ≡ l.argument-index;
  given : HasGivenAll (g.S.TypeStore.has l.state.store.now) g.S.TypeStore.tree l.context l.env;
  offers : All (HasCallOffer (g.S.TypeStore.has l.state.store.now)) l.offers;
  held : All (g.S.TypeStore.has l.state.store.now) l.types.items;
  types : map g.S.TypeStore.tree l.types.items ++ types_from (standing_of g.S.TypeStore.tree l.context l.env)
      (positional_seat (map (offer_called g.S.TypeStore.tree) l.offers)) l.arguments l.argument-index
      ≡ types_in (standing_of g.S.TypeStore.tree l.context l.env)
      (positional_seat (map (offer_called g.S.TypeStore.tree) l.offers)) (exprs_of_list l.arguments);
  early : (l.early || early_from l.argument-index (standing_of g.S.TypeStore.tree l.context l.env)
      (seats_from l.argument-index (positional_seat (map (offer_called g.S.TypeStore.tree) l.offers)))
      (exprs_of_list (drop l.argument-index l.arguments))) ≡ second_is_early (standing_of g.S.TypeStore.tree l.context l.env)
      (positional_seat (map (offer_called g.S.TypeStore.tree) l.offers)) (exprs_of_list l.arguments);
  found : (notes_of l.state.found.now) ++ finds_from (standing_of g.S.TypeStore.tree l.context l.env)
      (positional_seat (map (offer_called g.S.TypeStore.tree) l.offers)) l.arguments l.argument-index
      ≡ (notes_of l.fn.state.found.now) ++ items_find (standing_of g.S.TypeStore.tree l.context l.env)
      (positional_seat (map (offer_called g.S.TypeStore.tree) l.offers)) (exprs_of_list l.arguments);
  goes_on : StateKept g.S.TypeStore l.fn.state l.state;
}

abbrev pub invariant-calls::type_keywords-loop-argument : goal.invariant-calls::type_keywords-loop-argument
invariant-calls::type_keywords-loop-argument g l = record {
  given : HasGivenAll (g.S.TypeStore.has l.state.store.now) g.S.TypeStore.tree l.context l.env;
  offers : All (HasCallOffer (g.S.TypeStore.has l.state.store.now)) l.offers;
  found : (notes_of l.state.found.now) ++ keywords_find (standing_of g.S.TypeStore.tree l.context l.env)
      (named_seat (map (offer_called g.S.TypeStore.tree) l.offers)) (names_in l.before)
      (keywords_of_list (drop l.argument-index l.by_name)) ≡ (notes_of l.fn.state.found.now) ++ keywords_find
      (standing_of g.S.TypeStore.tree l.context l.env) (named_seat (map (offer_called g.S.TypeStore.tree) l.offers)) []
      (keywords_of_list l.by_name);
  goes_on : StateKept g.S.TypeStore l.fn.state l.state;
}
