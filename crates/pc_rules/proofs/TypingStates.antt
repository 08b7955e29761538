-- Steps of a check, one after another.
use Rattle.std.proofs.Common.{◌≡◌, ◌∙◌, ◌++◌, List, sym, append_assoc}
use Rattle.pc_types.specs.declared.store.TypeStore.{Ghosts as StoreOf}
use Rattle.pc_notes.specs.Notes.{Note}
use Rattle.pc_rules.specs.declared.typing_state.TypingState.{TypingState}
use Rattle.pc_rules.specs.Computed.TypingStates.{StateKept}

-- two steps
pub goes_further : {Store Ty : Type 0} {S : StoreOf Store Ty} {a b c : TypingState Store Ty} → StateKept S a b → StateKept S b c
    → StateKept S a c
goes_further f g = record {
  kept = λ ty h. g.kept ty (f.kept ty h);
  same_store = g.same_store ∙ f.same_store;
  same_notes = g.same_notes ∙ f.same_notes;
}

-- notes appended for two parts together were appended for one after the other
pub in_turn : (old first second new : List Note) → new ≡ old ++ (first ++ second) → new ≡ (old ++ first) ++ second
in_turn old first second new e = e ∙ sym (append_assoc old first second)
