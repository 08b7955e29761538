use Rattle.std.proofs.Common.{All}
use Rattle.pc_notes.specs.Notes.{notes_of}
use Rattle.pc_rules.specs.Computed.TypingStates.{StateKept}
use Rattle.pc_rules.specs.Computed.Standing.{label_with}
use Rattle.pc_rules.proofs.Flowing.{IsFound}
use Rattle.pc_rules.proofs.flows.find_flows.Given as goal

abbrev pub invariant-loop-ty : goal.invariant-loop-ty
invariant-loop-ty g l = record {
  goes_on : StateKept g.S.TypeStore l.fn.state l.state;
  label : g.S.TypeStore.has l.state.store.now l.label.ty;
  into : All (g.S.TypeStore.has l.state.store.now) l.into;
  found : IsFound g.S.TypeStore.tree l.parents l.place (label_with g.S.TypeStore.tree l.label) l.into
      (notes_of l.fn.state.found.now) l.ty-index l.codes.items (notes_of l.state.found.now);
}
