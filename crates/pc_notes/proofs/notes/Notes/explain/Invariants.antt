use Rattle.std.proofs.Common.{◌≡◌, drop}
use Rattle.pc_types.specs.Store.{KeepsTypes}
use Rattle.pc_notes.specs.Notes.{notes_of, flow_noted}
use Rattle.pc_notes.proofs.notes.Notes.explain.Given as goal

abbrev pub invariant-loop-entry : goal.invariant-loop-entry
invariant-loop-entry g l = record {
  same : flow_noted l.code l.place (notes_of l.fn.self)
      ≡ flow_noted l.code l.place (notes_of (drop l.entry-index l.entry-items));
  kept : KeepsTypes g.S.TypeStore.has l.fn.store l.store;
}
