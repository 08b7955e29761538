use Rattle.std.proofs.Common.{◌≡◌, ◌++◌, map, drop}
use Rattle.pc_tree.specs.Tree.{item_of}
use Rattle.pc_scope.specs.Bindings.{functions_in}
use Rattle.pc_notes.specs.Notes.{notes_of}
use Rattle.pc_rules.specs.Signatures.{signature_of}
use Rattle.pc_rules.specs.Computed.Signatures.{functions_findings}
use Rattle.pc_rules.specs.Computed.TypingStates.{StateKept}
use Rattle.pc_annotations.specs.ModuleOutlines.{module_in}
use Rattle.pc_callables.specs.SignaturesRead.{HasSignatures, signatures_with}
use Rattle.pc_callables.proofs.signatures.read_functions.Given as goal

abbrev pub invariant-loop-item : goal.invariant-loop-item
invariant-loop-item g l = record {
  given : HasSignatures (g.S.TypeStore.has l.state.store.now) l.functions.items;
  are : signatures_with g.S.TypeStore.tree l.functions.items ++ map (signature_of (module_in l.outline))
      (functions_in (map item_of (drop l.item-index l.items))) ≡ map (signature_of (module_in l.outline))
      (functions_in (map item_of l.items));
  found : (notes_of l.state.found.now) ++ functions_findings (module_in l.outline)
      (map item_of (drop l.item-index l.items)) ≡ (notes_of l.fn.state.found.now) ++ functions_findings
      (module_in l.outline) (map item_of l.items);
  goes_on : StateKept g.S.TypeStore l.fn.state l.state;
}
