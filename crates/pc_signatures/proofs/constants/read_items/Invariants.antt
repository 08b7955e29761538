use Rattle.std.proofs.Common.{◌≡◌, ◌++◌, map, drop, length}
use Rattle.pc_tree.specs.Tree.{item_of}
use Rattle.pc_scope.specs.Bindings.{classes_in}
use Rattle.pc_class.proofs.ItemsBuilt.{AreAhead}
use Rattle.pc_notes.specs.Notes.{notes_of}
use Rattle.pc_rules.specs.Computed.Signatures.{nothing_reached, signatures_of_methods, behind_all, items_findings}
use Rattle.pc_rules.specs.Computed.TypingStates.{StateKept}
use Rattle.pc_annotations.specs.ModuleOutlines.{module_in}
use Rattle.pc_callables.specs.SignaturesRead.{AreGlobals}
use Rattle.pc_signatures.specs.Internal.ItemsRead.{HasReached, methods_with, reached_with}
use Rattle.pc_signatures.proofs.constants.read_items.Given as goal

abbrev pub invariant-loop-item : goal.invariant-loop-item
invariant-loop-item g l = record {
  globals : AreGlobals g.S.TypeStore.has g.S.TypeStore.tree l.state.store.now l.globals;
  ahead : AreAhead (classes_in (map item_of l.items)) (length l.read.methods.items)
      (classes_in (map item_of (drop l.item-index l.items)));
  held : HasReached (g.S.TypeStore.has l.state.store.now) l.read;
  reached : behind_all (module_in l.globals.outline.now) (reached_with g.S.TypeStore.tree l.read)
      (map item_of (drop l.item-index l.items)) ≡ behind_all (module_in l.globals.outline.now) nothing_reached
      (map item_of l.items);
  methods : map (methods_with g.S.TypeStore.tree) l.read.methods.items ++ signatures_of_methods
      (module_in l.globals.outline.now) (classes_in (map item_of (drop l.item-index l.items))) ≡ signatures_of_methods
      (module_in l.globals.outline.now) (classes_in (map item_of l.items));
  found : (notes_of l.state.found.now) ++ items_findings (module_in l.globals.outline.now) l.globals.keeps
      (reached_with g.S.TypeStore.tree l.read) (map item_of (drop l.item-index l.items))
      ≡ (notes_of l.fn.state.found.now) ++ items_findings (module_in l.globals.outline.now) l.globals.keeps
      nothing_reached
      (map item_of l.items);
  goes_on : StateKept g.S.TypeStore l.fn.state l.state;
}
