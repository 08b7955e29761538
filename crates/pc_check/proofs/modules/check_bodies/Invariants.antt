use Rattle.std.proofs.Common.{◌≡◌, ◌≤◌, map, drop}
use Rattle.pc_tree.specs.Tree.{item_of}
use Rattle.pc_scope.specs.Bindings.{classes_in, functions_in}
use Rattle.pc_notes.specs.Notes.{notes_of}
use Rattle.pc_rules.specs.Computed.TypingStates.{StateKept}
use Rattle.pc_rules.specs.Computed.Signatures.{constants_of}
use Rattle.pc_check.specs.Internal.ModuleWalk.{module_in, IsModuleBodies}
use Rattle.pc_module_rules.specs.Computed.Modules.{bodies_find}
use Rattle.pc_check.proofs.CheckedModules.{StandsFrom}
use Rattle.pc_check.proofs.modules.check_bodies.Given as goal

abbrev pub invariant-loop-item : goal.invariant-loop-item
invariant-loop-item g l = record {
  bodies : IsModuleBodies (g.S.TypeStore.has l.state.store.now) g.S.TypeStore.tree l.bodies;
  classes_counted : l.classes ≤ l.item-index;
  functions_counted : l.functions ≤ l.item-index;
  classes_stand : StandsFrom (classes_in (module_in l.bodies).items) l.classes
      (classes_in (map item_of (drop l.item-index l.items)));
  functions_stand : StandsFrom (functions_in (module_in l.bodies).items) l.functions
      (functions_in (map item_of (drop l.item-index l.items)));
  found : bodies_find l.bodies.globals.now.keeps (module_in l.bodies) (constants_of (module_in l.bodies)) l.classes
      l.functions
      (map item_of (drop l.item-index l.items)) (notes_of l.state.found.now)
      ≡ bodies_find l.bodies.globals.now.keeps (module_in l.bodies)
      (constants_of (module_in l.bodies)) 0 0 (map item_of l.items) (notes_of l.fn.state.found.now);
  goes_on : StateKept g.S.TypeStore l.fn.state l.state;
}
