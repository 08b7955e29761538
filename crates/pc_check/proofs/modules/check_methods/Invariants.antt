use Rattle.std.proofs.Common.{◌≡◌, ◌≤◌, map, drop}
use Rattle.pc_tree.specs.Tree.{class_of, member_of}
use Rattle.pc_scope.specs.Bindings.{methods_in}
use Rattle.pc_notes.specs.Notes.{notes_of}
use Rattle.pc_rules.specs.Computed.TypingStates.{StateKept}
use Rattle.pc_rules.specs.Computed.Signatures.{constants_of}
use Rattle.pc_check.specs.Internal.ModuleWalk.{module_in, IsModuleBodies}
use Rattle.pc_module_rules.specs.Computed.Modules.{methods_find}
use Rattle.pc_check.proofs.CheckedModules.{StandsFrom}
use Rattle.pc_check.proofs.modules.check_methods.Given as goal

abbrev pub invariant-loop-member : goal.invariant-loop-member
invariant-loop-member g l = record {
  bodies : IsModuleBodies (g.S.TypeStore.has l.state.store.now) g.S.TypeStore.tree l.bodies;
  counted : l.methods ≤ l.member-index;
  stand : StandsFrom (methods_in (class_of l.def).members) l.methods
      (methods_in (map member_of (drop l.member-index l.members)));
  found : methods_find l.bodies.globals.now.keeps (module_in l.bodies) (constants_of (module_in l.bodies)) l.class
      l.methods
      (map member_of (drop l.member-index l.members)) (notes_of l.state.found.now)
      ≡ methods_find l.bodies.globals.now.keeps (module_in l.bodies)
      (constants_of (module_in l.bodies)) l.class 0 (map member_of l.members) (notes_of l.fn.state.found.now);
  goes_on : StateKept g.S.TypeStore l.fn.state l.state;
}
