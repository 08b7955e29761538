use Rattle.std.proofs.Common.{◌≡◌, ◌++◌, All, map, drop, length}
use Rattle.pc_tree.specs.Tree.{param_of}
use Rattle.pc_class.specs.Tables.{HasParameter}
use Rattle.pc_notes.specs.Notes.{notes_of}
use Rattle.pc_rules.specs.Computed.Signatures.{is_in_names, params_defaults}
use Rattle.pc_rules.specs.Computed.TypingStates.{StateKept}
use Rattle.pc_annotations.specs.ModuleOutlines.{module_in}
use Rattle.pc_callables.proofs.defaults.find_defaults.Given as goal

abbrev pub invariant-loop-number : goal.invariant-loop-number
invariant-loop-number g l = record {
  many : length l.typed ≡ length l.params;
  given : All (HasParameter (g.S.TypeStore.has l.state.store.now)) l.typed;
  found : (notes_of l.state.found.now) ++ params_defaults (module_in l.outline) (is_in_names l.bound)
      (map param_of (drop l.number l.params)) ≡ (notes_of l.fn.state.found.now) ++ params_defaults
      (module_in l.outline) (is_in_names l.fn.bound) (map param_of l.params);
  goes_on : StateKept g.S.TypeStore l.fn.state l.state;
}
