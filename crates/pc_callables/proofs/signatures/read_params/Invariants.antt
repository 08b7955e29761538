use Rattle.std.proofs.Common.{◌≡◌, ◌++◌, All, map, drop}
use Rattle.pc_tree.specs.Tree.{param_of}
use Rattle.pc_class.specs.Facts.{parameters_of}
use Rattle.pc_class.specs.Tables.{HasParameter, parameters_with}
use Rattle.pc_notes.specs.Notes.{notes_of}
use Rattle.pc_rules.specs.Computed.Signatures.{is_in_names, params_findings}
use Rattle.pc_rules.specs.Computed.TypingStates.{StateKept}
use Rattle.pc_annotations.specs.ModuleOutlines.{module_in}
use Rattle.pc_callables.proofs.signatures.read_params.Given as goal

abbrev pub invariant-loop-param : goal.invariant-loop-param
invariant-loop-param g l = record {
  given : All (HasParameter (g.S.TypeStore.has l.state.store.now)) l.all.items;
  are : parameters_with g.S.TypeStore.tree l.all.items ++ parameters_of (module_in l.outline)
      (map param_of (drop l.param-index l.params)) ≡ parameters_of (module_in l.outline) (map param_of l.params);
  found : (notes_of l.state.found.now) ++ params_findings (module_in l.outline) (is_in_names l.bound)
      (map param_of (drop l.param-index l.params)) ≡ (notes_of l.fn.state.found.now) ++ params_findings
      (module_in l.outline) (is_in_names l.fn.bound) (map param_of l.params);
  goes_on : StateKept g.S.TypeStore l.fn.state l.state;
}
