use Rattle.std.proofs.Common.{◌≡◌, ◌++◌, map, drop}
use Rattle.pc_tree.specs.Tree.{member_of}
use Rattle.pc_scope.specs.Bindings.{methods_in}
use Rattle.pc_class.specs.Facts.{base_facts, classes_of}
use Rattle.pc_notes.specs.Notes.{notes_of}
use Rattle.pc_rules.specs.Signatures.{signature_of}
use Rattle.pc_rules.specs.Computed.Signatures.{is_in_names, no_name, members_findings}
use Rattle.pc_rules.specs.Computed.TypingStates.{StateKept}
use Rattle.pc_annotations.specs.ModuleOutlines.{module_in}
use Rattle.pc_callables.specs.MembersHeld.{AreHeld}
use Rattle.pc_callables.specs.SignaturesRead.{AreGlobals, HasSignatures, signatures_with}
use Rattle.pc_callables.proofs.members.read_members.Given as goal

abbrev pub invariant-loop-member : goal.invariant-loop-member
invariant-loop-member g l = record {
  globals : AreGlobals g.S.TypeStore.has g.S.TypeStore.tree l.state.store.now l.globals;
  table : AreHeld (module_in l.globals.outline.now) l.class.number
      (base_facts (classes_of (module_in l.globals.outline.now)) l.class.base) (is_in_names l.bound)
      (map member_of (drop l.member-index l.members));
  held : HasSignatures (g.S.TypeStore.has l.state.store.now) l.methods.items;
  are : signatures_with g.S.TypeStore.tree l.methods.items ++ map (signature_of (module_in l.globals.outline.now))
      (methods_in (map member_of (drop l.member-index l.members)))
      ≡ map (signature_of (module_in l.globals.outline.now)) (methods_in (map member_of l.members));
  found : (notes_of l.state.found.now) ++ members_findings (module_in l.globals.outline.now)
      (base_facts (classes_of (module_in l.globals.outline.now)) l.class.base) (is_in_names l.bound)
      (map member_of (drop l.member-index l.members)) ≡ (notes_of l.fn.state.found.now) ++ members_findings
      (module_in l.globals.outline.now) (base_facts (classes_of (module_in l.globals.outline.now)) l.class.base) no_name
      (map member_of l.members);
  goes_on : StateKept g.S.TypeStore l.fn.state l.state;
}
