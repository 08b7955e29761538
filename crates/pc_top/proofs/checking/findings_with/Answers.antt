use Rattle.std.proofs.Common.{◌≡◌, List, ◌++◌, [], map, ap, ◌∙◌}
use Rattle.pc_tree.specs.declared.code.Code.TheVariants.{A1}
use Rattle.pc_tree.specs.declared.code.Finding.{Finding}
use Rattle.pc_tree.specs.Tree.{Module, module_of}
use Rattle.pc_class.specs.Annotated.{member_annotations}
use Rattle.pc_class.specs.Built.{class_findings}
use Rattle.pc_class.specs.OverrideFindings.{override_findings}
use Rattle.pc_overrides.proofs.ClassOverrides.{entries_keep}
use Rattle.pc_notes.specs.declared.notes.NoteEntry.{NoteEntry}
use Rattle.pc_notes.specs.Notes.{plain_note, notes_of, findings_of}
use Rattle.pc_module_rules.specs.Computed.Modules.{module_finds}
use Rattle.pc_top.proofs.BesideErrors.{beside_errors}
use Rattle.pc_top.proofs.ModuleFindings.{exactly, same_flows, told_flows}
use Rattle.pc_top.proofs.checking.findings_with.Goals as goal

-- the findings made with the class table: about classes, and in the annotations of their members
abbrev of_tables : Module → List Finding
of_tables m = class_findings m ++ member_annotations m

pub returns : goal.returns
returns g c =
    let m = module_of c.args.module.now in
    let of_scopes = c.in_ok-of_scopes.of_scopes.items in
    let noted : notes_of c.check_module.new.found ≡ module_finds m [] = c.in_ok-check_module.ensures.found
    ∙ ap (λ (l : List NoteEntry). module_finds m (notes_of l)) c.new-found.ensures in
    let classes : c.override_findings.new.found.items ≡ of_tables m ++ override_findings m =
    c.in_ok-override_findings.ensures.found ∙ ap (λ (l : List Finding). l ++ override_findings m)
    c.requires.of_classes in
    let listed = c.deref-2.ensures.value ∙ classes in
    let all : notes_of c.note_others.new.found ≡ (module_finds m [] ++ map plain_note of_scopes) ++ map plain_note
    (of_tables m ++ override_findings m) = c.in_ok-note_others.ensures
    ∙ (λ i. (noted i ++ map plain_note (c.deref.ensures.value i)) ++ map plain_note (listed i)) in
    let found = exactly m of_scopes (c.in_ok-of_scopes.ensures.found c.requires.scopes)
    (notes_of c.note_others.new.found) all in
    record {
      found = found;
      flows = told_flows m (notes_of c.note_others.new.found) (λ p. same_flows A1 p (notes_of c.note_others.new.found)
          (module_finds m []) of_scopes (of_tables m ++ override_findings m) all);
      sound_beside_errors = beside_errors m (findings_of (notes_of c.note_others.new.found)) found;
      kept = λ ty h. c.check_module.ensures.kept ty (c.override_findings.ensures.kept ty h);
    }

pub check_module-requires-clause-entries : goal.check_module-requires-clause-entries
check_module-requires-clause-entries g c =
    let has = g.S.TypeStore.has in
    entries_keep (has c.args.store.now) (has c.override_findings.new.store) c.args.classes.now
    c.in_ok-override_findings.ensures.kept c.requires.entries
