use Rattle.std.proofs.Common.{List, true, ap, ◌∙◌}
use Rattle.pc_tree.specs.Tree.{module_of}
use Rattle.pc_notes.specs.declared.notes.NoteEntry.{NoteEntry}
use Rattle.pc_notes.specs.Notes.{notes_of}
use Rattle.pc_module_rules.specs.Computed.Modules.{module_notes}
use Rattle.pc_top.proofs.types.noted_with.Goals as goal

pub returns : goal.returns
returns g c = c.in_ok-check_module.ensures.found
    ∙ ap (λ (l : List NoteEntry). module_notes true (module_of c.args.module.now) (notes_of l)) c.new-noted.ensures
