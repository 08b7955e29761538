use Rattle.std.proofs.Common.{subst}
use Rattle.pc_notes.specs.Notes.{notes_of}
use Rattle.pc_notes.specs.Texts.{AreFlowTexts}
use Rattle.pc_notes.proofs.notes.Notes.texts.Goals as goal

pub returns : goal.returns
returns c = subst (λ m. AreFlowTexts m c.args.code (notes_of c.args.self.now) c.in_ok-texts_of.field-0.items)
    c.in_ok-names.ensures (c.in_ok-texts_of.ensures c.args.code (notes_of c.args.self.now) c.in_ok-flows.ensures)
