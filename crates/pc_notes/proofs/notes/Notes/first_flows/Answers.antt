use Rattle.std.proofs.Common.{◌≡◌, ◌+◌, ◌++◌, ◌∷◌, [], List, take, arith, sym, ap, ◌∙◌}
use Rattle.std.proofs.lemmas.List.{take_more}
use Rattle.pc_notes.specs.declared.notes.NoteEntry.{NoteEntry}
use Rattle.pc_notes.proofs.FirstFlows.{first_of_more}
use Rattle.pc_notes.proofs.notes.Notes.first_flows.Goals as goal

pub loop-entry-preserved : goal.loop-entry-preserved
loop-entry-preserved c =
    let xs : List NoteEntry = c.deref-entry-items.result.now in
    let i = c.loop-entry.entry-index in
    let x : NoteEntry = c.entry-item.result in
    let more : take (i + 1) xs ≡ take i xs ++ x ∷ [] = take_more xs i x (omega arith)
    ∙ ap (λ (y : NoteEntry). take i xs ++ y ∷ []) (sym c.entry-item.is) in
    first_of_more c.args.code (take i xs) x c.keep_first.new.flows (take (i + 1) xs) more
    (c.in_ok-keep_first.ensures (take i xs) c.loop-entry.invariant)
