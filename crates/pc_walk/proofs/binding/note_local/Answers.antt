use Rattle.std.proofs.Common.{◌∙◌, ◌++◌, List, sym, ap}
use Rattle.std.specs.Option.{option_copied}
use Rattle.pc_flow.proofs.Assigned.{local_given}
use Rattle.pc_notes.specs.Notes.{Note, notes_of}
use Rattle.pc_rules.proofs.Along.{pushed_by}
use Rattle.pc_walk.proofs.NotedBindings.{asked_given, noted_types, noted_none}
use Rattle.pc_walk.proofs.binding.note_local.Goals as goal

pub put_name-requires-clause-declared : goal.put_name-requires-clause-declared
put_name-requires-clause-declared g c =
    let S = g.S.TypeStore in
    let w = c.args.walk.now in
    local_given (S.has w.store.now) w.declared.now c.args.local c.in-Some.ty.now c.requires.declared.given
    (sym c.declared.ensures ∙ ap option_copied c.in-Some.is)

pub put_name-requires-clause-current : goal.put_name-requires-clause-current
put_name-requires-clause-current g c =
    let S = g.S.TypeStore in
    asked_given (S.has c.args.walk.now.store.now) S.tree c.args.env.now c.args.local c.args.valued
    (option_copied c.current_if-now.result) c.requires.current.given c.current_if-now.ensures

pub returns-in-None-clause-noted : goal.returns-in-None-clause-noted
returns-in-None-clause-noted g c =
    let S = g.S.TypeStore in
    let w = c.args.walk.now in
    noted_none (S.has w.store.now) S.tree w.declared.now c.args.env.now c.args.local c.args.valued c.args.place
    (notes_of w.found.now) (sym c.declared.ensures ∙ ap option_copied c.in-None.is)

pub returns-in-Some-clause-noted : goal.returns-in-Some-clause-noted
returns-in-Some-clause-noted g c =
    let S = g.S.TypeStore in
    let w = c.args.walk.now in
    pushed_by c.put_name.result _ _ _ (ap (λ (l : List Note). notes_of w.found.now ++ l)
    (noted_types (S.has w.store.now) S.tree w.declared.now c.args.env.now c.args.local c.args.valued c.args.place
    c.in-Some.ty.now (option_copied c.current_if-now.result) (sym c.declared.ensures ∙ ap option_copied c.in-Some.is)
    c.current_if-now.ensures)) c.put_name.ensures
