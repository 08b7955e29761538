use Rattle.pc_flow.specs.Stored.{env_of}
use Rattle.pc_notes.specs.Notes.{notes_of}
use Rattle.pc_rules.proofs.Along.{pushed_by}
use Rattle.pc_walk.proofs.NotedBindings.{unkept, no_note, local_noted}
use Rattle.pc_walk.proofs.binding.note_binding.Goals as goal

pub returns-then-not-walk-clause-noted : goal.returns-then-not-walk-clause-noted
returns-then-not-walk-clause-noted g c =
    let S = g.S.TypeStore in
    let w = c.args.walk.now in
    unkept w.context.globals.now.keeps c.if-not-walk.true c.args.valued (env_of S.tree w.declared.now)
    (env_of S.tree c.args.env.now) c.args.meaning c.args.place (notes_of w.found.now)

pub returns-in-Local-clause-noted : goal.returns-in-Local-clause-noted
returns-in-Local-clause-noted g c =
    let S = g.S.TypeStore in
    let w = c.args.walk.now in
    pushed_by c.note_local.result _ _ _ (local_noted w.context.globals.now.keeps c.if-not-walk.false c.args.valued
    (env_of S.tree w.declared.now) (env_of S.tree c.args.env.now) c.args.meaning c.in-Local.local c.args.place
    (notes_of w.found.now) c.in-Local.is) c.note_local.ensures.noted

pub returns-in_default-clause-noted : goal.returns-in_default-clause-noted
returns-in_default-clause-noted g c =
    let S = g.S.TypeStore in
    let w = c.args.walk.now in
    no_note w.context.globals.now.keeps c.if-not-walk.false c.args.valued (env_of S.tree w.declared.now)
    (env_of S.tree c.args.env.now) c.args.meaning c.args.place (notes_of w.found.now)
    (λ x i. c.in_default.not-Local x i)
