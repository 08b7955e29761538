use Rattle.std.proofs.Common.{◌∙◌, sym, ap}
use Rattle.pc_scope.specs.declared.resolution.NameMeaning.{NameMeaning}
use Rattle.pc_flow.specs.Stored.{env_of}
use Rattle.pc_notes.specs.Notes.{notes_of}
use Rattle.pc_rules.specs.Computed.ModuleParents.{class_parents}
use Rattle.pc_module_rules.specs.Computed.Statements.{enter_name}
use Rattle.pc_check.specs.Internal.Entry.{entered}
use Rattle.pc_check.proofs.Entered.{local_entered, none_copied}
use Rattle.pc_check.proofs.entering.enter_name.Goals as goal

pub returns-clause-bound : goal.returns-clause-bound
returns-clause-bound g c =
    let S = g.S.TypeStore in
    let tree = S.tree in
    let w = c.args.walk.now in
    let h = c.requires.stands in
    let x = c.in-Local.local in
    let found = notes_of w.found.now in
    let table = env_of tree w.declared.now in
    let env = env_of tree c.args.env.now in
    let none = sym c.declared.ensures ∙ none_copied c.declared.result (sym c.is_some.ensures ∙ c.if-is_some.false) in
    let entry = local_entered S.has tree (class_parents w.context.globals.now) w.store.now w.declared.now
    c.args.env.now x c.args.ty.now
    c.in_ok-first.first c.in_ok-current.current h.declared h.current c.requires.ty c.in_ok-first.ensures
    c.in_ok-current.ensures none in
    let is = entry.is ∙ ap (λ (r : NameMeaning). enter_name table env r (tree c.args.ty.now))
    (sym c.in-Local.is ∙ c.resolve.ensures) in
    rw (c.declare.ensures, c.in_ok-assign.ensures.assigned) (record {
      is = ap (λ e. entered e found) is;
      stands = record { context = h.context; declared = entry.declared_holds; current = entry.env_holds };
    })
