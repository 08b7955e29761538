use Rattle.std.proofs.Common.{◌≡◌, ◌∙◌, ◌++◌, List, Some, map, sym, ap, subst}
use Rattle.pc_annotations.specs.Listed.{ann_findings}
use Rattle.pc_annotations.proofs.Readings.{read_ann_well_formed}
use Rattle.pc_tree.specs.declared.code.Finding.{Finding}
use Rattle.pc_tree.specs.Tree.{name_of, ann_of, module_of}
use Rattle.pc_types.specs.WellFormed.{IsWellFormed}
use Rattle.pc_flow.specs.Stored.{env_of}
use Rattle.pc_notes.specs.Notes.{Note, notes_of, plain_note}
use Rattle.pc_rules.specs.Computed.ModuleParents.{class_parents}
use Rattle.pc_module_rules.specs.Computed.Statements.{bound_name}
use Rattle.pc_walk.specs.Walks.{body_context_in}
use Rattle.pc_walk.proofs.Bound.{bound_unless, bound_finds, first_unless, first_finds}
use Rattle.pc_walk.proofs.binding.annotated_type.Goals as goal

pub returns-then-is_bound-clause-typed : goal.returns-then-is_bound-clause-typed
returns-then-is_bound-clause-typed g c =
    let tree = g.S.TypeStore.tree in
    let w = c.args.walk.now in
    let context = body_context_in g.S.TypeStore w in
    let bound = bound_name context (env_of tree w.declared.now) c.args.meaning in
    (tt, sym (bound_unless bound _ (sym (c.is_bound.ensures context tree) ∙ c.if-is_bound.true)))

pub returns-then-is_bound-clause-pushed : goal.returns-then-is_bound-clause-pushed
returns-then-is_bound-clause-pushed g c =
    let tree = g.S.TypeStore.tree in
    let w = c.args.walk.now in
    let context = body_context_in g.S.TypeStore w in
    let bound = bound_name context (env_of tree w.declared.now) c.args.meaning in
    c.in_ok-put.ensures ∙ ap (λ (fs : List Note). notes_of w.found.now ++ fs)
    (sym (bound_finds context bound (name_of c.args.name.now) (ann_of c.args.annotation.now)
    (sym (c.is_bound.ensures context tree) ∙ c.if-is_bound.true)))

pub returns-clause-typed : goal.returns-clause-typed
returns-clause-typed g c =
    let tree = g.S.TypeStore.tree in
    let w = c.args.walk.now in
    let context = body_context_in g.S.TypeStore w in
    let bases = (class_parents w.context.globals.now) in
    let bound = bound_name context (env_of tree w.declared.now) c.args.meaning in
    let read = read_ann_well_formed (module_of w.context.globals.now.outline.now.tree.now) bases
    c.requires.context.smaller
    (ann_of c.args.annotation.now) in
    let t = c.in_ok-ty.ensures.typed in (
      record { given = t.0; well_formed = subst (IsWellFormed bases) (sym t.1) read },
      ap Some t.1 ∙ sym (first_unless bound _ (sym (c.is_bound.ensures context tree) ∙ c.if-is_bound.false)),
    )

pub returns-clause-pushed : goal.returns-clause-pushed
returns-clause-pushed g c =
    let tree = g.S.TypeStore.tree in
    let w = c.args.walk.now in
    let context = body_context_in g.S.TypeStore w in
    let annotation = ann_of c.args.annotation.now in
    let bound = bound_name context (env_of tree w.declared.now) c.args.meaning in
    let before = notes_of w.found.now in
    let inside = ann_findings (module_of w.context.globals.now.outline.now.tree.now)
    (class_parents w.context.globals.now) annotation in
    let listed : c.deref.result.now ≡ inside =
    c.deref.ensures.value ∙ c.in_ok-ty.ensures.pushed ∙ ap (λ (l : List Finding). l ++ inside)
    c.new-in_it.ensures.items in
    c.in_ok-put_all.ensures ∙ ap (λ (fs : List Finding). before ++ map plain_note fs) listed
    ∙ ap (λ (ns : List Note). before ++ ns) (sym (first_finds context bound (name_of c.args.name.now) annotation
    (sym (c.is_bound.ensures context tree) ∙ c.if-is_bound.false)))
