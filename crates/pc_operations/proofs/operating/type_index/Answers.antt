use Rattle.std.proofs.Common.{◌++◌, ap, ◌∙◌}
use Rattle.pc_tree.specs.Tree.{expr_of}
use Rattle.pc_tree.specs.Depth.{place_of}
use Rattle.pc_notes.specs.Notes.{notes_of}
use Rattle.pc_rules.specs.Operations.{offers_label, operand_types}
use Rattle.pc_rules.specs.Lawful.{int_literal}
use Rattle.pc_rules.specs.Computed.Expressions.{flows_of}
use Rattle.pc_rules.specs.Computed.Findings.{flows_at}
use Rattle.pc_rules.specs.Computed.ModuleParents.{class_parents}
use Rattle.pc_operations.proofs.Indexing.{members_served}
use Rattle.pc_rules.proofs.Along.{labelled_by, on_ok}
use Rattle.pc_operations.proofs.operating.type_index.Goals as goal

pub returns-clause-value : goal.returns-clause-value
returns-clause-value g c =
    let served = c.in_ok-offers.ensures.value ∙ members_served (class_parents c.args.context.now.globals.now)
    c.literal_index.result (int_literal (expr_of c.args.key.now)) c.literal_index.ensures
    (g.S.TypeStore.tree c.args.object.now) (g.met.S.TypeStore.small _ _ c.requires.object) in
    labelled_by g.S.TypeStore.has g.S.TypeStore.tree _ c.offers_label.result _ _
    (ap (offers_label (class_parents c.args.context.now.globals.now)) served)
    (rw c.deref-3.ensures.value at c.offers_label.ensures.value)

pub returns-clause-found : goal.returns-clause-found
returns-clause-found g c = λ m is.
    let served = c.in_ok-offers.ensures.value ∙ members_served (class_parents c.args.context.now.globals.now)
    c.literal_index.result (int_literal (expr_of c.args.key.now)) c.literal_index.ensures
    (g.S.TypeStore.tree c.args.object.now) (g.met.S.TypeStore.small _ _ c.requires.object) in
    let types = (rw c.deref.ensures.value at c.in_ok-types.ensures.value) ∙ ap operand_types served in
    on_ok c.offers_label.result (rw (c.place.ensures, c.deref-2.ensures.value) at
    (c.in_ok-find_flows.ensures.found m is) ∙ ap (λ ts. (notes_of c.args.state.now.found.now)
    ++ flows_at (place_of (expr_of c.args.key.now)) (flows_of (class_parents c.args.context.now.globals.now)
    m ts)) types)
