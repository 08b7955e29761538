use Rattle.std.proofs.Common.{◌++◌, ◌∷◌, [], ap, ◌∙◌}
use Rattle.std.specs.Prelude.{Option}
use Rattle.pc_tree.specs.declared.code.Code.{Code}
use Rattle.pc_types.specs.Computed.{static_test, assignable_test}
use Rattle.pc_notes.specs.Notes.{notes_of}
use Rattle.pc_rules.specs.Context.{is_early}
use Rattle.pc_rules.specs.Computed.Expressions.{code_unless}
use Rattle.pc_rules.specs.Computed.Findings.{flow_at}
use Rattle.pc_rules.specs.Computed.Standing.{label_with}
use Rattle.pc_rules.proofs.Flowing.{one_flow, flows_alike}
use Rattle.pc_callables.proofs.defaults.find_into.Goals as goal

pub returns-clause-found : goal.returns-clause-found
returns-clause-found g c = λ m e.
    let tree = g.S.TypeStore.tree in
    let bases = c.args.parents.now in
    let old = notes_of c.args.state.now.found.now in
    let p = c.args.place in
    let from = tree c.args.label.now.ty in
    let into = tree c.args.into.now in
    let code : Option Code = code_unless (static_test bases) (assignable_test bases)
    (is_early c.args.label.now.codes.items) from into in
    c.in_ok-find_flow.ensures.found
    ∙ ap (λ (o : Option Code). old ++ flow_at p from into o) c.in_ok-find_flow.ensures.value
    ∙ ap (λ l. old ++ l) (one_flow p from into code ∙ flows_alike bases p (label_with tree c.args.label.now) m
    (into ∷ []) e)
