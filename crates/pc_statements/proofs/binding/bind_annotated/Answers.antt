use Rattle.std.proofs.Common.{◌≡◌, ◌∙◌, Option, Some, None, refl, ap}
use Rattle.std.specs.Global.{Box}
use Rattle.std.specs.Prelude.{is_some, Bool as Test}
use Rattle.pc_tree.specs.Tree.{ann_of, name_of, option_expr_of}
use Rattle.pc_tree.specs.declared.tree.Expr.{Expr as RustExpr}
use Rattle.pc_scope.specs.declared.resolution.NameMeaning.{NameMeaning}
use Rattle.pc_flow.specs.Naming.{meanings}
use Rattle.pc_flow.specs.Stored.{env_of}
use Rattle.pc_notes.specs.Notes.{notes_of}
use Rattle.pc_module_rules.specs.Computed.Statements.{annotated_binding, with_note}
use Rattle.pc_walk.specs.Walks.{body_context_in}
use Rattle.pc_walk.proofs.NotedBindings.{bound_noted}
use Rattle.pc_statements.proofs.binding.bind_annotated.Goals as goal

-- there is a value exactly if the tree has one
some_value : (value : Option (Box RustExpr)) → is_some value ≡ is_some (option_expr_of value)
some_value None = refl
some_value (Some e) = refl

pub returns-clause-bound : goal.returns-clause-bound
returns-clause-bound g c =
    let S = g.S.TypeStore in
    let w = c.args.walk.now in
    let F = body_context_in S w in
    let T = env_of S.tree w.declared.now in
    let E = env_of S.tree c.args.env in
    let name = name_of c.args.name.now in
    let annotation = ann_of c.args.annotation.now in
    let value = option_expr_of c.args.value.now in
    let found = notes_of w.found.now in
    let place = c.args.name.now.place in
    let meaning = c.resolve-meaning.ensures ∙ ap (meanings w.context.names.now) c.as_str.ensures.value in
    let n = c.in_ok-note_binding.ensures in
    let bound = bound_noted S w c.bind_read.new.walk c.note_binding.new.walk c.args.env c.in_ok-behind.behind
    (λ f t k. annotated_binding f t k c.resolve-meaning.result name annotation value) c.is_some.result
    c.resolve-meaning.result place c.bind_read.ensures.goes_on c.note_binding.ensures.goes_on
    c.in_ok-behind.ensures.bound n.noted n.declared in
    record {
      is = bound.is
          ∙ ap (λ (r : NameMeaning). with_note F c.is_some.result r place
          (annotated_binding F T E r name annotation value found)) meaning
          ∙ ap (λ (v : Test). with_note F v (meanings w.context.names.now name.text) place
          (annotated_binding F T E (meanings w.context.names.now name.text) name annotation value found))
          (c.is_some.ensures ∙ some_value c.args.value.now);
      stands = bound.stands;
    }
