use Rattle.std.proofs.Common.{◌∙◌, ap, None, true}
use Rattle.pc_tree.specs.Tree.{expr_of}
use Rattle.pc_scope.specs.declared.resolution.NameMeaning.{NameMeaning}
use Rattle.pc_flow.specs.Naming.{meanings}
use Rattle.pc_flow.specs.Stored.{env_of}
use Rattle.pc_notes.specs.Notes.{notes_of}
use Rattle.pc_module_rules.specs.Computed.Statements.{bind_value, with_note}
use Rattle.pc_walk.specs.Walks.{body_context_in}
use Rattle.pc_walk.proofs.NotedBindings.{bound_noted}
use Rattle.pc_statements.proofs.targets.assign_name.Goals as goal

pub returns-clause-bound : goal.returns-clause-bound
returns-clause-bound g c =
    let S = g.S.TypeStore in
    let w = c.args.walk.now in
    let F = body_context_in S w in
    let T = env_of S.tree w.declared.now in
    let E = env_of S.tree c.args.env in
    let value = expr_of c.args.value.now in
    let place = c.args.name.now.place in
    let meaning = c.resolve-meaning.ensures ∙ ap (meanings w.context.names.now) c.as_str.ensures.value in
    let n = c.in_ok-note_binding.ensures in
    let bound = bound_noted S w c.bind_value.new.walk c.note_binding.new.walk c.args.env c.in_ok-behind.behind
    (λ f t k. bind_value f t k c.resolve-meaning.result None value) true c.resolve-meaning.result place
    c.bind_value.ensures.goes_on c.note_binding.ensures.goes_on c.in_ok-behind.ensures.bound n.noted n.declared in
    record {
      is = bound.is ∙ ap (λ (r : NameMeaning). with_note F true r place
          (bind_value F T E r None value (notes_of w.found.now))) meaning;
      stands = bound.stands;
    }
