use Rattle.std.proofs.Common.{◌∙◌, ap, true}
use Rattle.pc_scope.specs.declared.resolution.NameMeaning.{NameMeaning}
use Rattle.pc_flow.specs.Stored.{env_of}
use Rattle.pc_notes.specs.Notes.{notes_of}
use Rattle.pc_module_rules.specs.Computed.Statements.{bind_item, with_note}
use Rattle.pc_walk.specs.Walks.{body_context_in}
use Rattle.pc_walk.proofs.NotedBindings.{bound_noted}
use Rattle.pc_walk.proofs.loops.bind_item.Goals as goal

pub returns-clause-bound : goal.returns-clause-bound
returns-clause-bound g c =
    let S = g.S.TypeStore in
    let w = c.args.walk.now in
    let context = body_context_in S w in
    let table = env_of S.tree w.declared.now in
    let head = env_of S.tree c.args.head in
    let item = S.tree c.args.item in
    let place = c.args.target.now.place in
    let meaning = c.resolve-meaning.ensures ∙ ap context.context.resolve c.as_str.ensures.value in
    let n = c.in_ok-note_binding.ensures in
    let bound = bound_noted S w c.bind_target.new.walk c.note_binding.new.walk c.args.head c.in_ok-inside.inside
    (λ f t k. bind_item f t k c.resolve-meaning.result c.args.place item) true c.resolve-meaning.result place
    c.bind_target.ensures.goes_on c.note_binding.ensures.goes_on c.in_ok-inside.ensures.bound n.noted n.declared in
    record {
      is = bound.is ∙ ap (λ (r : NameMeaning). with_note context true r place
          (bind_item context table head r c.args.place item (notes_of w.found.now))) meaning;
      stands = bound.stands;
    }
