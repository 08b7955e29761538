use Rattle.std.proofs.Common.{◌≡◌, ◌∙◌, Option, None, ap, sym}
use Rattle.std.specs.Option.{option_map}
use Rattle.pc_scope.specs.declared.resolution.NameMeaning.{NameMeaning}
use Rattle.pc_types.specs.Tree.{Tree}
use Rattle.pc_flow.specs.Stored.{env_of}
use Rattle.pc_notes.specs.Notes.{notes_of}
use Rattle.pc_rules.specs.Operations.{clean}
use Rattle.pc_rules.specs.Computed.ModuleParents.{class_parents}
use Rattle.pc_module_rules.specs.Computed.Statements.{bind_item, bind_label, bound_type}
use Rattle.pc_walk.specs.Walks.{body_context_in}
use Rattle.pc_walk.proofs.Bound.{known_holds, known_bound, item_elsewhere}
use Rattle.pc_walk.proofs.loops.bind_target.Goals as goal

pub bind_label-requires-clause-want : goal.bind_label-requires-clause-want
bind_label-requires-clause-want g c =
    let S = g.S.TypeStore in
    let w = c.args.walk.now in
    known_holds S.has S.tree (class_parents w.context.globals.now) w.store.now w.declared.now c.in-Local.local
    None
    c.in_ok-want-in-Local.want c.requires.stands.declared tt c.in_ok-want-in-Local.ensures

pub returns-in_ok-inside-in-Local-clause-bound : goal.returns-in_ok-inside-in-Local-clause-bound
returns-in_ok-inside-in-Local-clause-bound g c =
    let S = g.S.TypeStore in
    let w = c.args.walk.now in
    let context = body_context_in S w in
    let table = env_of S.tree w.declared.now in
    let head = env_of S.tree c.args.head in
    let item = S.tree c.args.item in
    let found = notes_of w.found.now in
    let x = c.in-Local.local in
    let want : option_map S.tree c.in_ok-want-in-Local.want ≡ bound_type table x =
    c.in_ok-want-in-Local.ensures.is ∙ known_bound (bound_type table x) in
    let bound = c.in_ok-inside-in-Local.ensures.bound (clean item)
    (λ i. record { type = item; codes = c.new.ensures.items i }) in
    record {
      is = bound.is
          ∙ ap (λ (o : Option Tree). bind_label context table head x o c.args.place (clean item) found) want
          ∙ ap (λ (r : NameMeaning). bind_item context table head r c.args.place item found)
          (sym c.in-Local.is);
      stands = bound.stands;
    }

pub returns-in_default-clause-bound : goal.returns-in_default-clause-bound
returns-in_default-clause-bound g c =
    let S = g.S.TypeStore in
    let w = c.args.walk.now in
    let context = body_context_in S w in
    let table = env_of S.tree w.declared.now in
    let head = env_of S.tree c.args.head in
    let item = S.tree c.args.item in
    let found = notes_of w.found.now in
    record {
      is = sym (item_elsewhere context table head c.args.meaning c.args.place item found
          (λ x i. c.in_default.not-Local x i));
      stands = c.requires.stands;
    }
