use Rattle.std.proofs.Common.{◌∙◌, ◌++◌, Option, sym, ap}
use Rattle.std.specs.Option.{option_map}
use Rattle.pc_source.specs.declared.place.Place.{Place}
use Rattle.pc_scope.specs.declared.resolution.NameMeaning.{NameMeaning}
use Rattle.pc_tree.specs.Tree.{expr_of}
use Rattle.pc_tree.specs.Depth.{place_of}
use Rattle.pc_types.specs.Tree.{Tree}
use Rattle.pc_flow.specs.Stored.{env_of}
use Rattle.pc_notes.specs.Notes.{notes_of}
use Rattle.pc_rules.specs.Computed.Standing.{label_in, finds_in}
use Rattle.pc_rules.specs.Computed.ModuleParents.{class_parents}
use Rattle.pc_module_rules.specs.Computed.Statements.{bind_label, bind_value}
use Rattle.pc_walk.specs.Walks.{body_context_in, standing_in}
use Rattle.pc_walk.proofs.Bound.{known_holds}
use Rattle.pc_walk.proofs.Held.{want_well_formed}
use Rattle.pc_walk.proofs.Walks.{want_kept, bound_then}
use Rattle.pc_statements.proofs.binding.bind_value.Goals as goal

pub type_in-requires-clause-want : goal.type_in-requires-clause-want
type_in-requires-clause-want g c =
    let S = g.S.TypeStore in
    let w = c.args.walk.now in
    let bases = (class_parents w.context.globals.now) in
    known_holds S.has S.tree bases w.store.now w.declared.now c.in-Local.local (option_map S.tree c.args.annotation)
    c.in_ok-want-in-Local.want c.requires.stands.declared
    (want_well_formed S.has S.tree bases w.store.now c.args.annotation c.requires.annotation)
    c.in_ok-want-in-Local.ensures

pub bind_label-requires-clause-want : goal.bind_label-requires-clause-want
bind_label-requires-clause-want g c =
    let S = g.S.TypeStore in
    let w = c.args.walk.now in
    let bases = (class_parents w.context.globals.now) in
    let want = c.in_ok-want-in-Local.want in
    want_kept S w c.type_in.new.walk want c.type_in.ensures.goes_on
    (known_holds S.has S.tree bases w.store.now w.declared.now c.in-Local.local (option_map S.tree c.args.annotation)
    want c.requires.stands.declared
    (want_well_formed S.has S.tree bases w.store.now c.args.annotation c.requires.annotation)
    c.in_ok-want-in-Local.ensures)

pub returns-in_ok-behind-in-Local-clause-bound : goal.returns-in_ok-behind-in-Local-clause-bound
returns-in_ok-behind-in-Local-clause-bound g c =
    let S = g.S.TypeStore in
    let old = c.args.walk.now in
    let F = body_context_in S old in
    let T = env_of S.tree old.declared.now in
    let K = standing_in S old c.args.env in
    let E = env_of S.tree c.args.env in
    let e = expr_of c.args.e.now in
    let x = c.in-Local.local in
    let want = option_map S.tree c.in_ok-want-in-Local.want in
    let annotation = option_map S.tree c.args.annotation in
    let m = label_in K want e in
    let found = notes_of old.found.now in
    let typed = c.in_ok-label-in-Local.ensures in
    let bound = bound_then S old c.type_in.new.walk c.bind_label.new.walk c.args.env c.in_ok-behind-in-Local.behind
    (λ f k. finds_in k want e) (λ f t k. bind_label f t k x want c.place.result m) c.type_in.ensures.goes_on typed.finds
    (c.in_ok-behind-in-Local.ensures.bound m typed.labelled.label.is) in
    record {
      is = bound.is
          ∙ ap (λ (p : Place). bind_label F T E x want p m (found ++ finds_in K want e)) c.place.ensures
          ∙ ap (λ (w : Option Tree). bind_label F T E x w (place_of e) (label_in K w e) (found ++ finds_in K w e))
          c.in_ok-want-in-Local.ensures.is
          ∙ ap (λ (r : NameMeaning). bind_value F T E r annotation e found) (sym c.in-Local.is);
      stands = bound.stands;
    }
