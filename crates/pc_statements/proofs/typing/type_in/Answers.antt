use Rattle.std.proofs.Common.{◌≡◌, ◌++◌, List, refl, subst, rules}
use Rattle.std.specs.Option.{option_map}
use Rattle.pc_tree.specs.Tree.{expr_of}
use Rattle.pc_types.specs.Tree.{Tree}
use Rattle.pc_flow.specs.Stored.{env_of}
use Rattle.pc_notes.specs.Notes.{notes_of}
use Rattle.pc_rules.specs.Computed.Standing.{MeansLabel, label_in, finds_in}
use Rattle.pc_rules.specs.Computed.ModuleParents.{class_parents}
use Rattle.pc_walk.specs.StatementsHeld.{context_in}
use Rattle.pc_walk.specs.Walks.{Found, IsLabel, standing_in}
use Rattle.pc_walk.proofs.Held.{declared_is, declared_well_formed, table_well_formed, gives_label, want_well_formed}
use Rattle.pc_walk.proofs.Held.{want_given}
use Rattle.pc_walk.proofs.Walks.{grown, found_by}
use Rattle.pc_statements.proofs.typing.type_in.Goals as goal

pub check_expr-requires-clause-given : goal.check_expr-requires-clause-given
check_expr-requires-clause-given g c =
    let w = c.args.walk.now in
    let h = c.requires.stands in
    record {
      classes = h.context.classes;
      functions = h.context.functions;
      constants = h.context.constants;
      declared = h.declared.given;
      env = h.current.given;
      declared_well_formed = declared_well_formed g.S.TypeStore.tree (class_parents w.context.globals.now)
          w.declared.now
          h.declared.well_formed;
      env_well_formed = h.current.well_formed;
    }

pub check_expr-requires-clause-want : goal.check_expr-requires-clause-want
check_expr-requires-clause-want g c = want_given _ g.S.TypeStore.tree
    (class_parents c.args.walk.now.context.globals.now) c.args.want.now
    c.requires.want

pub returns-clause-labelled : goal.returns-clause-labelled
returns-clause-labelled g c =
    let S = g.S.TypeStore in
    let tree = S.tree in
    let w = c.args.walk.now in
    let h = c.requires.stands in
    let bases = (class_parents w.context.globals.now) in
    let k = standing_in S w c.args.env.now in
    let want = option_map tree c.args.want.now in
    let e = expr_of c.args.e.now in
    let store = c.check_expr.new.state.store.now in
    let l = c.in_ok-label.label in
    let new = record w { store = record w.store { now = store } } in
    let label = subst (λ (ds : List Tree). MeansLabel S.has tree store l (label_in
    (record {
      context = context_in tree w.context;
      declared = ds;
      env = env_of tree c.args.env.now;
      keeps = w.context.globals.now.keeps;
    })
    want e)) (declared_is tree w.declared.now) c.in_ok-label.ensures.labelled in
    let labelled : IsLabel S new l (label_in k want e) = gives_label S.has tree bases store l k want e refl
    h.context.context
    (table_well_formed bases (env_of tree w.declared.now) h.declared.well_formed) h.current.well_formed
    (want_well_formed S.has tree bases w.store.now c.args.want.now c.requires.want) label in
    search (rules, labelled)

pub returns-clause-finds : goal.returns-clause-finds
returns-clause-finds g c =
    let S = g.S.TypeStore in
    let tree = S.tree in
    let w = c.args.walk.now in
    let want = option_map tree c.args.want.now in
    let e = expr_of c.args.e.now in
    let store = c.check_expr.new.state.store.now in
    let found = c.check_expr.new.state.found.now in
    let new = record w { store = record w.store { now = store }; found = record w.found { now = found } } in
    let pushed = subst (λ (ds : List Tree). notes_of found ≡ notes_of w.found.now ++ finds_in
    (record {
      context = context_in tree w.context;
      declared = ds;
      env = env_of tree c.args.env.now;
      keeps = w.context.globals.now.keeps;
    })
    want e) (declared_is tree w.declared.now) c.in_ok-label.ensures.found in
    let all : Found S w c.args.env.now new (λ f k. finds_in k want e) =
    found_by S w new c.args.env.now _ c.requires.stands (grown c.check_expr.ensures.goes_on.kept) refl pushed in
    search (rules, all)
