use Rattle.std.proofs.Common.{◌≡◌, ◌++◌, List, None, refl, subst, rules}
use Rattle.std.specs.Prelude.{true, false}
use Rattle.pc_tree.specs.Tree.{expr_of}
use Rattle.pc_types.specs.Tree.{Tree}
use Rattle.pc_flow.specs.Naming.{meanings}
use Rattle.pc_flow.specs.Narrowing.{narrow}
use Rattle.pc_flow.specs.Stored.{env_of}
use Rattle.pc_notes.specs.Notes.{notes_of}
use Rattle.pc_rules.specs.Computed.Standing.{finds_in}
use Rattle.pc_rules.specs.Computed.ModuleParents.{class_parents}
use Rattle.pc_walk.specs.StatementsHeld.{GivesTypes, context_in}
use Rattle.pc_walk.specs.Walks.{Found}
use Rattle.pc_walk.proofs.Held.{declared_is, declared_well_formed}
use Rattle.pc_walk.proofs.Walks.{grown, found_by}
use Rattle.pc_statements.proofs.typing.type_condition.Goals as goal

pub type_condition-requires : goal.type_condition-requires
type_condition-requires g c =
    let w = c.args.walk.now in
    let h = c.requires in
    record {
      classes = h.context.classes;
      functions = h.context.functions;
      constants = h.context.constants;
      declared = h.declared.given;
      env = h.current.given;
      declared_well_formed = declared_well_formed g.S.TypeStore.tree (class_parents w.context.globals.now)
          w.declared.now
          h.declared.well_formed;
      env_well_formed = h.current.well_formed;
    }

pub returns-clause-where_true : goal.returns-clause-where_true
returns-clause-where_true g c =
    let S = g.S.TypeStore in
    let tree = S.tree in
    let w = c.args.walk.now in
    let ways = c.in_ok-typed.ensures.ways in
    let f = w.context in
    subst (λ (ds : List Tree). GivesTypes S.has tree (class_parents f.globals.now)
    c.type_condition.new.state.store.now
    c.in_ok-typed.typed.ways.where_true
    (narrow (class_parents f.globals.now) ds (meanings f.names.now) true (expr_of c.args.condition.now)
    (env_of tree c.args.env.now)))
    (declared_is tree w.declared.now) (record {
      holds = record { given = ways.given_true.env; well_formed = ways.given_true.env_well_formed };
      is = ways.where_true;
    })

pub returns-clause-where_false : goal.returns-clause-where_false
returns-clause-where_false g c =
    let S = g.S.TypeStore in
    let tree = S.tree in
    let w = c.args.walk.now in
    let ways = c.in_ok-typed.ensures.ways in
    let f = w.context in
    subst (λ (ds : List Tree). GivesTypes S.has tree (class_parents f.globals.now)
    c.type_condition.new.state.store.now
    c.in_ok-typed.typed.ways.where_false
    (narrow (class_parents f.globals.now) ds (meanings f.names.now) false (expr_of c.args.condition.now)
    (env_of tree c.args.env.now)))
    (declared_is tree w.declared.now) (record {
      holds = record { given = ways.given_false.env; well_formed = ways.given_false.env_well_formed };
      is = ways.where_false;
    })

pub returns-clause-finds : goal.returns-clause-finds
returns-clause-finds g c =
    let S = g.S.TypeStore in
    let tree = S.tree in
    let w = c.args.walk.now in
    let e = expr_of c.args.condition.now in
    let store = c.type_condition.new.state.store.now in
    let found = c.type_condition.new.state.found.now in
    let new = record w { store = record w.store { now = store }; found = record w.found { now = found } } in
    let pushed = subst (λ (ds : List Tree). notes_of found ≡ notes_of w.found.now ++ finds_in
    (record {
      context = context_in tree w.context;
      declared = ds;
      env = env_of tree c.args.env.now;
      keeps = w.context.globals.now.keeps;
    })
    None e) (declared_is tree w.declared.now) c.in_ok-typed.ensures.found in
    let all : Found S w c.args.env.now new (λ f k. finds_in k None e) =
    found_by S w new c.args.env.now _ c.requires (grown c.type_condition.ensures.goes_on.kept) refl pushed in
    search (rules, all)
