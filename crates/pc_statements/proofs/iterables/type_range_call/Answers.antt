use Rattle.std.proofs.Common.{◌≡◌, ◌++◌, [], List, refl, sym, ap, subst, rules}
use Rattle.pc_tree.specs.Tree.{expr_of, call}
use Rattle.pc_tree.specs.Lists.{exprs_of_list, keywords_of_list}
use Rattle.pc_scope.specs.Expressions.{is_instance_test}
use Rattle.pc_types.specs.Tree.{Tree}
use Rattle.pc_types.specs.WellFormed.{IsWellFormed}
use Rattle.pc_flow.specs.Stored.{env_of}
use Rattle.pc_notes.specs.Notes.{Note, notes_of}
use Rattle.pc_rules.specs.Operations.{Label}
use Rattle.pc_rules.specs.Calls.{arguments_given, range_offers, positional_seat, named_seat, call_label}
use Rattle.pc_rules.specs.Computed.Findings.{codes_at}
use Rattle.pc_rules.specs.Computed.Standing.{Standing, MeansLabel, arguments_find, keywords_find}
use Rattle.pc_rules.specs.Computed.ModuleParents.{class_parents}
use Rattle.pc_module_rules.specs.Computed.Statements.{item_label_of, iterable_finds}
use Rattle.pc_walk.specs.StatementsHeld.{GivesLabel, context_in}
use Rattle.pc_walk.proofs.Held.{declared_is, declared_well_formed}
use Rattle.pc_walk.specs.Walks.{Found, body_context_in, standing_in}
use Rattle.pc_statements.proofs.Iterating.{range_items, range_found, range_well_formed}
use Rattle.pc_walk.proofs.Walks.{grown, found_by}
use Rattle.pc_statements.proofs.iterables.type_range_call.Goals as goal

pub type_range-requires : goal.type_range-requires
type_range-requires g c =
    let w = c.args.walk.now in
    let h = c.requires.stands in
    record {
      classes = h.context.classes;
      functions = h.context.functions;
      constants = h.context.constants;
      declared = h.declared.given;
      env = h.current.given;
      declared_well_formed = declared_well_formed g.S.TypeStore.tree (class_parents w.context.globals.now)
          w.declared.now
          h.declared.well_formed;
      env_well_formed = h.current.well_formed;
    }

pub returns-clause-labelled : goal.returns-clause-labelled
returns-clause-labelled g c =
    let S = g.S.TypeStore in
    let w = c.args.walk.now in
    let bases = (class_parents w.context.globals.now) in
    let r = c.args.iterable.now in
    let arguments = exprs_of_list r.arguments.now in
    let keywords = keywords_of_list r.by_name.now in
    let k = standing_in S w c.args.env.now in
    let context = body_context_in S w in
    let e = call r.place (expr_of r.callee.now) arguments keywords in
    let store = c.type_range.new.state.store.now in
    let l = c.in_ok-item.item in
    let m = c.in_ok-item.ensures.label in
    let items = sym (range_items context k r.place (expr_of r.callee.now) arguments keywords c.requires.range) in
    let labelled : GivesLabel S.has S.tree bases store l (item_label_of context k e) = record {
      label = subst (λ (x : Label). MeansLabel S.has S.tree store l x) items m;
      well_formed = subst (IsWellFormed bases) (sym (ap (λ (x : Label). x.type) m.is))
          (range_well_formed bases (arguments_given arguments keywords));
    } in
    search (rules, labelled)

pub returns-clause-finds : goal.returns-clause-finds
returns-clause-finds g c =
    let S = g.S.TypeStore in
    let w = c.args.walk.now in
    let bases = (class_parents w.context.globals.now) in
    let k = standing_in S w c.args.env.now in
    let r = c.args.iterable.now in
    let callee = expr_of r.callee.now in
    let arguments = exprs_of_list r.arguments.now in
    let keywords = keywords_of_list r.by_name.now in
    let offers = range_offers (arguments_given arguments keywords) in
    let store = c.type_range.new.state.store.now in
    let found = c.type_range.new.state.found.now in
    let walk = record w { store = record w.store { now = store }; found = record w.found { now = found } } in
    let new = notes_of found in
    let old = notes_of w.found.now in
    let codes = codes_at r.place (call_label bases offers).codes in
    let pushed = subst (λ (fs : List Note). new ≡ old ++ fs)
    (sym (range_found (body_context_in S w) k r.place callee arguments keywords c.requires.range))
    (subst (λ (ds : List Tree). let s : Standing = record {
      context = context_in S.tree w.context;
      declared = ds;
      env = env_of S.tree c.args.env.now;
      keeps = w.context.globals.now.keeps;
    } in new ≡ old
    ++ (arguments_find s (is_instance_test callee arguments keywords) (positional_seat offers) arguments
    ++ (keywords_find s (named_seat offers) [] keywords ++ codes)))
    (declared_is S.tree w.declared.now) c.in_ok-item.ensures.found) in
    let all : Found S w c.args.env.now walk (λ f k. iterable_finds f k (call r.place callee arguments keywords)) =
    found_by S w walk c.args.env.now _ c.requires.stands (grown c.type_range.ensures.goes_on.kept) refl pushed in
    search (rules, all)
