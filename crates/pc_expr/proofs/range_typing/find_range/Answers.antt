use Rattle.std.proofs.Common.{◌∙◌, map, sym}
use Rattle.pc_tree.specs.Tree.{expr_of}
use Rattle.pc_tree.specs.Lists.{exprs_of_list, keywords_of_list}
use Rattle.pc_notes.specs.Notes.{notes_of}
use Rattle.pc_rules.specs.Computed.Standing.{standing_of}
use Rattle.pc_calls.specs.JudgedCalls.{given_with, offer_called}
use Rattle.pc_rules.proofs.Kept.{stands_kept}
use Rattle.pc_calls.proofs.CallsKept.{offers_kept}
use Rattle.pc_expr.proofs.CallForms.{two_tested}
use Rattle.pc_rules.proofs.Along.{if_ok}
use Rattle.pc_expr.proofs.RangeForms.{range_found}
use Rattle.pc_expr.proofs.range_typing.find_range.Goals as goal

pub type_arguments-requires-clause-two : goal.type_arguments-requires-clause-two
type_arguments-requires-clause-two g c h = two_tested (expr_of c.args.range.now.callee.now)
    c.args.range.now.arguments.now (keywords_of_list c.args.range.now.by_name.now)
    (sym c.is_instance_test-is_test.ensures ∙ h)

pub type_arguments-requires-clause-offers : goal.type_arguments-requires-clause-offers
type_arguments-requires-clause-offers g c = rw c.deref.ensures.value c.in_ok-offers.ensures.offers.given

pub type_keywords-requires-clause-offers : goal.type_keywords-requires-clause-offers
type_keywords-requires-clause-offers g c = rw c.deref-2.ensures.value
    (offers_kept g.S.TypeStore.has _ _ c.in_ok-type_arguments.ensures.goes_on.kept c.in_ok-offers.offers.items
    c.in_ok-offers.ensures.offers.given)

pub returns-clause-found : goal.returns-clause-found
returns-clause-found g c =
    let tree = g.S.TypeStore.tree in
    if_ok c.find_codes.result
    (λ i. range_found (standing_of tree c.args.context.now c.args.env.now) c.args.range.now.place
    (expr_of c.args.range.now.callee.now) (exprs_of_list c.args.range.now.arguments.now)
    (keywords_of_list c.args.range.now.by_name.now)
    (given_with c.in_ok-given.given) c.in_ok-given.ensures (map (offer_called tree) c.in_ok-offers.offers.items)
    c.in_ok-offers.ensures.offers.is
    (notes_of c.args.state.now.found.now) (notes_of c.type_arguments.new.state.found.now)
    (notes_of c.type_keywords.new.state.found.now) (notes_of c.find_codes.new.found) c.in_ok-codes.codes.items
    c.is_instance_test-is_test.result
    (rw c.deref-3.ensures.value at (c.in_ok-codes.ensures tree)) c.is_instance_test-is_test.ensures
    (rw c.deref.ensures.value at c.in_ok-type_arguments.ensures.found)
    (rw c.deref-2.ensures.value at c.in_ok-type_keywords.ensures.found)
    i)
    (rw c.deref-4.ensures.value at c.find_codes.ensures)

pub type_arguments-requires-clause-given : goal.type_arguments-requires-clause-given
type_arguments-requires-clause-given g c = stands_kept (g.S.TypeStore.has c.args.state.now.store.now)
    (g.S.TypeStore.has c.range_offers.new.store) c.range_offers.ensures.kept g.S.TypeStore.tree c.args.context.now
    c.args.env.now c.requires

pub type_keywords-requires-clause-given : goal.type_keywords-requires-clause-given
type_keywords-requires-clause-given g c = stands_kept (g.S.TypeStore.has c.args.state.now.store.now)
    (g.S.TypeStore.has c.type_arguments.new.state.store.now) (λ ty h. c.type_arguments.ensures.goes_on.kept ty
    (c.range_offers.ensures.kept ty h)) g.S.TypeStore.tree c.args.context.now c.args.env.now c.requires
