use Rattle.std.proofs.Common.{◌∙◌, ℕ, List, arith, ap, refl, subst}
use Rattle.pc_calls.specs.declared.call_offers.CallRule.TheVariants as rule
use Rattle.pc_rules.specs.Computed.Findings.{once}
use Rattle.pc_rules.specs.Calls.{method_offers, method_callee}
use Rattle.pc_calls.specs.JudgedCalls.{given_with, found_at_callee, IsCallee}
use Rattle.pc_rules.specs.Computed.Standing.{context_with}
use Rattle.pc_calls.proofs.CallsKept.{item_held, members_more}
use Rattle.pc_calls.proofs.CalleesMeant.{method_meant}
use Rattle.pc_rules.proofs.Kept.{entries_kept}
use Rattle.pc_calls.proofs.methods.callee_of_method.Goals as goal

pub push_method_offers-requires-clause-classes : goal.push_method_offers-requires-clause-classes
push_method_offers-requires-clause-classes g c = entries_kept (g.S.TypeStore.has _) (g.S.TypeStore.has _)
    c.loop-i.invariant.kept c.args.context.now.globals.now.classes.now c.requires.classes

pub push_method_offers-requires-clause-member : goal.push_method_offers-requires-clause-member
push_method_offers-requires-clause-member g c = item_held g.S.TypeStore.has c.args.store.now c.loop-i.store
    c.in_ok-members.members.items c.loop-i.i _ c.loop-i.invariant.kept c.in_ok-members.ensures.held (omega arith)
    c.index.ensures

pub loop-i-preserved : goal.loop-i-preserved
loop-i-preserved g c = members_more g.S.TypeStore.has g.S.TypeStore.tree
    (method_offers (context_with g.S.TypeStore.tree c.args.context.now) (given_with c.args.given.now) _)
    c.args.store.now c.loop-i.store c.push_method_offers.new.store _ c.loop-i.offers.items
    c.push_method_offers.new.offers.items c.in_ok-members.members.items c.loop-i.i c.index.result.now (omega arith)
    c.index.ensures c.push_method_offers.ensures.kept c.loop-i.invariant c.in_ok-push_method_offers.ensures.offers

pub returns-clause-callee : goal.returns-clause-callee
returns-clause-callee g c =
    let tree = g.S.TypeStore.tree in
    let ctx = context_with tree c.args.context.now in
    let gave = given_with c.args.given.now in
    subst (λ (w : List ℕ). IsCallee g.S.TypeStore.has tree c.any.new.self
    (record {
      label = record { ty = c.in_ok-ty.ty; codes = c.in_ok-codes.codes };
      rule = rule.Member;
      offers =
          c.loop-i.offers;
    }) (method_callee ctx gave w (tree c.args.object.now)))
    c.as_str-word.ensures.value
    (method_meant g.S.TypeStore.has tree ctx gave _ (tree c.args.object.now) c.args.store.now c.loop-i.store
    c.any.new.self c.in_ok-members.members.items c.loop-i.offers.items c.loop-i.i _ c.in_ok-ty.ensures.kept
    c.in_ok-members.ensures.value (omega arith) c.loop-i.invariant c.in_ok-ty.ensures.value (c.in_ok-codes.ensures
    ∙ ap (λ os. once (found_at_callee os)) c.deref.ensures.value) refl refl)
