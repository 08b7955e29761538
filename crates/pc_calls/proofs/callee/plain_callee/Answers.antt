use Rattle.std.proofs.Common.{◌∷◌, [], ◌∙◌, sym, ap, subst}
use Rattle.std.specs.Prelude.{if◌then◌else◌}
use Rattle.pc_tree.specs.declared.code.Code.TheVariants.{E14}
use Rattle.pc_rules.specs.Calls.{CallOffer, good_callee, plain_call, fails_at_call}
use Rattle.pc_calls.specs.JudgedCalls.{IsCallee}
use Rattle.pc_calls.proofs.callee.plain_callee.Goals as goal

pub returns-then-suits-clause-callee : goal.returns-then-suits-clause-callee
returns-then-suits-clause-callee g c =
    let tree = g.S.TypeStore.tree in
    subst (λ (o : CallOffer). IsCallee g.S.TypeStore.has tree c.good_callee.new.store c.in_ok-callee.callee
    (good_callee (o ∷ [])))
    (c.plain_call.ensures.offer tree ∙ sym (ap (λ b. if b then plain_call (tree c.args.gives) else fails_at_call E14)
    c.if-suits.true))
    c.in_ok-callee.ensures.callee
