use Rattle.std.proofs.Common.{◌∙◌, ◌++◌, ◌∷◌, [], ap, refl}
use Rattle.pc_calls.proofs.CalleesMeant.{good_meant}
use Rattle.pc_calls.proofs.callee.good_callee.Goals as goal

pub returns-clause-callee : goal.returns-clause-callee
returns-clause-callee g c = good_meant g.S.TypeStore.has g.S.TypeStore.tree c.args.store.now c.any.new.self _
    c.args.offer c.in_ok-any.ensures.value c.new.ensures.items refl (c.in_ok-push_offer.ensures
    ∙ ap (λ os. os ++ c.args.offer ∷ []) c.new-offers.ensures.items) c.in_ok-any.ensures.kept c.requires
