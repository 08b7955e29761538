use Rattle.std.proofs.Common.{subst}
use Rattle.pc_class.specs.Listed.{names_listed, ArePlaces, AreNeeded}
use Rattle.pc_class.proofs.listed.ParameterList.new.Goals as goal

pub invariant_of-result-2 : goal.invariant_of-result-2
invariant_of-result-2 g c = (
  subst (λ ps. ArePlaces c.in_ok-places.places (names_listed ps)) c.deref.ensures.value c.in_ok-places.ensures,
  subst (λ ps. AreNeeded c.in_ok-needed.needed.items ps) c.deref-2.ensures.value c.in_ok-needed.ensures,
)
