use Rattle.pc_notes.proofs.GivenTypes.{pair_given}
use Rattle.pc_notes.proofs.notes.Notes.flow_types.Goals as goal

pub returns-clause-given : goal.returns-clause-given
returns-clause-given c = λ p. pair_given _ _ (c.in_ok-types_of_flows.ensures p) (c.in_ok-flows.ensures.given p)
