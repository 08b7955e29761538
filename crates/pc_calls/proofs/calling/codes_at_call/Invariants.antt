use Rattle.std.proofs.Common.{◌≡◌, drop}
use Rattle.pc_rules.specs.Computed.Findings.{once, once_onto}
use Rattle.pc_calls.specs.JudgedCalls.{found_at_call}
use Rattle.pc_calls.proofs.calling.codes_at_call.Given as goal

abbrev pub invariant-loop-offer : goal.invariant-loop-offer
invariant-loop-offer g l = once_onto l.codes.items (found_at_call (drop l.offer-index l.offers))
    ≡ once (found_at_call l.offers)
