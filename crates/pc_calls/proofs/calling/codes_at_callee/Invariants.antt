use Rattle.std.proofs.Common.{◌≡◌, drop}
use Rattle.pc_rules.specs.Computed.Findings.{once, once_onto}
use Rattle.pc_calls.specs.JudgedCalls.{found_at_callee}
use Rattle.pc_calls.proofs.calling.codes_at_callee.Given as goal

abbrev pub invariant-loop-offer : goal.invariant-loop-offer
invariant-loop-offer g l = once_onto l.codes.items (found_at_callee (drop l.offer-index l.offers))
    ≡ once (found_at_callee l.offers)
