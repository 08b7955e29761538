use Rattle.std.proofs.Common.{◌≡◌, drop, map}
use Rattle.pc_calls.specs.JudgedCalls.{given_with}
use Rattle.pc_detail_facts.specs.Callees.{called_of}
use Rattle.pc_detail_rules.specs.Calls.{first_detail, misfits_of}
use Rattle.pc_type_details.proofs.calls.call_detail.Given as goal

abbrev pub invariant-loop-called : goal.invariant-loop-called
invariant-loop-called l =
    first_detail (misfits_of (given_with l.given) (map (called_of l.facts) (drop l.called-index l.called-items)))
    ≡ first_detail (misfits_of (given_with l.given) (map (called_of l.facts) l.called-items))
