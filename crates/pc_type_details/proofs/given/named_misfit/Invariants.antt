use Rattle.std.proofs.Common.{◌≡◌, drop, map}
use Rattle.pc_calls.specs.JudgedCalls.{names_in}
use Rattle.pc_detail_facts.specs.Callees.{parameters_called}
use Rattle.pc_detail_rules.specs.Calls.{named_misfit}
use Rattle.pc_type_details.proofs.given.named_misfit.Given as goal

abbrev pub invariant-loop-word : goal.invariant-loop-word
invariant-loop-word l =
    named_misfit l.given.positional (parameters_called l.facts l.called)
    (map (λ k. k.now) (drop l.word-index l.word-items))
    ≡ named_misfit l.given.positional (parameters_called l.facts l.called) (names_in l.given.named)
