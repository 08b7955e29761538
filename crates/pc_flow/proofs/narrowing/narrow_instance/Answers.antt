use Rattle.std.proofs.Common.{arith}
use Rattle.pc_flow.proofs.Calls.{no_second}
use Rattle.pc_flow.proofs.narrowing.narrow_instance.Goals as goal

pub returns-in_default-clause-value : goal.returns-in_default-clause-value
returns-in_default-clause-value g c = λ declared. rw (
  c.if-not-is_test.false,
  no_second c.args.arguments.now
      (omega arith),
) c.unchanged-in_default.ensures
