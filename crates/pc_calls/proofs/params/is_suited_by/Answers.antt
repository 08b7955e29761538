use Rattle.std.proofs.Common.{◌∙◌, ◌≡◌, ◌≢◌, sym, arith, length}
use Rattle.std.specs.Prelude.{nat_eq, false}
use Rattle.pc_calls.specs.JudgedCalls.{given_with}
use Rattle.pc_calls.proofs.Filling.{unsuited}
use Rattle.pc_calls.proofs.params.is_suited_by.Goals as goal

pub returns-else-given-count : goal.returns-else-given-count
returns-else-given-count c types returns same =
    let other : c.args.given.now.positional ≢ length types = omega (arith, same, c.if-given-count.false) in
    let no : nat_eq c.args.given.now.positional c.args.count ≡ false = grind (arith, c.if-given-count.false) in
    no ∙ sym (unsuited (given_with c.args.given.now) types returns other)
