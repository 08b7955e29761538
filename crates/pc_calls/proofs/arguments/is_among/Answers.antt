use Rattle.std.proofs.Common.{◌∙◌}
use Rattle.pc_scope.proofs.TextSets.{among}
use Rattle.pc_calls.proofs.arguments.is_among.Goals as goal

pub returns : goal.returns
returns c = c.contains.ensures ∙ among (λ k. k.now) c.args.name.now c.args.names.now.keys
