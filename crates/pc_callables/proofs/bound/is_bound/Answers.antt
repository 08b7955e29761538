use Rattle.std.proofs.Common.{◌∙◌}
use Rattle.std.specs.Prelude.{string_bytes}
use Rattle.pc_scope.proofs.TextSets.{among}
use Rattle.pc_callables.proofs.bound.is_bound.Goals as goal

pub returns : goal.returns
returns c = c.contains.ensures ∙ among string_bytes c.args.name.now c.args.bound.now.keys
