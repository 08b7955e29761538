use Rattle.std.proofs.Common.{◌∙◌}
use Rattle.std.specs.Prelude.{string_bytes}
use Rattle.pc_scope.proofs.TextSets.{among}
use Rattle.pc_class.proofs.entries.is_among.Goals as goal

pub returns : goal.returns
returns c = c.contains.ensures ∙ among string_bytes c.args.name.now c.args.before.now.keys
