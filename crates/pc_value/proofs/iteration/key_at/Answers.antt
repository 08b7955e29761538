use Rattle.std.proofs.Common.{sym}
use Rattle.pc_value.proofs.Views.{keys_get, keys_past}
use Rattle.pc_value.proofs.iteration.key_at.Goals as goal

pub returns-then-index-entries : goal.returns-then-index-entries
returns-then-index-entries c = sym (keys_get c.args.entries.now c.args.index c.index-entries-index.result
    c.if-index-entries.true)

pub returns-else-index-entries : goal.returns-else-index-entries
returns-else-index-entries c = sym (keys_past c.args.entries.now c.args.index c.if-index-entries.false)
