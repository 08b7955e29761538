use Rattle.std.proofs.Common.{refl, arith}
use Rattle.pc_reader.proofs.Rows.{dicted}
use Rattle.pc_reader.proofs.items.dict.Goals as goal

pub returns-then-entries-gt64 : goal.returns-then-entries-gt64
returns-then-entries-gt64 c = rw c.node.ensures (
  refl,
  λ es k. dicted _ c.args.entries c.args.start c.args.end es k
      (λ h. absurd (omega arith)),
)

pub returns : goal.returns
returns c = rw c.node-2.ensures (refl, λ es k. dicted _ c.args.entries c.args.start c.args.end es k (λ h. refl))
