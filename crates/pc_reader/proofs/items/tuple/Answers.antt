use Rattle.std.proofs.Common.{refl, arith}
use Rattle.pc_reader.proofs.Rows.{tupled}
use Rattle.pc_reader.proofs.items.tuple.Goals as goal

pub returns-then-items-gt64 : goal.returns-then-items-gt64
returns-then-items-gt64 c = rw c.node.ensures (
  refl,
  λ es k. tupled _ c.args.items c.args.start c.args.end es k
      (λ h. absurd (omega arith)),
)

pub returns : goal.returns
returns c = rw c.node-2.ensures (refl, λ es k. tupled _ c.args.items c.args.start c.args.end es k (λ h. refl))
