use Rattle.std.proofs.Common.{refl}
use Rattle.pc_reader.proofs.Rows.{called}
use Rattle.pc_reader.proofs.items.called.Goals as goal

pub returns : goal.returns
returns c = rw c.node-2.ensures (
  refl,
  λ p es ks kp ki kj. called c.args.callee c.in_ok-inner.inner _ _ c.args.items c.args.keywords c.deeper-depth.result _
      _ p es ks kp ki kj (let a = c.deeper.ensures in let b = c.deeper-depth.ensures in let d = c.depth_above.ensures in cc)
      (λ h. let m = c.in_ok-inner.ensures.ok in let n = c.kept.ensures h in cc) (λ h. refl) (λ h. refl),
)
