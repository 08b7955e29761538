use Rattle.std.proofs.Common.{refl}
use Rattle.pc_tree.specs.Tree.{index}
use Rattle.pc_reader.proofs.Building.{built_two}
use Rattle.pc_reader.proofs.operand.indexed.Goals as goal

pub returns : goal.returns
returns c = rw c.node.ensures (
  refl,
  λ p k kp kk. built_two c.args.operand c.args.key p k c.in_ok-object.object.value c.in_ok-inner.inner.value _ 7
      c.depth_above-depth.result _ _
      (λ t u q. index q t u) kp kk (λ t u q. refl) (λ t u q. refl) (λ t u v w q r. refl)
      (let q = c.deeper.ensures in let d = c.depth_above-depth.ensures in cc)
      (λ h. let m = c.in_ok-object.ensures.ok in let n = c.kept.ensures h in cc)
      (λ h. let m = c.in_ok-inner.ensures.ok in let n = c.kept-2.ensures h in cc) refl,
)
