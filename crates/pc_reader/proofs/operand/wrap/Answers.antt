use Rattle.std.proofs.Common.{refl, arith}
use Rattle.pc_tree.specs.Tree.{negative, negation}
use Rattle.pc_reader.proofs.Building.{built_one}
use Rattle.pc_reader.proofs.operand.wrap.Goals as goal

pub returns-in-Minus : goal.returns-in-Minus
returns-in-Minus c = rw (c.in-Minus.is, c.node.ensures) (
  refl,
  λ p k. built_one c.args.operand p c.in_ok-inner.inner.value _ 6 c.depth_above-depth.result _ _ (λ t q. negative q t) k
      (λ t q. refl) (λ t q. refl) (λ t u q r. refl) c.depth_above-depth.ensures (λ h. let m = c.in_ok-inner.ensures.ok in
      let n = c.kept.ensures h in cc) refl,
  omega (arith, c.depth_above-depth.ensures),
)

pub returns-in-Not : goal.returns-in-Not
returns-in-Not c = rw (c.in-Not.is, c.node-in-Not.ensures) (
  refl,
  λ p k. built_one c.args.operand p c.in_ok-inner.inner.value _ 2 c.depth_above-depth.result _ _ (λ t q. negation q t) k
      (λ t q. refl) (λ t q. refl) (λ t u q r. refl) c.depth_above-depth.ensures (λ h. let m = c.in_ok-inner.ensures.ok in
      let n = c.kept.ensures h in cc) refl,
  omega (arith, c.depth_above-depth.ensures),
)
