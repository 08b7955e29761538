use Rattle.std.proofs.Common.{refl}
use Rattle.pc_tree.specs.Tree.{is_none, is_not_none}
use Rattle.pc_reader.proofs.Building.{built_one}
use Rattle.pc_reader.proofs.operand.none_test.Goals as goal

pub returns-then-negated : goal.returns-then-negated
returns-then-negated c = rw (c.if-negated.true, c.node.ensures) (
  refl,
  λ p k. built_one c.args.operand p c.in_ok-inner.inner.value _ 3 c.depth_above-depth.result _ _ (λ t q. is_not_none q t) k
      (λ t q. refl) (λ t q. refl) (λ t u q r. refl) c.depth_above-depth.ensures (λ h. let m = c.in_ok-inner.ensures.ok in
      let n = c.kept.ensures h in cc) refl,
)

pub returns : goal.returns
returns c = rw (c.if-negated.false, c.node-2.ensures) (
  refl,
  λ p k. built_one c.args.operand p c.in_ok-inner.inner.value _ 3 c.depth_above-depth.result _ _ (λ t q. is_none q t) k
      (λ t q. refl) (λ t q. refl) (λ t u q r. refl) c.depth_above-depth.ensures (λ h. let m = c.in_ok-inner.ensures.ok in
      let n = c.kept.ensures h in cc) refl,
)
