use Rattle.std.proofs.Common.{refl}
use Rattle.pc_tree.specs.Tree.{attribute, name_of}
use Rattle.pc_reader.proofs.Building.{built_one}
use Rattle.pc_reader.proofs.operand.member.Goals as goal

pub returns : goal.returns
returns c = rw c.node.ensures (
  refl,
  λ p k. built_one c.args.operand p c.in_ok-inner.inner.value _ 7 c.depth_above-depth.result _ _
      (λ t q. attribute q t (name_of c.args.name)) k
      (λ t q. refl) (λ t q. refl) (λ t u q r. refl) c.depth_above-depth.ensures (λ h. let m = c.in_ok-inner.ensures.ok in
      let n = c.kept.ensures h in cc) refl,
)
