use Rattle.std.proofs.Common.{◌∙◌, sym, ap}
use Rattle.pc_source.specs.declared.place.Place.{Place}
use Rattle.pc_grammar.specs.Machine.Expressions.{infix_tree}
use Rattle.pc_reader.specs.Internal.Operands.{infix_of}
use Rattle.pc_reader.proofs.Building.{built_two, infix_place, infix_depth, infix_form}
use Rattle.pc_reader.proofs.operand.join_operands.Goals as goal

pub returns : goal.returns
returns c = rw c.node.ensures (
  c.level.ensures,
  λ l r kl kr. built_two c.args.left c.args.right l r c.in_ok-first.first.value c.in_ok-second.second.value
      c.node-expr.result _ c.depth_above-depth.result _ _
      (infix_tree (infix_of c.args.operator)) kl kr
      (λ t u q. ap (λ (z : Place). z.start) (infix_place (infix_of c.args.operator) t u q))
      (infix_depth (infix_of c.args.operator)) (λ t u v w q s. infix_form (infix_of c.args.operator) t u q
      ∙ sym (infix_form (infix_of c.args.operator) v w s))
      (let q = c.deeper.ensures in let d = c.depth_above-depth.ensures in cc)
      (λ h. let m = c.in_ok-first.ensures.ok in let n = c.kept.ensures h in cc)
      (λ h. let m = c.in_ok-second.ensures.ok in let n = c.kept-2.ensures h in cc) c.node-expr.ensures,
)
