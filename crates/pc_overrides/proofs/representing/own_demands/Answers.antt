use Rattle.std.proofs.Common.{◌∙◌, ◌+◌, ◌≤◌, ◌&&◌, length, sym, ap, subst}
use Rattle.pc_class.specs.Tables.{method_with}
use Rattle.pc_overrides.specs.Internal.OverrideTests.{meets, meets_demand}
use Rattle.pc_overrides.proofs.Demands.{one_tested_more, listed_push}
use Rattle.pc_overrides.proofs.Parts.{one_part_more, all_given}
use Rattle.pc_overrides.proofs.representing.own_demands.Goals as goal

pub loop-part-preserved : goal.loop-part-preserved
loop-part-preserved g c =
    let xs = c.loop-part.own.items in
    let part = c.loop-part.part in record {
      own = λ tree relation bases z.
          one_tested_more (meets_demand tree relation bases z) xs _ _ c.in_ok-push.ensures.items
          ∙ ap (λ b. b && meets relation bases z (method_with tree c.args.method.now) part)
          (c.loop-part.invariant.own tree relation bases z)
          ∙ sym (one_part_more relation bases z (method_with tree c.args.method.now) part);
      listed = λ tree s is. listed_push tree s xs _ _ c.in_ok-push.ensures.items
          (c.loop-part.invariant.listed tree s is) is;
    }

pub returns-clause-own : goal.returns-clause-own
returns-clause-own g c =
    let past = subst (λ xs. length xs + 1 ≤ c.loop-part.part) c.as_slice.ensures c.loop-part-test.false in
    let within = subst (λ xs. c.loop-part.part ≤ length xs + 1) c.as_slice.ensures c.loop-part.auto.part-end in
    λ tree relation bases z. c.loop-part.invariant.own tree relation bases z
    ∙ all_given tree relation bases z c.args.method.now c.loop-part.part past within
