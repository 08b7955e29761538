use Rattle.std.proofs.Common.{List, sym, subst, arith}
use Rattle.std.proofs.lemmas.List.{take_all}
use Rattle.std.specs.Prelude.{Contains}
use Rattle.pc_tree.specs.declared.code.Finding.{Finding}
use Rattle.pc_detail_nodes.proofs.NodesByPlace.{one_empty_at}
use Rattle.pc_detail_nodes.proofs.by_place.ByPlace.of.Goals as goal

pub loop-finding-preserved : goal.loop-finding-preserved
loop-finding-preserved g c = one_empty_at c.args.findings.now c.loop-finding.finding-index _ c.loop-finding.lists
    c.insert.new.self c.new.result c.loop-finding-test.true c.new.ensures.items c.in_ok-insert.ensures.updates.0
    c.loop-finding.invariant

pub returns : goal.returns
returns g c = λ f listed. c.loop-finding.invariant f (subst (λ (l : List Finding). Contains l f)
    (sym (take_all c.loop-finding.finding-index c.args.findings.now (omega arith))) listed)
