use Rattle.std.proofs.Common.{◌∙◌, ap, arith}
use Rattle.std.proofs.lemmas.List.{take_all}
use Rattle.std.specs.BTreeMap.{get, is_at}
use Rattle.std.specs.Map.{lookup}
use Rattle.std.specs.Option.{option_map}
use Rattle.std.specs.List.{list_any}
use Rattle.pc_detail_texts.specs.Shown.{detail_of_value}
use Rattle.pc_name_details.specs.Offered.{finding_cmp, is_same_finding, is_wanted, kept_of}
use Rattle.pc_name_details.proofs.FindingsKept.{wanted_next}
use Rattle.pc_name_details.proofs.offers.Offers.of.Goals as goal

pub loop-finding-preserved : goal.loop-finding-preserved
loop-finding-preserved c = wanted_next tt (get finding_cmp c.loop-finding.wanted) (get finding_cmp c.insert.new.self)
    c.args.findings.now c.loop-finding.finding-index _ c.loop-finding-test.true c.loop-finding.invariant
    c.in_ok-insert.ensures.updates.0

pub returns-clause-wanted : goal.returns-clause-wanted
unfolding is_wanted
returns-clause-wanted c = λ q. c.loop-finding.invariant q ∙ ap (list_any (is_same_finding q))
    (take_all c.loop-finding.finding-index c.args.findings.now (omega arith))

pub returns-clause-kept : goal.returns-clause-kept
unfolding kept_of
returns-clause-kept c = λ q. ap (λ es. option_map detail_of_value (lookup (is_at (finding_cmp q)) es))
    c.new-kept.ensures.empty
