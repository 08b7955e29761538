use Rattle.std.proofs.Common.{◌≡◌, take}
use Rattle.std.specs.Prelude.{is_some}
use Rattle.std.specs.BTreeMap.{get}
use Rattle.std.specs.List.{list_any}
use Rattle.pc_tree.specs.declared.code.Finding.{Finding}
use Rattle.pc_name_details.specs.Offered.{finding_cmp, is_same_finding}
use Rattle.pc_name_details.proofs.offers.Offers.of.Given as goal

abbrev pub invariant-loop-finding : goal.invariant-loop-finding
invariant-loop-finding l = (q : Finding)
    → is_some (get finding_cmp l.wanted q) ≡ list_any (is_same_finding q) (take l.finding-index l.findings)
