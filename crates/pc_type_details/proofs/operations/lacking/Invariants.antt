use Rattle.std.proofs.Common.{◌≡◌, take, All}
use Rattle.std.specs.Prelude.{filter}
use Rattle.pc_detail_facts.specs.Held.{IsGivenLent, trees_lent}
use Rattle.pc_type_details.specs.Unsupported.{lacks}
use Rattle.pc_type_details.proofs.operations.lacking.Given as goal

abbrev pub invariant-loop-member : goal.invariant-loop-member
invariant-loop-member l = record {
  trees : trees_lent l.lacking.items ≡ filter (lacks l.operation) (trees_lent (take l.member-index l.member-items));
  given : All IsGivenLent l.lacking.items;
}
