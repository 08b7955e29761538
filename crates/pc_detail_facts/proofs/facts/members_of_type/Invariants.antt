use Rattle.std.proofs.Common.{◌≡◌, ◌++◌, All}
use Rattle.pc_types.specs.Boxed.{tree_of, IsGiven}
use Rattle.pc_types.specs.Shape.{members}
use Rattle.pc_detail_facts.specs.Held.{IsGivenLent, trees_lent}
use Rattle.pc_detail_facts.proofs.facts.members_of_type.Given as goal

abbrev pub invariant-down : goal.invariant-down
invariant-down l = record {
  trees : trees_lent l.members.items ++ members (tree_of l.rest) ≡ members (tree_of l.ty);
  given : All IsGivenLent l.members.items;
  left : IsGiven l.rest;
}
