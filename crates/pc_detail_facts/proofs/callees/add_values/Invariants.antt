use Rattle.std.proofs.Common.{◌≡◌, ◌++◌, map, take, All}
use Rattle.std.specs.Prelude.{flat_map}
use Rattle.pc_detail_facts.specs.Callees.{IsHeldCalled, called_of}
use Rattle.pc_detail_rules.specs.Calls.{value_called}
use Rattle.pc_detail_facts.specs.Held.{trees_lent}
use Rattle.pc_detail_facts.proofs.callees.add_values.Given as goal

abbrev pub invariant-loop-member : goal.invariant-loop-member
invariant-loop-member l = record {
  called : map (called_of l.facts) l.called.items ≡ map (called_of l.facts) l.initial.called.items
      ++ flat_map value_called (trees_lent (take l.member-index l.member-items));
  held : All IsHeldCalled l.called.items;
}
