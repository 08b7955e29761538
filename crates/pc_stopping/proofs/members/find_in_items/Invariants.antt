use Rattle.std.proofs.Common.{◌≡◌, ◌++◌, [], map, take, drop, reverse}
use Rattle.pc_tree.specs.declared.code.Code.TheVariants.{E06}
use Rattle.pc_tree.specs.Tree.{item_of}
use Rattle.pc_tree.specs.Stopping.{clashing_in}
use Rattle.pc_tree.specs.Code.{at_code}
use Rattle.pc_stopping.specs.Members.{HoldsTables}
use Rattle.pc_stopping.proofs.members.find_in_items.Given as goal

abbrev pub invariant-loop-item : goal.invariant-loop-item
invariant-loop-item l = record {
  stands : HoldsTables l.holdings l.bound (reverse (map item_of (take l.item-index l.items)));
  found : l.found.items ++ at_code E06 (clashing_in (reverse (map item_of (take l.item-index l.items)))
      (map item_of (drop l.item-index l.items))) ≡ l.fn.found.items ++ at_code E06
      (clashing_in [] (map item_of l.items));
}
