use Rattle.std.proofs.Common.{◌≡◌, ◌<◌, ◌≤◌, ℕ, drop, map}
use Rattle.pc_tree.specs.Tree.{item_of}
use Rattle.pc_run.specs.Internal.Items.{module_items_in}
use Rattle.pc_machine.specs.Machine.{progress_of}
use Rattle.pc_run.proofs.items.run_items.Given as goal

abbrev pub invariant-loop-item : goal.invariant-loop-item
invariant-loop-item l = record {
  fuel : l.machine.fuel ≤ l.fn.machine.fuel;
  run : (n : ℕ) → l.fn.machine.fuel < n → module_items_in n l.imports_dataclass (map item_of l.items)
      (progress_of l.fn.machine) ≡ module_items_in n l.imports_dataclass (map item_of (drop l.item-index l.items))
      (progress_of l.machine);
}
