use Rattle.std.proofs.Common.{◌≡◌, drop, map}
use Rattle.std.specs.Prelude.{bytes_eq, codes, find}
use Rattle.pc_tree.specs.Stopping.{name_of_item}
use Rattle.pc_tree.specs.Tree.{item_of}
use Rattle.pc_name_details.proofs.module_names.main_fault.Given as goal

abbrev pub invariant-loop-item : goal.invariant-loop-item
invariant-loop-item l =
    find (λ i. bytes_eq (codes "main") (name_of_item i).text) (map item_of (drop l.item-index l.item-items))
    ≡ find (λ i. bytes_eq (codes "main") (name_of_item i).text) (map item_of l.item-items)
