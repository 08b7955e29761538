use Rattle.std.proofs.Common.{◌≡◌, map, drop, codes}
use Rattle.pc_tree.specs.Tree.{item_of}
use Rattle.pc_tree.specs.Stopping.{is_plain_def}
use Rattle.pc_stopping.proofs.entry.has_main.Given as goal

abbrev pub invariant-loop-item : goal.invariant-loop-item
invariant-loop-item l = is_plain_def (codes "main") (map item_of (drop l.item-index l.items)) ≡ is_plain_def
    (codes "main") (map item_of l.items)
