use Rattle.std.proofs.Common.{◌≡◌, ◌++◌, length, map}
use Rattle.std.specs.List.{AllByRecursion}
use Rattle.std.specs.Vec.Iter.{into_iter_items, into_iter_len}
use Rattle.pc_top.specs.declared.detailed.PlacedDetail.{PlacedDetail}
use Rattle.pc_top.specs.DetailedBytes.{HasOtherPositions}
use Rattle.pc_top.proofs.detailed.placed.Given as goal

abbrev pub invariant-loop-detailed : goal.invariant-loop-detailed
invariant-loop-detailed l = (l.yielded ++ into_iter_items l.detailed-iterator ≡ l.fn.details.items)
    × (map (λ (p : PlacedDetail). p.detailed) l.placed.items ≡ l.yielded)
    × (into_iter_len l.detailed-iterator ≡ length (into_iter_items l.detailed-iterator))
    × AllByRecursion (HasOtherPositions l.source) l.placed.items
