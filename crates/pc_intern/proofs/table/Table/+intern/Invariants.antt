use Rattle.std.proofs.Common.{◌≡◌, ◌+◌, ◌*◌, map, take, Some}
use Rattle.pc_types.specs.Shape.{nodes, nodes_of}
use Rattle.pc_types.specs.Boxed.{tree_of, trees_in}
use Rattle.pc_intern.specs.Table.{tree_at, Grows}
use Rattle.pc_intern.proofs.table.Table.+intern.Given as goal

abbrev pub decreases-intern : goal.decreases-intern
decreases-intern l = 3 * nodes (tree_of l.ty.now) + 1

abbrev pub decreases-intern_parts : goal.decreases-intern_parts
decreases-intern_parts l = 3 * nodes (tree_of l.ty.now)

abbrev pub decreases-intern_each : goal.decreases-intern_each
decreases-intern_each l = 3 * nodes_of (trees_in l.types.now) + 2

abbrev pub decreases-intern_members : goal.decreases-intern_members
decreases-intern_members l = 3 * nodes (tree_of l.ty.now) + 2

abbrev pub invariant-intern_each-loop-ty : goal.invariant-intern_each-loop-ty
invariant-intern_each-loop-ty l = record {
  grown : Grows l.fn.self l.self;
  numbers : map (tree_at l.self) l.numbers.items ≡ map Some (map tree_of (take l.ty-index l.types));
}
