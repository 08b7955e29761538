use Rattle.std.proofs.Common.{◌≡◌, ◌++◌, map, take, drop}
use Rattle.pc_annotations.specs.Annotations.{insert_member}
use Rattle.pc_annotations.proofs.ordered.place.Given as goal

abbrev pub invariant-loop-i : goal.invariant-loop-i
invariant-loop-i g l =
    let tree = g.S.TypeStore.tree in
    insert_member (tree l.ty) (map tree l.types) ≡ map tree (take l.i l.types) ++ insert_member (tree l.ty)
    (map tree (drop l.i l.types))
