use Rattle.std.proofs.Common.{◌≡◌, drop, map}
use Rattle.pc_types.specs.Boxed.{tree_of}
use Rattle.pc_types.specs.JoinedTypes.{joined_onto, types_joined}
use Rattle.pc_intern.specs.Store.{tree_of_type, IsGathered}
use Rattle.pc_intern.proofs.store.InternStore.boxes_joined.Given as goal

abbrev pub invariant-loop-ty : goal.invariant-loop-ty
invariant-loop-ty l = record {
  gathered : IsGathered l.parents l.self l.gathered;
  type : joined_onto l.parents (tree_of l.gathered.joined) (drop l.ty-index (map tree_of_type l.types))
      ≡ types_joined l.parents (map tree_of_type l.types);
}
