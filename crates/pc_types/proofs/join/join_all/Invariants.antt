use Rattle.std.proofs.Common.{◌≡◌, drop, map}
use Rattle.pc_types.specs.JoinedTypes.{joined_onto, types_joined}
use Rattle.pc_types.specs.Boxed.{tree_of, IsGiven}
use Rattle.pc_types.proofs.join.join_all.Given as goal

abbrev pub invariant-loop-ty : goal.invariant-loop-ty
invariant-loop-ty l = record {
  given : IsGiven l.joined;
  type : joined_onto l.parents (tree_of l.joined) (drop l.ty-index (map tree_of l.types))
      ≡ types_joined l.parents (map tree_of l.types);
}
