use Rattle.std.proofs.Common.{◌≡◌, All, map, take}
use Rattle.pc_types.specs.Boxed.{tree_of, IsGiven}
use Rattle.pc_intern.specs.Store.{tree_of_type}
use Rattle.pc_intern.proofs.store.InternStore.boxes.Given as goal

abbrev pub invariant-loop-ty : goal.invariant-loop-ty
invariant-loop-ty l = record {
  given : All IsGiven l.boxes.items;
  same : map tree_of l.boxes.items ≡ map tree_of_type (take l.ty-index l.types);
}
