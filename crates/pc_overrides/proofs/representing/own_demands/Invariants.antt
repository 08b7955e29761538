use Rattle.std.proofs.Common.{◌≡◌}
use Rattle.std.specs.List.{list_all}
use Rattle.pc_types.specs.Tree.{Tree}
use Rattle.pc_types.specs.Below.{Bases}
use Rattle.pc_class.specs.Facts.{Method}
use Rattle.pc_class.specs.Tables.{IsMethod, method_with}
use Rattle.pc_overrides.specs.declared.known.Judging.{Judging}
use Rattle.pc_overrides.specs.declared.overriding.Relation.{Relation}
use Rattle.pc_overrides.specs.Internal.OverrideTests.{meets_demand}
use Rattle.pc_overrides.specs.Internal.Representing.{AreListed}
use Rattle.pc_overrides.proofs.Parts.{meets_first}
use Rattle.pc_overrides.proofs.representing.own_demands.Given as goal

abbrev pub invariant-loop-part : goal.invariant-loop-part
invariant-loop-part g l = record {
  own : (tree : g.row.Ty.Denot → Tree) (relation : Relation) (bases : Bases) (z : Method)
      → list_all (meets_demand tree relation bases z) l.own.items
      ≡ meets_first relation bases z (method_with tree l.method) l.part;
  listed : (tree : g.row.Ty.Denot → Tree) (s : Judging g.row.Ty.Denot) → IsMethod s.classes.now l.method
      → AreListed tree s l.own.items;
}
