use Rattle.std.proofs.Common.{All}
use Rattle.pc_class.specs.Tables.{classes_with}
use Rattle.pc_rules.specs.Operations.{attribute_member}
use Rattle.pc_operations.proofs.AttributesRead.{AreRead}
use Rattle.pc_operations.proofs.fields.field_types.Given as goal

abbrev pub invariant-loop-i : goal.invariant-loop-i
invariant-loop-i g l = record {
  held : All (g.S.TypeStore.has l.store) l.types.items;
  read : AreRead g.S.TypeStore.tree (attribute_member (classes_with g.S.TypeStore.tree l.classes) l.name)
      l.members.items l.i l.types.items;
}
