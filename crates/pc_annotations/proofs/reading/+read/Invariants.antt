use Rattle.std.proofs.Common.{◌≡◌, ◌++◌, take}
use Rattle.pc_tree.specs.Tree.{module_of}
use Rattle.pc_types.specs.Store.{KeepsTypes}
use Rattle.pc_annotations.specs.Annotations.{read_anns}
use Rattle.pc_annotations.specs.Listed.{anns_of_list, parts_findings}
use Rattle.pc_annotations.specs.Internal.TypesRead.{AreRead}
use Rattle.pc_annotations.proofs.reading.+read.Given as goal

abbrev pub invariant-read_each-loop-part : goal.invariant-read_each-loop-part
invariant-read_each-loop-part g l = record {
  read : AreRead g.S.TypeStore.has g.S.TypeStore.tree l.store l.heads.items l.types
      (read_anns (module_of l.outline.tree.now) l.outline.parents.now (anns_of_list (take l.part-index l.parts)));
  found : l.found.items ≡ l.fn.found.items ++ parts_findings (module_of l.outline.tree.now) l.outline.parents.now
      (anns_of_list (take l.part-index l.parts));
  kept : KeepsTypes g.S.TypeStore.has l.fn.store l.store;
}
