use Rattle.std.proofs.Common.{◌≡◌, ◌++◌, map, drop, All}
use Rattle.pc_tree.specs.Tree.{param_of}
use Rattle.pc_types.specs.Store.{KeepsTypes}
use Rattle.pc_class.specs.Internal.Readers.{IsLentSame}
use Rattle.pc_class.specs.Annotated.{params_annotated}
use Rattle.pc_class.specs.Facts.{parameters_of}
use Rattle.pc_annotations.specs.ModuleOutlines.{module_in}
use Rattle.pc_class.specs.Tables.{HasParameter, parameters_with}
use Rattle.pc_class.proofs.reading.read_params.Given as goal

abbrev pub invariant-loop-param : goal.invariant-loop-param
invariant-loop-param g l = record {
  same : IsLentSame l.fn.reader l.reader;
  store : KeepsTypes g.S.TypeStore.has l.fn.reader.store.now l.reader.store.now;
  given : All (HasParameter (g.S.TypeStore.has l.reader.store.now)) l.all.items;
  means : parameters_with g.S.TypeStore.tree l.all.items ++ parameters_of (module_in l.outline)
      (map param_of (drop l.param-index l.params)) ≡ parameters_of (module_in l.outline) (map param_of l.params);
  found : l.reader.found.now.items ++ params_annotated (module_in l.outline)
      (map param_of (drop l.param-index l.params)) ≡ l.fn.reader.found.now.items ++ params_annotated
      (module_in l.outline) (map param_of l.params);
}
