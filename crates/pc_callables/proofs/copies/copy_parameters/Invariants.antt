use Rattle.std.proofs.Common.{◌≡◌, ◌++◌, All, drop}
use Rattle.pc_class.specs.Tables.{HasParameter, parameters_with}
use Rattle.pc_callables.proofs.copies.copy_parameters.Given as goal

abbrev pub invariant-loop-parameter : goal.invariant-loop-parameter
invariant-loop-parameter g l = record {
  given : All (HasParameter (g.S.TypeStore.has l.store)) l.all.items;
  are : parameters_with g.S.TypeStore.tree l.all.items ++ parameters_with g.S.TypeStore.tree
      (drop l.parameter-index l.parameters) ≡ parameters_with g.S.TypeStore.tree l.parameters;
}
