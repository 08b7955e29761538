use Rattle.std.proofs.Common.{◌≡◌, map, fold, drop}
use Rattle.pc_tree.specs.Tree.{param_of}
use Rattle.pc_scope.specs.Bindings.{texts, param_names}
use Rattle.pc_scope.specs.Internal.WalkViews.{locals_in, with_new_local}
use Rattle.pc_scope.proofs.locals.bind_parameters.Given as goal

abbrev pub invariant-loop-param : goal.invariant-loop-param
invariant-loop-param l = fold with_new_local (locals_in l.locals)
    (texts (param_names (map param_of (drop l.param-index l.params)))) ≡ fold with_new_local
    (locals_in l.fn.locals) (texts (param_names (map param_of l.params)))
