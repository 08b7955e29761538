use Rattle.std.proofs.Common.{◌≡◌, map, fold, drop}
use Rattle.pc_scope.specs.Bindings.{texts}
use Rattle.pc_tree.specs.Lists.{name_seen}
use Rattle.pc_scope.specs.Internal.WalkViews.{locals_in, with_new_local}
use Rattle.pc_scope.proofs.locals.bind_all.Given as goal

abbrev pub invariant-loop-name : goal.invariant-loop-name
invariant-loop-name l = fold with_new_local (locals_in l.locals)
    (texts (map name_seen (drop l.name-index l.names))) ≡ fold with_new_local (locals_in l.fn.locals)
    (texts (map name_seen l.names))
