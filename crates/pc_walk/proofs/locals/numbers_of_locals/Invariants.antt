use Rattle.pc_flow.specs.Naming.{meanings}
use Rattle.std.proofs.Common.{◌≡◌, drop, ◌++◌}
use Rattle.std.specs.Prelude.{map}
use Rattle.pc_scope.specs.Internal.WalkViews.{name_seen}
use Rattle.pc_walk.specs.Touched.{numbers_of}
use Rattle.pc_walk.proofs.locals.numbers_of_locals.Given as goal

abbrev pub invariant-loop-name : goal.invariant-loop-name
invariant-loop-name l = l.locals.items ++ numbers_of (meanings l.names) (map name_seen (drop l.name-index l.bound))
    ≡ numbers_of (meanings l.names) (map name_seen l.bound)
