-- Runs of the module that bytes spell. Own rule of the profile.
use Rattle.std.specs.Prelude.{ℕ, List}
use Rattle.pc_source.specs.declared.place.Place.{Place}
use Rattle.pc_tree.specs.Tree.{Module}
use Rattle.pc_machine.specs.Runs.{End, PlainRun}
use Rattle.pc_front.specs.Bytes.{IsModuleOf}

-- the bytes spell a module whose plain run, with that fuel and these choices, has these events and this end
pub record RunsPlainly (bytes : List ℕ) (fuel : ℕ) (choices : List ℕ) (events : List Place) (end : End) : Type 0 where
  pub program : Module
  pub spelled : IsModuleOf bytes program
  pub runs : PlainRun program fuel choices events end
