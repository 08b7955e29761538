-- Laws of the plain runs of a module.
-- Own rule of the profile.
use Rattle.std.specs.Prelude.{◌≡◌, ◌⊎◌, ◌++◌, ℕ, ◌≤◌, List}
use Rattle.pc_source.specs.declared.place.Place.{Place}
use Rattle.pc_tree.specs.Tree.{Module}
use Rattle.pc_value.specs.Value.{Cut}
use Rattle.pc_machine.specs.Runs.{End, stopped, PlainRun}

-- two runs have the same events, in the same order, and the same end
abbrev pub AreOneRun : List Place → End → List Place → End → Type 0
AreOneRun events end others last = (events ≡ others) × (end ≡ last)

-- any two plain runs of a module for the same fuel and choices are the same
abbrev pub OnePlainRun : Type 0
OnePlainRun = (m : Module) (fuel : ℕ) (choices : List ℕ) (events others : List Place) (end last : End)
    → PlainRun m fuel choices events end → PlainRun m fuel choices others last → AreOneRun events end others last

-- a module has a plain run for this fuel and these choices
pub record HasPlainRun (m : Module) (fuel : ℕ) (choices : List ℕ) : Type 0 where
  pub events : List Place
  pub end : End
  pub runs : PlainRun m fuel choices events end

-- each module has a plain run for each fuel and choices
abbrev pub EveryModuleRunsPlainly : Type 0
EveryModuleRunsPlainly = (m : Module) (fuel : ℕ) (choices : List ℕ) → HasPlainRun m fuel choices

-- the first events are a prefix of the others
pub record IsBeginning (events others : List Place) : Type 0 where
  pub rest : List Place
  pub is : others ≡ events ++ rest

-- the events of one run are a prefix of the other's, and it is cut off or both are the same
abbrev pub BeginsAs : List Place → End → List Place → End → Type 0
BeginsAs events end others last = IsBeginning events others × ((end ≡ stopped Cut) ⊎ AreOneRun events end others last)

-- a plain run is a prefix of the one with more fuel and the same choices
abbrev pub LessFuelGivesABeginning : Type 0
LessFuelGivesABeginning = (m : Module) (less more : ℕ) (choices : List ℕ) (events others : List Place) (end last : End)
    → less ≤ more → PlainRun m less choices events end → PlainRun m more choices others last
    → BeginsAs events end others last
