-- The guarantee of a list of findings about the runs of a module, when errors are among them.
use Rattle.std.specs.Prelude.{List, Contains}
use Rattle.pc_source.specs.declared.place.Place.{Place}
use Rattle.pc_tree.specs.declared.code.Finding.{Finding}
use Rattle.pc_tree.specs.Tree.{Module}
use Rattle.pc_machine.specs.Runs.{Run, End, IsFaultyEnd}
use Rattle.pc_sound.specs.Silent.{IsSilent}

-- none of these findings is silent in the module
abbrev pub HasNoSilentOf : Module → List Finding → Type 0
HasNoSilentOf m found = (f : Finding) → Contains found f → ¬ (IsSilent m f)

-- the place of one of these findings is among the events
pub record HasEvaluatedOneOf (found : List Finding) (events : List Place) : Type 0 where
  pub finding : Finding
  pub listed : Contains found finding
  pub event : Contains events finding.place

-- if none of these findings is silent, each run of the module that ends in a fault has evaluated the place of one of
-- them by then
abbrev pub AreSoundBesideErrors : Module → List Finding → Type 0
AreSoundBesideErrors m found = HasNoSilentOf m found → (events : List Place) (end : End) → Run m events end
    → IsFaultyEnd end → HasEvaluatedOneOf found events
