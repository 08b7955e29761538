-- The soundness law: a run that raises one of four exceptions, or leaves the profile, has evaluated a listed place.
-- Own rule of the profile.
use Rattle.std.specs.Prelude.{List, Contains}
use Rattle.pc_source.specs.declared.place.Place.{Place}
use Rattle.pc_tree.specs.declared.code.Finding.{Finding}
use Rattle.pc_tree.specs.Code.{IsError}
use Rattle.pc_tree.specs.Tree.{Module}
use Rattle.pc_module_rules.specs.Modules.{IsFinding}
use Rattle.pc_machine.specs.Runs.{Run, End, IsFaultyEnd}
use Rattle.pc_sound.specs.Silent.{HasNoSilentError}

-- no finding is an error
abbrev pub HasNoError : Module → Type 0
HasNoError m = (f : Finding) → IsFinding m f → ¬ (IsError f.code)

-- the place of a finding that is not an error is among the events
pub record HasEvaluated (m : Module) (events : List Place) : Type 0 where
  pub finding : Finding
  pub found : IsFinding m finding
  pub dynamic : ¬ (IsError finding.code)
  pub event : Contains events finding.place

-- if no finding of a module is an error, each run of it that ends in a fault has evaluated a listed dynamic place by
-- then
abbrev pub Sound : Type 0
Sound = (m : Module) → HasNoError m → (events : List Place) (end : End) → Run m events end → IsFaultyEnd end
    → HasEvaluated m events

-- the place of a finding is among the events
pub record HasEvaluatedListed (m : Module) (events : List Place) : Type 0 where
  pub finding : Finding
  pub found : IsFinding m finding
  pub event : Contains events finding.place

-- if no finding of a module is silent, each run of it that ends in a fault has evaluated a listed place by then
abbrev pub SoundBesideErrors : Type 0
SoundBesideErrors = (m : Module) → HasNoSilentError m → (events : List Place) (end : End) → Run m events end
    → IsFaultyEnd end → HasEvaluatedListed m events
