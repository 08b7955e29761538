-- The laws of details of the modules that texts spell. Own rule of the profile.
use Rattle.std.specs.Prelude.{ℕ, List}
use Rattle.pc_source.specs.declared.place.Place.{Place}
use Rattle.pc_tree.specs.declared.code.Code.{Code}
use Rattle.pc_tree.specs.declared.code.Code.TheVariants.{E09, E10, E14}
use Rattle.pc_tree.specs.declared.code.Finding.{Finding}
use Rattle.pc_tree.specs.Code.{finding}
use Rattle.pc_tree.specs.Tree.{Module}
use Rattle.pc_module_rules.specs.Modules.{IsFinding}
use Rattle.pc_front.specs.Bytes.{IsModuleOf}
use Rattle.pc_detail_rules.specs.Laws.{HasOwnPlaces, HasOwnNames, AreShown, HasDetail, HasMisfit}

-- each expression, and each name of a function or method, has a place of its own
pub record HasOwn (m : Module) : Type 0 where
  pub places : HasOwnPlaces m
  pub names : HasOwnNames m

-- the law that it is so in each module that a text spells
abbrev pub TextsHaveOwnPlaces : Type 0
TextsHaveOwnPlaces = (bytes : List ℕ) (m : Module) → IsModuleOf bytes m → HasOwn m

-- the condition under which a finding of a text with this code has a detail: of E09 and E10, which write types out
abbrev pub IsShownFor : Module → Code → Type 0
IsShownFor m E09 = AreShown m
IsShownFor m E10 = AreShown m
IsShownFor m c = Unit {0}

-- the law that each finding of a module that a text spells has a detail
abbrev pub EveryFindingOfTextsIsExplained : Type 0
EveryFindingOfTextsIsExplained = (bytes : List ℕ) (m : Module) (f : Finding) → IsModuleOf bytes m
    → IsShownFor m f.code → IsFinding m f → HasDetail m f

-- the law that where E14 is found in a module that a text spells there is a misfit
abbrev pub WrongCallsOfTextsHaveMisfits : Type 0
WrongCallsOfTextsHaveMisfits = (bytes : List ℕ) (m : Module) (p : Place) → IsModuleOf bytes m
    → IsFinding m (finding p E14) → HasMisfit m p
