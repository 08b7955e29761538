-- The texts of the types of a module's dynamic flows.
-- Typing specification, "Type system concepts", on gradual types; own rule of the profile.
use Rattle.std.specs.Prelude.{◌≡◌, List, Contains}
use Rattle.std.specs.Rc.{rc_str_bytes}
use Rattle.std.specs.List.{AllByRecursion}
use Rattle.std.specs.List.Sorted.{IsStrictlySortedBy}
use Rattle.pc_source.specs.declared.place.Place.{Place}
use Rattle.pc_tree.specs.declared.code.Code.TheVariants.{A1}
use Rattle.pc_tree.specs.Code.{finding}
use Rattle.pc_tree.specs.Tree.{Module}
use Rattle.pc_types.specs.Tree.{Tree}
use Rattle.pc_annotations.specs.Text.{type_text}
use Rattle.pc_notes.specs.Texts.{FlowText, places_of, place_cmp}
use Rattle.pc_module_rules.specs.Modules.{IsFinding}
use Rattle.pc_module_rules.specs.FlowsOfModules.{FlowsDynamically}

-- the texts are those of two types, the first of which flows dynamically into the second at the place
pub record IsDynamicFlowText (m : Module) (text : FlowText) : Type 0 where
  pub from : Tree
  pub into : Tree
  pub flows : FlowsDynamically m text.0 from into
  pub from_text : rc_str_bytes text.1 ≡ type_text m from
  pub into_text : rc_str_bytes text.2 ≡ type_text m into

-- each text is that of the dynamic flow at its place; each place where A1 is found has one; the places ascend, so none
-- has two
pub record AreDynamicFlowTexts (m : Module) (texts : List FlowText) : Type 0 where
  pub each : AllByRecursion (IsDynamicFlowText m) texts
  pub all : (p : Place) → IsFinding m (finding p A1) → Contains (places_of texts) p
  pub ordered : IsStrictlySortedBy place_cmp (places_of texts)
