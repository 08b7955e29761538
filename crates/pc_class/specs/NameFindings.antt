-- The findings about classes by names: E07 and E08, each with its class.
-- Own rules of the profile.
use Rattle.std.specs.Prelude.{◌↔◌, ℕ, Contains}
use Rattle.std.specs.List.{list_any}
use Rattle.pc_tree.specs.declared.code.Code.TheVariants.{E06, E07, E08}
use Rattle.pc_tree.specs.declared.code.Finding.{Finding}
use Rattle.pc_tree.specs.Tree.{ClassDef, Module}
use Rattle.pc_scope.specs.Bindings.{classes_in}
use Rattle.pc_tree.specs.Code.{at_code}
use Rattle.pc_annotations.specs.Bases.{bases_of}
use Rattle.pc_class.specs.Facts.{TypedParameter}
use Rattle.pc_class.specs.Entries.{inherited_by, class_entries, clash_places, late_places, missing_bases}
use Rattle.pc_class.specs.Built.{class_findings}
use Rattle.pc_class.specs.Findings.{ClassNumbered, HasNoBase, IsFieldBehind, base_class}

-- E07: some class names a base that is no earlier class
pub record FindsBase (m : Module) (f : Finding) : Type 0 where
  pub c : ℕ
  pub class : ClassDef
  pub numbered : ClassNumbered m c class
  pub none : HasNoBase m class c f

-- the law that the missing bases of a module are exactly those that the rule finds
abbrev pub BasesAreFound : Type 0
BasesAreFound = (m : Module) (f : Finding)
    → Contains (at_code E07 (missing_bases (bases_of m) 0 (classes_in m.items))) f ↔ FindsBase m f

-- the law that the late fields of a class are exactly those that the rule finds
abbrev pub LateFieldsAreFound : Type 0
LateFieldsAreFound = (m : Module) (c : ℕ) (class : ClassDef) (f : Finding)
    → Contains (at_code E08 (late_places
    (list_any (λ (p : TypedParameter). p.has_default) (base_class m c class).fields)
    (class_entries (inherited_by (base_class m c class)) class))) f ↔ IsFieldBehind m class c f

-- the findings about the classes of a module by names alone: E07, E06 by the entries of the classes, E08
pub data NamesFind (m : Module) (f : Finding) : Type 0 where
  base : FindsBase m f → NamesFind m f
  clash : (c : ℕ) (class : ClassDef) → ClassNumbered m c class
      → Contains (at_code E06 (clash_places (class_entries (inherited_by (base_class m c class)) class))) f
      → NamesFind m f
  order : (c : ℕ) (class : ClassDef) → ClassNumbered m c class → IsFieldBehind m class c f → NamesFind m f

-- the law that the list of findings made while building a class table has exactly those
abbrev pub ClassFindingsAreListed : Type 0
ClassFindingsAreListed = (m : Module) (f : Finding) → Contains (class_findings m) f ↔ NamesFind m f
