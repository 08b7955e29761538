-- The findings about classes, as lists: by names, E06, E07 and E08, and by overriding, E11 and A8.
-- Own rules of the profile.
use Rattle.std.specs.Prelude.{◌≡◌, ◌↔◌, ◌⊎◌, ℕ, suc, List, [], ◌∷◌, ◌++◌, Contains}
use Rattle.pc_source.specs.declared.place.Place.{Place}
use Rattle.pc_tree.specs.declared.code.Finding.{Finding}
use Rattle.pc_tree.specs.Stopping.{clashing_members}
use Rattle.pc_tree.specs.Tree.{ClassDef, Module}
use Rattle.pc_scope.specs.Bindings.{classes_in}
use Rattle.pc_class.specs.Entries.{inherited_by, class_entries, clash_places}
use Rattle.pc_class.specs.Findings.{ClassFinds, base_class}
use Rattle.pc_class.specs.Built.{class_findings}
use Rattle.pc_class.specs.OverrideFindings.{override_findings}

-- the names of members that clash in classes, by the facts of the class that each base's number means, given the number
-- of the first class
abbrev pub clashes_from : Module → ℕ → List ClassDef → List Place
clashes_from m c [] = []
clashes_from m c (class ∷ rest) = clash_places (class_entries (inherited_by (base_class m c class)) class)
    ++ clashes_from m (suc c) rest

-- the law that these are, in the same order, the clashing members that stop a run, which are found by the names of
-- bases among earlier items
abbrev pub ClashesStop : Type 0
ClashesStop = (m : Module) → clashing_members m ≡ clashes_from m 0 (classes_in m.items)

-- the law that the two lists together are exactly the findings about classes
abbrev pub ClassesFindJustTheirLists : Type 0
ClassesFindJustTheirLists = (m : Module) (f : Finding)
    → (Contains (class_findings m) f ⊎ Contains (override_findings m) f) ↔ ClassFinds m f
