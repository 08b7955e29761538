-- The base of each class: an earlier class of the module.
-- Language Reference 3.12, 8.8 "Class definitions"; that a base comes before its class is an own rule of the profile.
use Rattle.std.specs.Prelude.{ℕ, suc, List, [], ◌∷◌, nat_lt, if◌then◌else◌, Option, Some, None}
use Rattle.pc_tree.specs.Tree.{Name, ClassDef, Module}
use Rattle.pc_scope.specs.declared.resolution.NameMeaning.{NameMeaning}
use Rattle.pc_scope.specs.declared.resolution.NameMeaning.TheVariants as meaning
use Rattle.pc_scope.specs.Bindings.{classes_in}
use Rattle.pc_scope.specs.Resolution.{resolve_in_module}
use Rattle.pc_types.specs.Below.{Bases}

-- a class before the one with this number
abbrev pub earlier_class : ℕ → NameMeaning → Option ℕ
earlier_class c (meaning.Class b) = if nat_lt b c then Some b else None
earlier_class c _ = None

-- the number of the earlier class that the name of a base means, if there is one
abbrev pub base_named : Module → ℕ → Option Name → Option ℕ
base_named m c None = None
base_named m c (Some n) = earlier_class c (resolve_in_module m n.text)

-- the bases of classes, given the number of the first
abbrev pub bases_from : Module → ℕ → List ClassDef → Bases
bases_from m c [] = []
bases_from m c (class ∷ rest) = base_named m c class.base ∷ bases_from m (suc c) rest

-- for each class of the module the number of its base, or none if it names no earlier class
unfoldable pub bases_of : Module → Bases
bases_of m = bases_from m 0 (classes_in m.items)
