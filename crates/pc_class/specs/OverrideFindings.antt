-- The findings about overriding as computed: for each method that a class binds, its code against the ancestors'
-- methods of its name, E11, A8 or none. The computed twin of the rule on overrides; only the law `overrides_are_found`,
-- which ties it to the rule, is a reason to believe it.
-- Typing specification, "Type system concepts", assignability of callables; own rule of the profile.
use Rattle.std.specs.Prelude.{◌↔◌, ℕ, suc, List, [], ◌∷◌, ◌++◌, Bool, true, false, ◌&&◌, Option, Some, None, Contains}
use Rattle.std.specs.List.{list_all}
use Rattle.pc_source.specs.declared.place.Place.{Place}
use Rattle.pc_tree.specs.declared.code.Code.{Code}
use Rattle.pc_tree.specs.declared.code.Code.TheVariants.{E11, A8}
use Rattle.pc_tree.specs.declared.code.Finding.{Finding}
use Rattle.pc_tree.specs.Code.{finding}
use Rattle.pc_tree.specs.Tree.{ClassDef, Module}
use Rattle.pc_scope.specs.Bindings.{classes_in}
use Rattle.pc_types.specs.Below.{Bases}
use Rattle.pc_types.specs.Computed.{static_test, assignable_test}
use Rattle.pc_annotations.specs.Bases.{bases_of}
use Rattle.pc_class.specs.Facts.{Method, own_methods}
use Rattle.pc_class.specs.Overrides.{TypeFlow, has_shape_of, override_flows, overridden}
use Rattle.pc_class.specs.Findings.{ClassNumbered, IsOverride, base_class}

-- whether a flow is static
abbrev pub flow_is_static : Bases → TypeFlow → Bool
flow_is_static bases f = static_test bases f.from f.into

-- whether a flow is assignable
abbrev pub flow_is_good : Bases → TypeFlow → Bool
flow_is_good bases f = assignable_test bases f.from f.into

-- whether a method is static to the one that it overrides
abbrev pub is_static_to : Bases → Method → Method → Bool
is_static_to bases new old = has_shape_of old.parameters new.parameters
    && list_all (flow_is_static bases) (override_flows old new)

-- whether a method is good against the one that it overrides
abbrev pub is_good_to : Bases → Method → Method → Bool
is_good_to bases new old = has_shape_of old.parameters new.parameters
    && list_all (flow_is_good bases) (override_flows old new)

-- E11 if not all is good; else A8 if not all is static; else nothing
abbrev pub code_where : (good static : Bool) → Option Code
code_where false _ = Some E11
code_where true false = Some A8
code_where true true = None

-- the code of a method, judged against every ancestor's method of its name
abbrev pub override_code : Bases → List Method → Method → Option Code
override_code bases olds new =
    code_where (list_all (is_good_to bases new) olds) (list_all (is_static_to bases new) olds)

-- a code at a place, if there is one
abbrev pub override_finding : Option Code → Place → List Finding
override_finding None place = []
override_finding (Some code) place = finding place code ∷ []

-- the finding at the name of a method, given the methods that its class inherits
abbrev pub found_at_method : Bases → List Method → Method → List Finding
found_at_method bases inherited x = override_finding (override_code bases (overridden inherited x.name) x) x.place

-- the findings at the names of methods, one after another
abbrev pub found_at_methods : Bases → List Method → List Method → List Finding
found_at_methods bases inherited [] = []
found_at_methods bases inherited (x ∷ xs) = found_at_method bases inherited x ++ found_at_methods bases inherited xs

-- the findings about the methods that a class binds
abbrev pub class_overrides : Module → ℕ → ClassDef → List Finding
class_overrides m c class =
    found_at_methods (bases_of m) (base_class m c class).methods
    (own_methods m (base_class m c class) c 0 [] class.members)

-- the findings about the methods that classes bind, given the number of the first class
abbrev pub overrides_from : Module → ℕ → List ClassDef → List Finding
overrides_from m c [] = []
overrides_from m c (class ∷ rest) = class_overrides m c class ++ overrides_from m (suc c) rest

-- the findings about overriding in a module, in text order: E11, A8
unfoldable pub override_findings : Module → List Finding
override_findings m = overrides_from m 0 (classes_in m.items)

-- E11, A8: some class has a method with this finding about overriding
pub record FindsOverride (m : Module) (f : Finding) : Type 0 where
  pub c : ℕ
  pub class : ClassDef
  pub numbered : ClassNumbered m c class
  pub override : IsOverride m class c f

-- the law that the list has exactly the findings of the rule
abbrev pub OverridesAreFound : Type 0
OverridesAreFound = (m : Module) (f : Finding) → Contains (override_findings m) f ↔ FindsOverride m f
