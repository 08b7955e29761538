-- Arguments that match parameters. Own rule of the profile.
use Rattle.std.specs.Prelude.{◌≡◌, List, [], ◌∷◌, Option, Some, None, true}
use Rattle.pc_scope.specs.Resolution.{is_one_of}
use Rattle.pc_types.specs.Below.{Bases}
use Rattle.pc_class.specs.Facts.{TypedParameter}
use Rattle.pc_rules.specs.Calls.{parameter_names}
use Rattle.pc_value.specs.Value.{Value}
use Rattle.pc_machine.specs.Calls.{NamedValue, value_named}
use Rattle.pc_sound.specs.Values.{HeapTyping, HasType}

-- a parameter without an argument by position has a value by name of its type, or a default
abbrev pub TakesNamed : Bases → HeapTyping → TypedParameter → Option Value → Type 0
TakesNamed bases k p (Some w) = HasType bases k p.type w
TakesNamed bases k p None = p.has_default ≡ true

-- the first parameters have the values by position and none by name; the others a value by name or their default
abbrev pub Fills : Bases → HeapTyping → List TypedParameter → List Value → List NamedValue → Type 0
Fills bases k [] [] named = Unit {0}
Fills bases k [] (v ∷ vs) named = ⊥
Fills bases k (p ∷ ps) (v ∷ vs) named = HasType bases k p.type v
    × ((value_named p.name named ≡ None) × Fills bases k ps vs named)
Fills bases k (p ∷ ps) [] named = TakesNamed bases k p (value_named p.name named) × Fills bases k ps [] named

-- each argument by name is for a parameter
abbrev pub AllFor : List NamedValue → List TypedParameter → Type 0
AllFor [] qs = Unit {0}
AllFor (a ∷ rest) qs = (is_one_of a.name (parameter_names qs) ≡ true) × AllFor rest qs

-- the arguments match the parameters: each parameter has a value of its type or a default, and no argument is left over
pub record Suits (bases : Bases) (k : HeapTyping) (params : List TypedParameter) (vs : List Value)
    (named : List NamedValue) : Type 0 where
  pub fills : Fills bases k params vs named
  pub all_for : AllFor named params
