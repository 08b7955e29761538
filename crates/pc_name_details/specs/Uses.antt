-- The names that functions bind, as the program holds them: private to this crate. Own rule of the profile.
use Rattle.std.specs.Prelude.{◌≡◌, ◌-◌, ◌++◌, ℕ, List, map, length, take, Option, find, bytes_eq}
use Rattle.std.specs.BTreeMap.{get_by}
use Rattle.std.specs.Cmp.Lexicographic.{slice_cmp}
use Rattle.std.specs.Option.{option_map}
use Rattle.std.specs.Ordering.{nat_cmp}
use Rattle.pc_source.specs.declared.place.Place.{Place}
use Rattle.pc_tree.specs.Tree.{Name}
use Rattle.pc_scope.specs.Bindings.{Body}
use Rattle.pc_name_details.specs.declared.bindings.Bindings.{Bindings}
use Rattle.pc_detail_facts.specs.declared.definitions.Body.{Body as RustBody}
use Rattle.pc_detail_facts.specs.Held.{body_of}
use Rattle.pc_detail_rules.specs.Names.{names_of_body}

-- a name that a function or method binds
pub record Binding : Type 0 where
  pub body : Body
  pub name : Name

-- a name that a function or method binds
abbrev pub binding : Body → Name → Binding
binding b n = record { body = b; name = n }

-- the names that a function or method binds, each with it
abbrev pub bindings_of : Body → List Binding
bindings_of b = map (binding b) (names_of_body b)

-- the first of these bindings of a name
abbrev pub first_bound : List ℕ → List Binding → Option Binding
first_bound word bs = find (λ b. bytes_eq word b.name.text) bs

-- the function of a binding, and its place
abbrev pub place_bound : Binding → Body × Place
place_bound b = (b.body, b.name.place)

-- the function and the place that are held of a name
abbrev pub binding_held : Bindings → List ℕ → Option (RustBody × Place)
binding_held b word = get_by (λ k. slice_cmp nat_cmp word k.now) b.first

-- the function of a binding of the program, and its place
abbrev pub pair_bound : RustBody × Place → Body × Place
pair_bound v = (body_of v.0, v.1)

-- the bindings that are held are the first of each name among these
pub record AreBound (b : Bindings) (bs : List Binding) : Type 0 where
  pub at : (word : List ℕ) → option_map pair_bound (binding_held b word) ≡ option_map place_bound (first_bound word bs)

-- the first three places: those seen, and then some of the rest
abbrev pub first_three : (seen rest : List Place) → List Place
first_three seen rest = seen ++ take (3 - length seen) rest
