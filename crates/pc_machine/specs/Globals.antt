-- The position of a name's first binding among those of the module.
-- Own device; the names: Language Reference 4.2.1 "Binding of names".
use Rattle.std.specs.Prelude.{◌≡◌, ℕ, suc, List, [], ◌∷◌, Option, Some, None, if◌then◌else◌}
use Rattle.std.specs.Option.{option_map}
use Rattle.std.specs.Borrow.{Bor}
use Rattle.indexmap.specs.IndexMap.{IndexMap}
use Rattle.pc_tree.specs.Names.{at_text}
use Rattle.pc_value.specs.Texts.{same_text}
use Rattle.pc_machine.specs.declared.state.Global.{Global as RustGlobal}

-- the name of a binding, as the program holds it
abbrev pub name_of_global : RustGlobal → List ℕ
name_of_global g = g.name.now

-- the position of a name's first occurrence
abbrev pub index_of_name : List ℕ → List (List ℕ) → Option ℕ
index_of_name name [] = None
index_of_name name (n ∷ rest) = if same_text n name then Some 0 else option_map suc (index_of_name name rest)

-- a map holds the position of each name's first occurrence
abbrev pub ArePlaced : {S : Type 0} → IndexMap (Bor (List ℕ)) ℕ S → List (List ℕ) → Type 0
ArePlaced places names = (name : List ℕ) → at_text places name ≡ index_of_name name names
