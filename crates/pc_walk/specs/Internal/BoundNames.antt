-- Locals that statements bind, as the program numbers them.
-- Own rule of the profile.
use Rattle.std.specs.Prelude.{ℕ, List, [], ◌∷◌}
use Rattle.pc_types.specs.Tree.{Any}
use Rattle.pc_module_rules.specs.Computed.Statements.{DeclaredTypes, with_declared, bound_type}

-- a table with Any for each of these locals that has no declared type yet
abbrev pub unreached_numbers : DeclaredTypes → List ℕ → DeclaredTypes
unreached_numbers table [] = table
unreached_numbers table (x ∷ xs) = unreached_numbers (with_declared (bound_type table x) table x Any) xs
