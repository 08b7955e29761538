-- Calls of `range` as the iterable of a `for`, in terms of the definitions. Own rule of the profile.
use Rattle.std.specs.Prelude.{ℕ, List, Bool as Test, false}
use Rattle.pc_tree.specs.Tree.{Expr, name, call}
use Rattle.pc_scope.specs.declared.resolution.NameMeaning.{NameMeaning}
use Rattle.pc_rules.specs.Calls.{is_range}

-- whether an expression is a call of a name that means `range`
abbrev pub over_range : (List ℕ → NameMeaning) → Expr → Test
over_range resolve (call p (name n) arguments by_name) = is_range (resolve n.text)
over_range resolve e = false
