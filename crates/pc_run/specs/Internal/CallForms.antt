-- The forms of calls and of a `for`'s iterable, as the program distinguishes them.
-- Own rule of the profile.
use Rattle.std.specs.Prelude.{List, Option, Some, None}
use Rattle.pc_tree.specs.Lists.{exprs_of_list, keywords_of_list}
use Rattle.std.specs.Borrow.{Bor}
use Rattle.pc_tree.specs.Tree.{expr_of}
use Rattle.pc_machine.specs.Evaluation.{CallForm, instance_test, ordinary, IterableForm, range_call, any_iterable}
use Rattle.pc_source.specs.declared.place.Place.{Place}
use Rattle.pc_tree.specs.declared.tree.Name.{Name as RustName}
use Rattle.pc_tree.specs.declared.tree.Expr.{Expr as RustExpr}
use Rattle.pc_tree.specs.declared.tree.KeywordArgument.{KeywordArgument as RustKeyword}
use Rattle.pc_tree.specs.Tree.{name_of}

-- the form of a call, as the program represents it
abbrev pub form_seen : Option (Bor RustName × Bor RustExpr × Bor RustExpr) → CallForm
form_seen None = ordinary
form_seen (Some f) = instance_test (name_of f.0.now) (expr_of f.1.now) (expr_of f.2.now)

-- the form of a `for`'s iterable, as the program represents it: a call of `range` by its parts, or another expression
abbrev pub range_seen : Option (Place × Bor RustName × Bor (List RustExpr) × Bor (List RustKeyword)) → IterableForm
range_seen None = any_iterable
range_seen (Some f) = range_call f.0 (name_of f.1.now) (exprs_of_list f.2.now) (keywords_of_list f.3.now)
