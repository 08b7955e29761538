-- Exactly two positional arguments and no keyword argument, as lists of the program.
use Rattle.std.proofs.Common.{◌≡◌, ◌≢◌, List, [], ◌∷◌, length, rules, refl, arith, false}
use Rattle.std.specs.Prelude.{nat_eq}
use Rattle.pc_tree.specs.declared.tree.Expr.{Expr as RustExpr}
use Rattle.pc_tree.specs.declared.tree.KeywordArgument.{KeywordArgument as RustKeyword}
use Rattle.pc_tree.specs.Tree.{Keywords}
use Rattle.pc_tree.specs.Lists.{exprs_of_list, keywords_of_list}
use Rattle.pc_scope.specs.Expressions.{are_two}

-- a number of positional arguments other than two
pub other_count : (es : List RustExpr) (ks : Keywords) → length es ≢ 2 → are_two (exprs_of_list es) ks ≡ false
other_count [] ks h = refl
other_count (a ∷ []) ks h = refl
other_count (a ∷ b ∷ []) ks h = absurd (h refl)
other_count (a ∷ b ∷ c ∷ rest) ks h = refl

-- two positional arguments, with or without keyword arguments
pub with_two : (es : List RustExpr) (ks : List RustKeyword) → length es ≡ 2
    → nat_eq (length ks) 0 ≡ are_two (exprs_of_list es) (keywords_of_list ks)
with_two [] ks h = absurd (omega arith)
with_two (a ∷ []) ks h = absurd (omega arith)
with_two (a ∷ b ∷ []) [] h = refl
with_two (a ∷ b ∷ []) (m ∷ ks) h = search rules
with_two (a ∷ b ∷ c ∷ rest) ks h = absurd (omega arith)
