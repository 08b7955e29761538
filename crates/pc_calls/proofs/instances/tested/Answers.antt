use Rattle.pc_flow.specs.Naming.{meanings}
use Rattle.std.proofs.Common.{◌≡◌, ◌<◌, ℕ, List, [], ◌∷◌, length, None, refl, arith}
use Rattle.pc_tree.specs.declared.tree.Expr.{Expr as RustExpr}
use Rattle.pc_tree.specs.Lists.{exprs_of_list}
use Rattle.pc_scope.specs.declared.resolution.NameMeaning.{NameMeaning}
use Rattle.pc_flow.specs.Narrowing.{second_argument, test_of_argument}
use Rattle.pc_calls.proofs.instances.tested.Goals as goal

-- of fewer than two arguments none stands second
no_second : (resolve : List ℕ → NameMeaning) (es : List RustExpr) → length es < 2
    → None ≡ test_of_argument resolve (second_argument (exprs_of_list es))
no_second resolve [] h = refl
no_second resolve (x ∷ []) h = refl
no_second resolve (x ∷ y ∷ es) h = absurd (omega (arith, h))

pub returns-in-len1 : goal.returns-in-len1
returns-in-len1 c = no_second (meanings c.args.names.now) c.args.arguments.now c.in-len1.len_below
