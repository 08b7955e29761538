-- The codes that have no rule for targets, expressions or functions.
use Rattle.std.proofs.Common.{◌≡◌, Bool, None, refl}
use Rattle.pc_tree.specs.declared.code.Code.{Code}
use Rattle.pc_tree.specs.declared.code.Code.TheVariants.{A2, A3, A4, A5, A6, A7, A8, E02, E03, E04, E11, E13, E14, E15}
use Rattle.pc_tree.specs.declared.code.Code.TheVariants.{E16, E17, E18, E19, E20, E21, E22, E23, E25, E26, E27}
use Rattle.pc_tree.specs.Tree.{Module, Target}
use Rattle.pc_scope.specs.Bindings.{Body}
use Rattle.pc_details.specs.ByCode.{expr_rule, function_rule, target_rule}
use Rattle.pc_detail_rules.specs.Facts.{Known}
use Rattle.pc_detail_rules.specs.Nodes.{OwnedExpr}

-- a code that has no rule for targets
pub other_target : (m : Module) (known : Known) (c : Code) (t : Target) → (c ≡ A3 → ⊥) → (c ≡ E17 → ⊥) → (c ≡ A4 → ⊥)
    → (c ≡ E15 → ⊥) → (c ≡ E23 → ⊥) → target_rule m known c t ≡ None
other_target m known A3 t a b d e f = absurd (a refl)
other_target m known E17 t a b d e f = absurd (b refl)
other_target m known A4 t a b d e f = absurd (d refl)
other_target m known E15 t a b d e f = absurd (e refl)
other_target m known E23 t a b d e f = absurd (f refl)
other_target m known c t a b d e f = refl

-- a code that has no rule for functions
pub other_function : (m : Module) (c : Code) (b : Body) → (c ≡ A8 → ⊥) → (c ≡ E11 → ⊥) → (c ≡ E21 → ⊥)
    → function_rule m c b ≡ None
other_function m A8 b h i j = absurd (h refl)
other_function m E11 b h i j = absurd (i refl)
other_function m E21 b h i j = absurd (j refl)
other_function m c b h i j = refl

-- a code has no rule for expressions
pub record HasNoExprs (c : Code) : Type 0 where
  pub operators : (c ≡ A2 → ⊥) × (c ≡ E13 → ⊥) × (c ≡ E19 → ⊥)
  pub items : (c ≡ A3 → ⊥) × (c ≡ E16 → ⊥)
  pub attributes : (c ≡ A4 → ⊥) × (c ≡ E15 → ⊥)
  pub loops : (c ≡ A5 → ⊥) × (c ≡ E18 → ⊥)
  pub calls : (c ≡ A6 → ⊥) × (c ≡ E14 → ⊥) × (c ≡ E27 → ⊥)
  pub names : (c ≡ E02 → ⊥) × (c ≡ E03 → ⊥) × (c ≡ E04 → ⊥) × (c ≡ E20 → ⊥)
  pub tests : (c ≡ A7 → ⊥) × (c ≡ E25 → ⊥)
  pub displays : (c ≡ E22 → ⊥) × (c ≡ E26 → ⊥)

-- such a code
pub other_expr : (m : Module) (known : Known) (called : Bool) (c : Code) (o : OwnedExpr) → HasNoExprs c
    → expr_rule m known called c o ≡ None
other_expr m known called A2 o h = absurd (h.operators.0 refl)
other_expr m known called E13 o h = absurd (h.operators.1 refl)
other_expr m known called E19 o h = absurd (h.operators.2 refl)
other_expr m known called A3 o h = absurd (h.items.0 refl)
other_expr m known called E16 o h = absurd (h.items.1 refl)
other_expr m known called A4 o h = absurd (h.attributes.0 refl)
other_expr m known called E15 o h = absurd (h.attributes.1 refl)
other_expr m known called A5 o h = absurd (h.loops.0 refl)
other_expr m known called E18 o h = absurd (h.loops.1 refl)
other_expr m known called A6 o h = absurd (h.calls.0 refl)
other_expr m known called E14 o h = absurd (h.calls.1 refl)
other_expr m known called E27 o h = absurd (h.calls.2 refl)
other_expr m known called E02 o h = absurd (h.names.0 refl)
other_expr m known called E03 o h = absurd (h.names.1 refl)
other_expr m known called E04 o h = absurd (h.names.2 refl)
other_expr m known called E20 o h = absurd (h.names.3 refl)
other_expr m known called A7 o h = absurd (h.tests.0 refl)
other_expr m known called E25 o h = absurd (h.tests.1 refl)
other_expr m known called E22 o h = absurd (h.displays.0 refl)
other_expr m known called E26 o h = absurd (h.displays.1 refl)
other_expr m known called c o h = refl
