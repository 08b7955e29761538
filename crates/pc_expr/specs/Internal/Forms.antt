-- The forms of expressions as the program distinguishes them. Own rule of the profile.
use Rattle.std.specs.Prelude.{◌≡◌, ◌⊎◌, Vec, Box}
use Rattle.std.specs.Global.{Global}
use Rattle.pc_source.specs.declared.place.Place.{Place}
use Rattle.pc_tree.specs.declared.tree.BinaryOperator.{BinaryOperator}
use Rattle.pc_tree.specs.declared.tree.ComparisonOperator.{ComparisonOperator}
use Rattle.pc_tree.specs.declared.tree.Name.{Name as RustName}
use Rattle.pc_tree.specs.declared.tree.Entry.{Entry as RustEntry}
use Rattle.pc_tree.specs.declared.tree.KeywordArgument.{KeywordArgument as RustKeyword}
use Rattle.pc_tree.specs.declared.tree.Expr.{Expr as RustExpr}
use Rattle.pc_tree.specs.declared.tree.Expr.TheViews as View

-- a display of a tuple, a list or a dict
abbrev pub IsDisplay : RustExpr → Type 0
IsDisplay e =
    ((p : Place) × (v : Vec RustExpr Global) × (e ≡ View.Tuple p v)) ⊎ (
    ((p : Place) × (v : Vec RustExpr Global) × (e ≡ View.List p v)) ⊎
    ((p : Place) × (v : Vec RustEntry Global) × (e ≡ View.Dict p v)))

-- a form with one operand
abbrev pub IsUnary : RustExpr → Type 0
IsUnary e =
    ((p : Place) × (a : Box RustExpr Global) × (e ≡ View.Negative p a)) ⊎ (
    ((p : Place) × (a : Box RustExpr Global) × (e ≡ View.Not p a)) ⊎ (
    ((p : Place) × (a : Box RustExpr Global) × (e ≡ View.IsNone p a)) ⊎ (
    ((p : Place) × (a : Box RustExpr Global) × (e ≡ View.IsNotNone p a)) ⊎
    ((p : Place) × (a : Box RustExpr Global) × (field : RustName) × (e ≡ View.Attribute p a field)))))

-- a form with two operands that are both evaluated
abbrev pub IsBinary : RustExpr → Type 0
IsBinary e =
    ((p : Place) × (o : BinaryOperator) × (a : Box RustExpr Global) × (b : Box RustExpr Global)
    × (e ≡ View.Binary p o a b)) ⊎ (
    ((p : Place) × (o : ComparisonOperator) × (a : Box RustExpr Global) × (b : Box RustExpr Global)
    × (e ≡ View.Compare p o a b)) ⊎
    ((p : Place) × (a : Box RustExpr Global) × (b : Box RustExpr Global) × (e ≡ View.Index p a b)))

-- `and` or `or`
abbrev pub IsConnective : RustExpr → Type 0
IsConnective e =
    ((p : Place) × (a : Box RustExpr Global) × (b : Box RustExpr Global) × (e ≡ View.And p a b)) ⊎
    ((p : Place) × (a : Box RustExpr Global) × (b : Box RustExpr Global) × (e ≡ View.Or p a b))

-- a call
abbrev pub IsCall : RustExpr → Type 0
IsCall e =
    (p : Place) × (a : Box RustExpr Global) × (v : Vec RustExpr Global) × (ks : Vec RustKeyword Global)
    × (e ≡ View.Call p a v ks)
