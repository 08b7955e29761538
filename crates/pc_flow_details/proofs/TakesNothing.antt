-- The expressions whose parts have no sinks of their own, by the arms of a match.
use Rattle.std.proofs.Common.{◌≡◌, ◌⊎◌, [], Box, Vec, Global, List, inl, inr, ap}
use Rattle.pc_source.specs.declared.place.Place.{Place}
use Rattle.pc_tree.specs.declared.tree.BinaryOperator.{BinaryOperator}
use Rattle.pc_tree.specs.declared.tree.Expr.{Expr as RustExpr}
use Rattle.pc_tree.specs.declared.tree.Expr.TheVariants as rust
use Rattle.pc_tree.specs.declared.tree.Expr.TheViews as View
use Rattle.pc_tree.specs.declared.tree.Name.{Name as RustName}
use Rattle.pc_tree.specs.Tree.{Module, expr_of}
use Rattle.pc_scope.specs.declared.resolution.Owner.{Owner}
use Rattle.pc_detail_rules.specs.Facts.{Known}
use Rattle.pc_detail_rules.specs.Nodes.{owned}
use Rattle.pc_detail_rules.specs.Sinks.{SinkAt, sinks_in}

module _ (m : Module) (known : Known) (owner : Owner) where
  -- the sinks of what an expression takes
  abbrev pub taken : RustExpr → List SinkAt
  taken x = sinks_in m known (owned owner (expr_of x))

  module _ (e : RustExpr) where
    -- a name, a number, a text or a tuple
    pub atom_taken : ((n : RustName) × (e ≡ rust.Name n)) ⊎ (((p : Place) × (s : _) × (e ≡ rust.Int p s))
        ⊎ (((p : Place) × (s : _) × (e ≡ rust.Str p s))
        ⊎ ((p : Place) × (v : Vec RustExpr Global) × (e ≡ View.Tuple p v)))) → taken e ≡ []
    atom_taken (inl w) = ap taken w.1
    atom_taken (inr (inl w)) = ap taken w.2
    atom_taken (inr (inr (inl w))) = ap taken w.2
    atom_taken (inr (inr (inr w))) = ap taken w.2

    -- a constant
    pub constant_taken : ((p : Place) × (e ≡ rust.True p)) ⊎ (((p : Place) × (e ≡ rust.False p))
        ⊎ ((p : Place) × (e ≡ rust.NoneValue p))) → taken e ≡ []
    constant_taken (inl w) = ap taken w.1
    constant_taken (inr (inl w)) = ap taken w.1
    constant_taken (inr (inr w)) = ap taken w.1

    -- a negative, a negation or an attribute
    pub operand_taken : ((p : Place) × (x : Box RustExpr Global) × (e ≡ View.Negative p x))
        ⊎ (((p : Place) × (x : Box RustExpr Global) × (e ≡ View.Not p x))
        ⊎ ((p : Place) × (x : Box RustExpr Global) × (n : RustName) × (e ≡ View.Attribute p x n))) → taken e ≡ []
    operand_taken (inl w) = ap taken w.2
    operand_taken (inr (inl w)) = ap taken w.2
    operand_taken (inr (inr w)) = ap taken w.3

    -- a test for `None`, or an operation of two operands
    pub tested_taken : ((p : Place) × (x : Box RustExpr Global) × (e ≡ View.IsNone p x))
        ⊎ (((p : Place) × (x : Box RustExpr Global) × (e ≡ View.IsNotNone p x))
        ⊎ ((p : Place) × (o : BinaryOperator) × (x : Box RustExpr Global) × (y : Box RustExpr Global)
        × (e ≡ View.Binary p o x y))) → taken e ≡ []
    tested_taken (inl w) = ap taken w.2
    tested_taken (inr (inl w)) = ap taken w.2
    tested_taken (inr (inr w)) = ap taken w.4

    -- a conjunction or a disjunction
    pub junction_taken : ((p : Place) × (x : Box RustExpr Global) × (y : Box RustExpr Global) × (e ≡ View.And p x y))
        ⊎ ((p : Place) × (x : Box RustExpr Global) × (y : Box RustExpr Global) × (e ≡ View.Or p x y)) → taken e ≡ []
    junction_taken (inl w) = ap taken w.3
    junction_taken (inr w) = ap taken w.3
