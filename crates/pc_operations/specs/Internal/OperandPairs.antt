-- Operators on two operands, by the kind that all members of a type share: computed twin of the rows on pairs of
-- members. Own rule of the profile.
use Rattle.std.specs.Prelude.{List, [], ◌∷◌, Bool as Test, true, if◌then◌else◌, Option, Some, None}
use Rattle.pc_tree.specs.declared.code.Code.TheVariants.{A2, E13}
use Rattle.pc_types.specs.Tree.{Tree, Any, Bool}
use Rattle.pc_types.specs.Below.{Bases}
use Rattle.pc_rules.specs.Operations.{Kind, whole_kind, text_kind, kind_of, Label, clean, in_error, takes_kind}
use Rattle.pc_rules.specs.Operations.{kind_type, pairs_label}
use Rattle.pc_operations.specs.declared.kinds.Kind.{Kind as RustKind}
use Rattle.pc_operations.specs.declared.kinds.Kind.TheVariants as kinds
use Rattle.pc_operations.specs.declared.kinds.KindOperator.{KindOperator}
use Rattle.pc_operations.specs.declared.kinds.KindOperator.TheVariants as operators

-- the kind that two kinds have in common, if they have one
abbrev pub meet : Option Kind → Option Kind → Option Kind
meet None d = None
meet (Some whole_kind) (Some whole_kind) = Some whole_kind
meet (Some text_kind) (Some text_kind) = Some text_kind
meet _ _ = None

-- the kind that a kind and the members of a type share
abbrev pub common_onto : Option Kind → List Tree → Option Kind
common_onto d [] = d
common_onto d (m ∷ ms) = common_onto (meet d (kind_of m)) ms

-- the kind that all members share, if there are any
abbrev pub common : List Tree → Option Kind
common [] = None
common (m ∷ ms) = common_onto (kind_of m) (m ∷ ms)

-- the kind that a program's kind means
abbrev pub kind_with : RustKind → Kind
kind_with kinds.Whole = whole_kind
kind_with kinds.Text = text_kind

-- whether an operator takes a kind; an order takes each
abbrev pub takes_of : KindOperator → Kind → Test
takes_of (operators.Arithmetic operator) k = takes_kind operator k
takes_of operators.Order k = true

-- the type that an operator gives for a kind; an order gives bool
abbrev pub gives_of : KindOperator → Kind → Tree
gives_of (operators.Arithmetic operator) k = kind_type k
gives_of operators.Order k = Bool

-- the type that an operator gives at a dynamic place
abbrev pub dynamic_of : KindOperator → Tree
dynamic_of (operators.Arithmetic operator) = Any
dynamic_of operators.Order = Bool

-- the label of an operator at a dynamic place
abbrev pub dynamic_label : KindOperator → Label
dynamic_label operator = record { type = dynamic_of operator; codes = A2 ∷ [] }

-- the label of an operator on two operands
abbrev pub operator_label : Bases → KindOperator → Tree → Tree → Label
operator_label bases operator s t = pairs_label bases (takes_of operator) (gives_of operator) (dynamic_of operator) s t

-- the label of an operator, given the kind that both operands share
abbrev pub kind_label : (Kind → Test) → (Kind → Tree) → Option Kind → Label
kind_label takes gives None = in_error E13
kind_label takes gives (Some k) = if takes k then clean (gives k) else in_error E13
