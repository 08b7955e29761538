-- Operands of the parser, as they keep the parts that the machine reads.
use Rattle.std.specs.Prelude.{ℕ, ◌≡◌, ◌≤◌, Bool, true, false, List, [], ◌∷◌, ◌++◌, min, map}
use Rattle.pc_source.specs.declared.place.Place.{Place}
use Rattle.pc_token.specs.Lexeme.{Lexeme}
use Rattle.pc_tree.specs.declared.tree.Expr.{Expr as RustExpr}
use Rattle.pc_tree.specs.Tree.{Name, Expr, name, attribute, index, is_none, is_not_none, expr_of}
use Rattle.pc_tree.specs.Depth.{depth_of, place_of}
use Rattle.pc_grammar.specs.Machine.Kinds.{Infix as Operator, arithmetic, comparison, both, either}
use Rattle.pc_grammar.specs.Machine.States.{Part, Prefix as Sign, minus, denial, Stack, applying}
use Rattle.pc_grammar.specs.Machine.Expressions.{bare_part, applied}
use Rattle.pc_reader.specs.declared.operand.Operand.{Operand}
use Rattle.pc_reader.specs.declared.operand.Infix.{Infix}
use Rattle.pc_reader.specs.declared.operand.Infix.TheVariants as rust_infix
use Rattle.pc_reader.specs.declared.operand.Prefix.{Prefix}
use Rattle.pc_reader.specs.declared.operand.Prefix.TheVariants as rust_prefix

-- an operator between two operands, as the machine names it
abbrev pub infix_of : Infix → Operator
infix_of (rust_infix.Arithmetic o) = arithmetic o
infix_of (rust_infix.Comparison o) = comparison o
infix_of rust_infix.And = both
infix_of rust_infix.Or = either

-- a sign before an operand, as the machine names it
abbrev pub prefix_of : Prefix → Sign
prefix_of rust_prefix.Minus = minus
prefix_of rust_prefix.Not = denial

-- the first of the tokens begins at this byte
pub record Starts (ts : List Lexeme) (byte : ℕ) : Type 0 where
  pub head : Lexeme
  pub tail : List Lexeme
  pub is : ts ≡ head ∷ tail
  pub start : head.place.start ≡ byte

-- the last of the tokens ends at this byte
pub record Ends (ts : List Lexeme) (byte : ℕ) : Type 0 where
  pub before : List Lexeme
  pub last : Lexeme
  pub is : ts ≡ before ++ (last ∷ [])
  pub end : last.place.end ≡ byte

-- the form of an expression, as far as it decides what may follow
pub data Form : Type 0 where
  a_name : (n : Name) → Form
  an_attribute : Form
  an_index : Form
  another : Form

-- the form of an expression
abbrev pub form_of_expr : Expr → Form
form_of_expr (name n) = a_name n
form_of_expr (attribute p e f) = an_attribute
form_of_expr (index p e i) = an_index
form_of_expr _ = another

-- the operand keeps the part; of a tree that is too deep, only its form and that it is too deep
pub record KeepsPart (o : Operand) (p : Part) : Type 0 where
  pub starts : Starts p.tokens o.start
  pub ends : Ends p.tokens o.end
  pub first : o.first ≡ (place_of p.tree).start
  pub plain : o.plain ≡ p.plain
  pub depth : o.depth ≡ min 65 (depth_of p.tree)
  pub kept : o.depth ≤ 64 → expr_of o.expr ≡ p.tree
  pub form : form_of_expr (expr_of o.expr) ≡ form_of_expr p.tree

-- the operand that is this expression at its place, without parentheses
abbrev pub node_of : RustExpr → Place → ℕ → ℕ → Operand
node_of expr place level depth = record {
  expr = expr;
  start = place.start;
  end = place.end;
  first = place.start;
  plain = true;
  level = level;
  depth = depth;
}

-- the operand is the node that any tokens between these bytes spell
abbrev pub Builds : Operand → (Place → Expr) → ℕ → ℕ → Type 0
Builds o make start end = (ts : List Lexeme) → Starts ts start → Ends ts end → KeepsPart o (bare_part make ts)

-- the part after these signs are applied to it, the last of them first
abbrev pub applied_all : Sign → List Lexeme → Part → Part
applied_all x [] p = p
applied_all x (t ∷ ts) p = applied x (t ∷ []) (applied_all x ts p)

-- the stack with these signs open on it, the last of them on top
abbrev pub signs_on : Sign → List Lexeme → Stack → Stack
signs_on x [] s = s
signs_on x (t ∷ ts) s = signs_on x ts (applying x (t ∷ []) s)

-- the bytes at which the tokens begin
abbrev pub starts_of : List Lexeme → List ℕ
starts_of ts = map (λ t. t.place.start) ts

-- `e is None`, or `e is not None`
abbrev pub none_tree : Bool → Expr → Place → Expr
none_tree true e p = is_not_none p e
none_tree false e p = is_none p e
