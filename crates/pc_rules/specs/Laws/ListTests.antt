-- The law that tests of a local for a list can be dynamic places. Typing specification, "Type narrowing"; own rule of
-- the profile.
use Rattle.std.specs.Prelude.{◌≡◌, ◌⊎◌, ℕ, List, Option, Some, Contains}
use Rattle.pc_source.specs.declared.place.Place.{Place}
use Rattle.pc_tree.specs.declared.code.Code.TheVariants.{A7}
use Rattle.pc_tree.specs.Code.{finding}
use Rattle.pc_tree.specs.Tree.{Name, Expr, name, call, no_exprs, more_exprs, no_keywords}
use Rattle.pc_scope.specs.declared.resolution.Builtin.TheVariants as builtin
use Rattle.pc_scope.specs.declared.resolution.NameMeaning.TheVariants as meaning
use Rattle.pc_types.specs.Tree.{Tree, Any, Object}
use Rattle.pc_types.specs.Shape.{members}
use Rattle.pc_flow.specs.Environment.{Env, current}
use Rattle.pc_rules.specs.Context.{Context}
use Rattle.pc_rules.specs.Labels.{Labels, Finds}
use Rattle.pc_rules.specs.Lawful.{Lawful}

-- `isinstance(x, list)`: a call of one name with two others
abbrev pub call_of_names : Place → (callee first second : Name) → Expr
call_of_names p callee first second =
    call p (name callee) (more_exprs (name first) (more_exprs (name second) no_exprs)) no_keywords

-- the names mean `isinstance`, the local of this number, and `list`
pub record TestsForList (ctx : Context) (callee first second : Name) (x : ℕ) : Type 0 where
  pub instance : ctx.resolve callee.text ≡ meaning.Builtin builtin.IsInstance
  pub local : ctx.resolve first.text ≡ meaning.Local x
  pub for_list : ctx.resolve second.text ≡ meaning.Builtin builtin.List

-- a member of the type is Any or object
abbrev pub HasAnyOrObject : Tree → Type 0
HasAnyOrObject t = Contains (members t) Any ⊎ Contains (members t) Object

-- the law that a test of a local for a list is A7, under any lawful labels, if a member of its current type is Any or
-- object
abbrev pub ListTestsAreDynamicPlaces : Type 0
ListTestsAreDynamicPlaces =
    (ctx : Context) (declared : List Tree) (env : Env) (want : Option Tree) (p : Place) (callee first second : Name)
    (labels : Labels (call_of_names p callee first second)) (x : ℕ) (t : Tree)
    → TestsForList ctx callee first second x → current env x ≡ Some t → HasAnyOrObject t
    → Lawful ctx declared env want (call_of_names p callee first second) labels
    → Finds (call_of_names p callee first second) labels (finding p A7)
