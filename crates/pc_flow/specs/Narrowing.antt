-- Narrowing: the environments where a condition is true and where it is false.
-- Typing specification, "Type narrowing"; own rules of the profile.
use Rattle.std.specs.Prelude.{ℕ, List, Bool as Test, true, false, ◌||◌, not, if◌then◌else◌, Option, Some, None}
use Rattle.std.specs.Prelude.{[], ◌++◌, filter_map, option_to_list}
use Rattle.pc_tree.specs.Tree.{Expr, Exprs, name, negation, is_none, is_not_none, conjunction, disjunction, call}
use Rattle.pc_tree.specs.Tree.{no_exprs, more_exprs}
use Rattle.pc_scope.specs.declared.resolution.Builtin.TheVariants as builtin
use Rattle.pc_scope.specs.declared.resolution.NameMeaning.{NameMeaning}
use Rattle.pc_scope.specs.declared.resolution.NameMeaning.TheVariants as meaning
use Rattle.pc_scope.specs.Expressions.{is_instance_test}
use Rattle.pc_types.specs.Tree.{Tree, Any, Object, Int, Bool, Str, NoneType, Class, ListOf, Union}
use Rattle.pc_types.specs.Below.{Bases}
use Rattle.pc_types.specs.Shape.{members, union}
use Rattle.pc_types.specs.Join.{same_tree, absorbs}
use Rattle.pc_flow.specs.Environment.{Env, current, assign, join_env}

-- a test of a local: for None; for an instance of a class, of int, str or bool; for a list
pub data Tested : Type 0 where
  for_none : Tested
  for_type : (type : Tree) → Tested
  for_list : Tested

-- a member is the tested type or a subtype of it
abbrev pub is_at_or_below : Bases → Tree → Tree → Test
is_at_or_below bases c m = same_tree m c || absorbs bases c m

-- the member itself if it is a subtype of the tested type, the tested type if the member is a supertype of it, else
-- none
abbrev pub member_within : Bases → Tree → Tree → Option Tree
member_within bases c m = if is_at_or_below bases c m then Some m else (if absorbs bases m c then Some c else None)

-- the part of a member that passes a test; Any and object become the tested type. (A union is not a member of a type in
-- normal form, and is kept.)
abbrev pub member_passing : Bases → Tested → Tree → Option Tree
member_passing bases for_none Any = Some NoneType
member_passing bases for_none Object = Some NoneType
member_passing bases for_none NoneType = Some NoneType
member_passing bases (for_type c) Any = Some c
member_passing bases (for_type c) Object = Some c
member_passing bases for_list Any = Some (ListOf Any)
member_passing bases for_list Object = Some (ListOf Any)
member_passing bases for_list (ListOf t) = Some (ListOf t)
member_passing bases test (Union a b) = Some (Union a b)
member_passing bases (for_type c) m = member_within bases c m
member_passing bases _ m = None

-- the part of a member that fails a test; Any and object are kept
abbrev pub member_failing : Bases → Tested → Tree → Option Tree
member_failing bases for_none NoneType = None
member_failing bases for_list (ListOf t) = None
member_failing bases (for_type c) Any = Some Any
member_failing bases (for_type c) Object = Some Object
member_failing bases (for_type c) (Union a b) = Some (Union a b)
member_failing bases (for_type c) m = if is_at_or_below bases c m then None else Some m
member_failing bases _ m = Some m

-- a type where a test of it is true; Never if no member is left
abbrev pub type_where_true : Bases → Tested → Tree → Tree
type_where_true bases test t = union (filter_map (member_passing bases test) (members t))

-- a type where a test of it is false; Never if no member is left
abbrev pub type_where_false : Bases → Tested → Tree → Tree
type_where_false bases test t = union (filter_map (member_failing bases test) (members t))

-- a type where a test of it is true, or where it is false
abbrev pub tested_as : Bases → (holds : Test) → Tested → Tree → Tree
tested_as bases true test t = type_where_true bases test t
tested_as bases false test t = type_where_false bases test t

-- an environment after a test of a local with this current type; an unassigned local remains so
abbrev pub narrow_current : Bases → (holds : Test) → Tested → ℕ → Env → Option Tree → Env
narrow_current bases holds test x env None = env
narrow_current bases holds test x env (Some t) = assign env x (tested_as bases holds test t)

-- an environment after a test of a local; unchanged if there is no local
abbrev pub narrow_local : Bases → (holds : Test) → Tested → Option ℕ → Env → Env
narrow_local bases holds test None env = env
narrow_local bases holds test (Some x) env = narrow_current bases holds test x env (current env x)

-- the local that a name means, if it means a local
abbrev pub as_local : NameMeaning → Option ℕ
as_local (meaning.Local x) = Some x
as_local _ = None

-- the local that an expression names, if it is the name of a local
abbrev pub local_named : (List ℕ → NameMeaning) → Expr → Option ℕ
local_named resolve (name n) = as_local (resolve n.text)
local_named resolve _ = None

-- the test by `isinstance` with a name of this meaning: for a class, `int`, `str`, `bool` or `list`; any other name is
-- no test
abbrev pub test_named : NameMeaning → Option Tested
test_named (meaning.Class c) = Some (for_type (Class c))
test_named (meaning.Builtin builtin.Int) = Some (for_type Int)
test_named (meaning.Builtin builtin.Str) = Some (for_type Str)
test_named (meaning.Builtin builtin.Bool) = Some (for_type Bool)
test_named (meaning.Builtin builtin.List) = Some for_list
test_named _ = None

-- the test by `isinstance` with this second argument, if it is one
abbrev pub test_of : (List ℕ → NameMeaning) → Expr → Option Tested
test_of resolve (name n) = test_named (resolve n.text)
test_of resolve _ = None

-- the first positional argument, if there is one
abbrev pub first_argument : Exprs → Option Expr
first_argument no_exprs = None
first_argument (more_exprs e rest) = Some e

-- the second positional argument, if there is one
abbrev pub second_argument : Exprs → Option Expr
second_argument no_exprs = None
second_argument (more_exprs e rest) = first_argument rest

-- the local that an argument names, if there is such an argument
abbrev pub local_of_argument : (List ℕ → NameMeaning) → Option Expr → Option ℕ
local_of_argument resolve None = None
local_of_argument resolve (Some e) = local_named resolve e

-- the test by a second argument, if there is an argument and it is a test
abbrev pub test_of_argument : (List ℕ → NameMeaning) → Option Expr → Option Tested
test_of_argument resolve None = None
test_of_argument resolve (Some e) = test_of resolve e

-- the local that a call tests, if it is an `isinstance` test
abbrev pub tested_by_call : (is_test : Test) → Option ℕ → List ℕ
tested_by_call false x = []
tested_by_call true x = option_to_list x

-- the locals that a condition tests, in text order
abbrev pub tested_locals : (List ℕ → NameMeaning) → Expr → List ℕ
tested_locals resolve (is_none p e) = option_to_list (local_named resolve e)
tested_locals resolve (is_not_none p e) = option_to_list (local_named resolve e)
tested_locals resolve (negation p e) = tested_locals resolve e
tested_locals resolve (conjunction p a b) = tested_locals resolve a ++ tested_locals resolve b
tested_locals resolve (disjunction p a b) = tested_locals resolve a ++ tested_locals resolve b
tested_locals resolve (call p callee arguments keywords) =
    tested_by_call (is_instance_test callee arguments keywords) (local_of_argument resolve (first_argument arguments))
tested_locals resolve _ = []

module _ (bases : Bases) (declared : List Tree) (resolve : List ℕ → NameMeaning) where
  -- an environment after a call: narrowed if the call is an `isinstance` test with a second argument that is a test,
  -- else unchanged
  abbrev pub narrow_instance : (holds : Test) → (is_test : Test) → Option ℕ → Option Tested → Env → Env
  narrow_instance holds false x test env = env
  narrow_instance holds true x None env = env
  narrow_instance holds true x (Some test) env = narrow_local bases holds test x env

  -- an environment where a condition is true, or where it is false
  abbrev pub narrow : (holds : Test) → Expr → Env → Env
  narrow holds (is_none p e) env = narrow_local bases holds for_none (local_named resolve e) env
  narrow holds (is_not_none p e) env = narrow_local bases (not holds) for_none (local_named resolve e) env
  narrow holds (negation p e) env = narrow (not holds) e env
  narrow true (conjunction p a b) env = narrow true b (narrow true a env)
  narrow false (conjunction p a b) env =
      join_env bases declared (narrow false a env) (narrow false b (narrow true a env))
  narrow true (disjunction p a b) env = join_env bases declared (narrow true a env) (narrow true b (narrow false a env))
  narrow false (disjunction p a b) env = narrow false b (narrow false a env)
  narrow holds (call p callee arguments keywords) env =
      narrow_instance holds (is_instance_test callee arguments keywords)
      (local_of_argument resolve (first_argument arguments))
      (test_of_argument resolve (second_argument arguments)) env
  narrow holds _ env = env

-- a condition other than `not`, `and` and `or`: it tests at most one local
abbrev pub IsSimple : Expr → Type 0
IsSimple (negation p e) = ⊥
IsSimple (conjunction p a b) = ⊥
IsSimple (disjunction p a b) = ⊥
IsSimple _ = Unit {0}
