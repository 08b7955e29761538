-- Well-formed environments, and laws: tests, assignments, joins, conditions and loop heads keep them well-formed.
-- Own rule of the profile.
use Rattle.std.specs.Prelude.{ℕ, Bool as Test, List, [], ◌∷◌, Option, Some, None}
use Rattle.pc_tree.specs.declared.code.Code.{Code}
use Rattle.pc_tree.specs.Tree.{Expr}
use Rattle.pc_scope.specs.declared.resolution.NameMeaning.{NameMeaning}
use Rattle.pc_types.specs.Tree.{Tree, Int, Bool, Str, Class}
use Rattle.pc_types.specs.Below.{Bases, AreSmaller}
use Rattle.pc_types.specs.WellFormed.{IsWellFormed}
use Rattle.pc_flow.specs.Environment.{Env, assign, assigned_type, join_env, loop_head}
use Rattle.pc_flow.specs.Narrowing.{Tested, for_type, type_where_true, type_where_false, narrow}

-- a possible test: for None, a list, `int`, `str`, `bool` or a class
abbrev pub IsTestable : Tested → Type 0
IsTestable (for_type Int) = Unit {0}
IsTestable (for_type Str) = Unit {0}
IsTestable (for_type Bool) = Unit {0}
IsTestable (for_type (Class c)) = Unit {0}
IsTestable (for_type t) = ⊥
IsTestable _ = Unit {0}

-- an optional type is well-formed
abbrev pub IsWellFormedIfAny : Bases → Option Tree → Type 0
IsWellFormedIfAny bases None = Unit {0}
IsWellFormedIfAny bases (Some t) = IsWellFormed bases t

-- the current type of each assigned local is well-formed
abbrev pub IsWellFormedEnv : Bases → Env → Type 0
IsWellFormedEnv bases [] = Unit {0}
IsWellFormedEnv bases (t ∷ ts) = IsWellFormedIfAny bases t × IsWellFormedEnv bases ts

-- each of several types is well-formed
abbrev pub AreWellFormed : Bases → List Tree → Type 0
AreWellFormed bases [] = Unit {0}
AreWellFormed bases (t ∷ ts) = IsWellFormed bases t × AreWellFormed bases ts

-- the part of a well-formed type that passes a test is well-formed
abbrev pub PassingIsWellFormed : Type 0
PassingIsWellFormed = (bases : Bases) (test : Tested) (t : Tree) → AreSmaller bases → IsTestable test
    → IsWellFormed bases t → IsWellFormed bases (type_where_true bases test t)

-- the part of a well-formed type that fails a test is well-formed, whatever the test
abbrev pub FailingIsWellFormed : Type 0
FailingIsWellFormed = (bases : Bases) (test : Tested) (t : Tree) → AreSmaller bases → IsWellFormed bases t
    → IsWellFormed bases (type_where_false bases test t)

-- an assignment to a local keeps an environment well-formed if the declared type and the assigned type are well-formed
abbrev pub AssignmentsKeepWellFormed : Type 0
AssignmentsKeepWellFormed =
    (bases : Bases) (env : Env) (x : ℕ) (declared from : Tree) (found : Option Code) →
    IsWellFormed bases declared →
    IsWellFormed bases from →
    IsWellFormedEnv bases env →
    IsWellFormedEnv bases (assign env x (assigned_type declared from found))

-- the join of well-formed environments is well-formed if the declared types are
abbrev pub JoinsKeepWellFormed : Type 0
JoinsKeepWellFormed = (bases : Bases) (declared : List Tree) (a b : Env) → AreSmaller bases
    → AreWellFormed bases declared → IsWellFormedEnv bases a → IsWellFormedEnv bases b
    → IsWellFormedEnv bases (join_env bases declared a b)

-- a condition keeps an environment well-formed, whether true or false, if the declared types are well-formed
abbrev pub ConditionsKeepWellFormed : Type 0
ConditionsKeepWellFormed =
    (bases : Bases) (declared : List Tree) (resolve : List ℕ → NameMeaning) (holds : Test) (e : Expr) (env : Env)
    → AreSmaller bases → AreWellFormed bases declared → IsWellFormedEnv bases env
    → IsWellFormedEnv bases (narrow bases declared resolve holds e env)

-- a loop head keeps types well-formed if the declared types are, whatever locals the loop binds
abbrev pub LoopHeadsKeepWellFormed : Type 0
LoopHeadsKeepWellFormed = (bases : Bases) (bound : ℕ → Test) (declared : List Tree) (env : Env)
    → AreWellFormed bases declared → IsWellFormedEnv bases env → IsWellFormedEnv bases (loop_head bound declared env)
