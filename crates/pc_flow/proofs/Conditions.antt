-- Assignments, joins, conditions and heads of loops keep environments well-formed.
use Rattle.std.proofs.Common.{◌≡◌, ℕ, zero, suc, not, Bool as Test, true, false, List, [], ◌∷◌, Option, Some, None}
use Rattle.std.proofs.Common.{refl, arith}
use Rattle.std.specs.Prelude.{unwrap_or}
use Rattle.pc_tree.specs.Tree.{Expr, name, negation, is_none, is_not_none, conjunction, disjunction, call}
use Rattle.pc_scope.specs.declared.resolution.Builtin.TheVariants as builtin
use Rattle.pc_scope.specs.declared.resolution.NameMeaning.{NameMeaning}
use Rattle.pc_scope.specs.declared.resolution.NameMeaning.TheVariants as meaning
use Rattle.pc_scope.specs.Expressions.{is_instance_test}
use Rattle.pc_tree.specs.declared.code.Code.{Code}
use Rattle.pc_types.specs.Tree.{Tree, Object, Union}
use Rattle.pc_types.specs.Below.{Bases, AreSmaller}
use Rattle.pc_types.specs.Join.{join}
use Rattle.pc_types.specs.WellFormed.{IsWellFormed}
use Rattle.pc_types.proofs.JoinReduced.{join_well_formed}
use Rattle.pc_flow.specs.Environment.{Env, current, assign, assigned_type, join_local, join_or_object, head_local}
use Rattle.pc_flow.specs.Narrowing.{Tested, for_none, tested_as, narrow_current, narrow_local, local_named, test_named}
use Rattle.pc_flow.specs.Narrowing.{test_of, first_argument, second_argument, local_of_argument, test_of_argument}
use Rattle.pc_flow.specs.Narrowing.{narrow_instance, narrow}
use Rattle.pc_flow.specs.WellFormed.{IsTestable, IsWellFormedIfAny, IsWellFormedEnv, AreWellFormed}
use Rattle.pc_flow.specs.WellFormed.{AssignmentsKeepWellFormed, ConditionsKeepWellFormed, JoinsKeepWellFormed}
use Rattle.pc_flow.specs.WellFormed.{LoopHeadsKeepWellFormed}
use Rattle.pc_flow.proofs.Narrowed.{passing_well_formed, failing_well_formed}

-- the join of two well-formed types, or else a type that is well-formed
pub join_or_well_formed : (bases : Bases) (s t d : Tree) → AreSmaller bases → IsWellFormed bases s
    → IsWellFormed bases t → IsWellFormed bases d → IsWellFormed bases (unwrap_or (join bases s t) d)
join_or_well_formed bases s t d o h k g = go (join bases s t) refl
  where
    go : (j : Option Tree) → join bases s t ≡ j → IsWellFormed bases (unwrap_or j d)
    go None e = g
    go (Some u) e = join_well_formed bases s t u o h.0 k.0 h.1 k.1 e

pub join_object_well_formed : (bases : Bases) (s t : Tree) → AreSmaller bases → IsWellFormed bases s
    → IsWellFormed bases t → IsWellFormed bases (join_or_object bases s t)
join_object_well_formed bases s t o h k = join_or_well_formed bases s t Object o h k (tt, tt, omega arith)

local_joined : (bases : Bases) (d : Tree) (s t : Option Tree) → AreSmaller bases → IsWellFormed bases d
    → IsWellFormedIfAny bases s → IsWellFormedIfAny bases t → IsWellFormedIfAny bases (join_local bases d s t)
local_joined bases d None t o g h k = tt
local_joined bases d (Some s) None o g h k = tt
local_joined bases d (Some s) (Some t) o g h k = join_or_well_formed bases s t d o h k g

-- where two ways meet
pub joins_well_formed : JoinsKeepWellFormed
joins_well_formed bases (d ∷ ds) (s ∷ ss) (t ∷ ts) o g h k = (
  local_joined bases d s t o g.0 h.0 k.0,
  joins_well_formed bases ds ss ts o g.1 h.1 k.1,
)
joins_well_formed bases [] a b o g h k = tt
joins_well_formed bases (d ∷ ds) [] b o g h k = tt
joins_well_formed bases (d ∷ ds) (s ∷ ss) [] o g h k = tt

-- one local assigned, and the current type of one
pub assign_well_formed : (bases : Bases) (env : Env) (x : ℕ) (t : Tree) → IsWellFormed bases t
    → IsWellFormedEnv bases env → IsWellFormedEnv bases (assign env x t)
assign_well_formed bases [] x t h k = tt
assign_well_formed bases (s ∷ ss) zero t h k = (h, k.1)
assign_well_formed bases (s ∷ ss) (suc x) t h k = (k.0, assign_well_formed bases ss x t h k.1)

pub current_well_formed : (bases : Bases) (env : Env) (x : ℕ) → IsWellFormedEnv bases env
    → IsWellFormedIfAny bases (current env x)
current_well_formed bases [] x k = tt
current_well_formed bases (s ∷ ss) zero k = k.0
current_well_formed bases (s ∷ ss) (suc x) k = current_well_formed bases ss x k.1

-- an assignment
pub assigned_well_formed : (bases : Bases) (d s : Tree) (c : Option Code) → IsWellFormed bases d → IsWellFormed bases s
    → IsWellFormed bases (assigned_type d s c)
assigned_well_formed bases (Union a b) s None h k = k
assigned_well_formed bases (Union a b) s (Some c) h k = h
assigned_well_formed bases d s c h k = h

pub assignments_well_formed : AssignmentsKeepWellFormed
assignments_well_formed bases env x d s c h k = assign_well_formed bases env x (assigned_type d s c)
    (assigned_well_formed bases d s c h k)

-- the head of a loop
head_local_well_formed : (bases : Bases) (b : Test) (d : Tree) (t : Option Tree) → IsWellFormed bases d
    → IsWellFormedIfAny bases t → IsWellFormedIfAny bases (head_local b d t)
head_local_well_formed bases b d None h k = tt
head_local_well_formed bases true d (Some t) h k = h
head_local_well_formed bases false d (Some t) h k = k

pub heads_well_formed : LoopHeadsKeepWellFormed
heads_well_formed bases bound [] env h k = tt
heads_well_formed bases bound (d ∷ ds) [] h k = tt
heads_well_formed bases bound (d ∷ ds) (t ∷ env) h k = (
  head_local_well_formed bases (bound zero) d t h.0 k.0,
  heads_well_formed bases (λ x. bound (suc x)) ds env h.1 k.1,
)

-- a test of a local, and a condition
module _ (bases : Bases) (o : AreSmaller bases) where
  tested_well_formed : (holds : Test) (test : Tested) (t : Tree) → IsTestable test → IsWellFormed bases t
      → IsWellFormed bases (tested_as bases holds test t)
  tested_well_formed true test t g k = passing_well_formed bases test t o g k
  tested_well_formed false test t g k = failing_well_formed bases test t o k

  at_current : (holds : Test) (test : Tested) (x : ℕ) (env : Env) (t : Option Tree) → IsTestable test
      → IsWellFormedIfAny bases t → IsWellFormedEnv bases env → IsWellFormedEnv bases
      (narrow_current bases holds test x env t)
  at_current holds test x env None g h k = k
  at_current holds test x env (Some t) g h k = assign_well_formed bases env x (tested_as bases holds test t)
      (tested_well_formed holds test t g h) k

  at_local : (holds : Test) (test : Tested) (x : Option ℕ) (env : Env) → IsTestable test → IsWellFormedEnv bases env
      → IsWellFormedEnv bases (narrow_local bases holds test x env)
  at_local holds test None env g k = k
  at_local holds test (Some x) env g k = at_current holds test x env (current env x) g
      (current_well_formed bases env x k) k

  -- a type that a name tests for is one that can be tested for
  abbrev IsFine : Option Tested → Type 0
  IsFine None = Unit {0}
  IsFine (Some test) = IsTestable test

  named_fine : (r : NameMeaning) → IsFine (test_named r)
  named_fine (meaning.Class c) = tt
  named_fine (meaning.Builtin builtin.Int) = tt
  named_fine (meaning.Builtin builtin.Str) = tt
  named_fine (meaning.Builtin builtin.Bool) = tt
  named_fine (meaning.Builtin builtin.List) = tt
  named_fine _ = tt

  module _ (declared : List Tree) (g : AreWellFormed bases declared) (resolve : List ℕ → NameMeaning) where
    of_fine : (e : Expr) → IsFine (test_of resolve e)
    of_fine (name n) = named_fine (resolve n.text)
    of_fine _ = tt

    argument_fine : (e : Option Expr) → IsFine (test_of_argument resolve e)
    argument_fine None = tt
    argument_fine (Some e) = of_fine e

    at_instance : (holds is_test : Test) (x : Option ℕ) (test : Option Tested) (env : Env) → IsFine test
        → IsWellFormedEnv bases env → IsWellFormedEnv bases (narrow_instance bases declared resolve holds is_test x test
        env)
    at_instance holds false x test env f k = k
    at_instance holds true x None env f k = k
    at_instance holds true x (Some test) env f k = at_local holds test x env f k

    narrow_well_formed : (holds : Test) (e : Expr) (env : Env) → IsWellFormedEnv bases env
        → IsWellFormedEnv bases (narrow bases declared resolve holds e env)
    narrow_well_formed holds (is_none p e) env k = at_local holds for_none (local_named resolve e) env tt k
    narrow_well_formed holds (is_not_none p e) env k = at_local (not holds) for_none (local_named resolve e) env tt k
    narrow_well_formed holds (negation p e) env k = narrow_well_formed (not holds) e env k
    narrow_well_formed true (conjunction p a b) env k = narrow_well_formed true b _ (narrow_well_formed true a env k)
    narrow_well_formed false (conjunction p a b) env k =
        joins_well_formed bases declared _ _ o g (narrow_well_formed false a env k)
        (narrow_well_formed false b _ (narrow_well_formed true a env k))
    narrow_well_formed true (disjunction p a b) env k =
        joins_well_formed bases declared _ _ o g (narrow_well_formed true a env k)
        (narrow_well_formed true b _ (narrow_well_formed false a env k))
    narrow_well_formed false (disjunction p a b) env k = narrow_well_formed false b _ (narrow_well_formed false a env k)
    narrow_well_formed holds (call p callee arguments keywords) env k =
        at_instance holds (is_instance_test callee arguments keywords)
        (local_of_argument resolve (first_argument arguments)) (test_of_argument resolve
        (second_argument arguments)) env (argument_fine (second_argument arguments)) k
    narrow_well_formed holds _ env k = k

pub conditions_well_formed : ConditionsKeepWellFormed
conditions_well_formed bases declared resolve holds e env o g k = narrow_well_formed bases o declared g resolve holds e
    env k
