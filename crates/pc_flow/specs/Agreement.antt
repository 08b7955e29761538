-- Tables of declared types that agree on each assigned local, environments that agree outside some locals, and laws:
-- conditions and joins leave the other locals unchanged.
-- Own rule of the profile.
use Rattle.std.specs.Prelude.{◌≡◌, ◌<◌, ℕ, nat_eq, length, List, [], ◌∷◌, Bool as Test, false, Option, Some, None}
use Rattle.std.specs.List.{list_any}
use Rattle.pc_tree.specs.Tree.{Expr}
use Rattle.pc_scope.specs.declared.resolution.NameMeaning.{NameMeaning}
use Rattle.pc_types.specs.Tree.{Tree}
use Rattle.pc_types.specs.Below.{Bases, AreSmaller}
use Rattle.pc_types.specs.Join.{join}
use Rattle.pc_flow.specs.Environment.{Env, current, join_env}
use Rattle.pc_flow.specs.Narrowing.{narrow, tested_locals}
use Rattle.pc_flow.specs.WellFormed.{IsWellFormedEnv, AreWellFormed}

-- two declared types of a local are equal if the local is assigned
abbrev pub SameAt : Tree → Tree → Option Tree → Type 0
SameAt d d' None = Unit {0}
SameAt d d' (Some t) = d ≡ d'

-- two tables of declared types are equal on each local that an environment assigns, and have the same number of locals
abbrev pub SameWhere : List Tree → List Tree → Env → Type 0
SameWhere [] [] [] = Unit {0}
SameWhere (d ∷ ds) (d' ∷ ds') (s ∷ env) = SameAt d d' s × SameWhere ds ds' env
SameWhere _ _ _ = ⊥

-- whether a local is in a list of locals
abbrev pub is_among : List ℕ → ℕ → Test
is_among locals x = list_any (nat_eq x) locals

-- two environments agree on each local outside a list
abbrev pub AgreeOutside : (locals : List ℕ) → (a b : Env) → Type 0
AgreeOutside locals a b = (x : ℕ) → is_among locals x ≡ false → current a x ≡ current b x

-- two environments agree on each local that is below a number and outside a list
abbrev pub AgreeBelow : (n : ℕ) → (locals : List ℕ) → (a b : Env) → Type 0
AgreeBelow n locals a b = (x : ℕ) → x < n → is_among locals x ≡ false → current a x ≡ current b x

-- the type of a local on one path subsumes that on another: the local is unassigned there, or the join of both is that
-- type
abbrev pub TakesIn : Bases → (s t : Option Tree) → Type 0
TakesIn bases None t = Unit {0}
TakesIn bases (Some s) None = ⊥
TakesIn bases (Some s) (Some t) = join bases s t ≡ Some s

-- an environment subsumes another at each local outside a list: their join there is the first one
abbrev pub TakesInOutside : Bases → (locals : List ℕ) → (a b : Env) → Type 0
TakesInOutside bases locals a b = (x : ℕ) → is_among locals x ≡ false → TakesIn bases (current a x) (current b x)

-- a condition leaves each local that it does not test unchanged, whether it is true or false
abbrev pub ConditionsKeepUntested : Type 0
ConditionsKeepUntested =
    (bases : Bases) (declared : List Tree) (resolve : List ℕ → NameMeaning) (holds : Test) (e : Expr) (env : Env)
    → AreSmaller bases → AreWellFormed bases declared → IsWellFormedEnv bases env → length env ≡ length declared
    → AgreeOutside (tested_locals resolve e) (narrow bases declared resolve holds e env) env

-- a condition keeps the number of locals
abbrev pub ConditionsKeepLocals : Type 0
ConditionsKeepLocals =
    (bases : Bases) (declared : List Tree) (resolve : List ℕ → NameMeaning) (holds : Test) (e : Expr) (env : Env)
    → length env ≡ length declared → length (narrow bases declared resolve holds e env) ≡ length declared

-- where two paths join, a local with the same current type on both keeps it
abbrev pub JoinsKeepAgreed : Type 0
JoinsKeepAgreed = (bases : Bases) (declared : List Tree) (a b : Env) (x : ℕ) → IsWellFormedEnv bases a
    → length a ≡ length declared → length b ≡ length declared → current a x ≡ current b x
    → current (join_env bases declared a b) x ≡ current a x
