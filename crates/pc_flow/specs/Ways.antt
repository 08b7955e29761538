-- The results of narrowing.
-- Own rule of the profile.
use Rattle.std.specs.Prelude.{List, Option, Bool as Test, true, false}
use Rattle.pc_types.specs.Tree.{Tree}
use Rattle.pc_types.specs.Below.{Bases}
use Rattle.pc_flow.specs.Environment.{Env}
use Rattle.pc_flow.specs.WellFormed.{IsWellFormedEnv}
use Rattle.pc_flow.specs.Stored.{env_of, GivesEnv}
use Rattle.pc_flow.specs.declared.narrowing.BothWays.{BothWays}
use Rattle.pc_flow.specs.declared.junctions.Connective.{Connective}
use Rattle.pc_flow.specs.declared.junctions.Connective.TheVariants.{And, Or}

module _ {Store Ty : Type 0} (has : Store → Ty → Type 0) (tree : Ty → Tree) where
  -- stored environments that mean these: one where a condition is true, one where it is false
  pub record GivesBoth (store : Store) (n : BothWays Ty) (env : (holds : Test) → Env) : Type 0 where
    pub where_true : GivesEnv has tree store n.where_true (env true)
    pub where_false : GivesEnv has tree store n.where_false (env false)

  -- stored environments that mean these, with well-formed types
  pub record GivesWellFormed (bases : Bases) (store : Store) (n : BothWays Ty)
      (env : (holds : Test) → Env) : Type 0 where
    pub both : GivesBoth store n env
    pub where_true : IsWellFormedEnv bases (env_of tree n.where_true)
    pub where_false : IsWellFormedEnv bases (env_of tree n.where_false)

module _ {Ty : Type 0} where
  -- the outcome of an operand after which a junction continues: true for `and`, false for `or`
  abbrev pub way_on : Connective → BothWays Ty → List (Option Ty)
  way_on And n = n.where_true
  way_on Or n = n.where_false

  -- the outcome of an operand that decides a junction: false for `and`, true for `or`
  abbrev pub way_out : Connective → BothWays Ty → List (Option Ty)
  way_out And n = n.where_false
  way_out Or n = n.where_true
