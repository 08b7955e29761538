-- Types of a store stay types of it over calls that may add types to it.
use Rattle.std.proofs.Common.{List, Option, Some, None}
use Rattle.std.specs.Prelude.{All}
use Rattle.std.proofs.lemmas.List.Elements.{All-weaker}
use Rattle.pc_types.specs.Tree.{Tree}
use Rattle.pc_types.specs.Store.{KeepsTypes}
use Rattle.pc_flow.specs.Environment.{Env}
use Rattle.pc_flow.specs.Stored.{HasOne, HasEach, GivesEnv}

module _ {Store Ty : Type 0} (has : Store → Ty → Type 0) where
  pub keeps_both : (a b c : Store) → KeepsTypes has a b → KeepsTypes has b c → KeepsTypes has a c
  keeps_both a b c k l = λ ty h. l ty (k ty h)

  module _ (a b : Store) (k : KeepsTypes has a b) where
    pub one_kept : (ty : Option Ty) → HasOne (has a) ty → HasOne (has b) ty
    one_kept None h = tt
    one_kept (Some ty) h = k ty h

    pub each_kept : (types : List (Option Ty)) → HasEach (has a) types → HasEach (has b) types
    each_kept types h = All-weaker (HasOne (has a)) (HasOne (has b)) one_kept types h

    pub all_kept : (types : List Ty) → All (has a) types → All (has b) types
    all_kept types h = All-weaker (has a) (has b) k types h

    pub env_kept : (tree : Ty → Tree) (types : List (Option Ty)) (env : Env) → GivesEnv has tree a types env
        → GivesEnv has tree b types env
    env_kept tree types env g = record { given = each_kept types g.given; is = g.is }
