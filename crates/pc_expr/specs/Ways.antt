-- The environments where a condition is true and where it is false. Own rule of the profile.
use Rattle.std.specs.Prelude.{◌≡◌, true, false}
use Rattle.pc_tree.specs.Tree.{Expr}
use Rattle.pc_types.specs.Tree.{Tree}
use Rattle.pc_flow.specs.Stored.{env_of}
use Rattle.pc_flow.specs.declared.narrowing.BothWays.{BothWays}
use Rattle.pc_rules.specs.Computed.Standing.{Standing, narrowed_standing, HasGivenAll}
use Rattle.pc_rules.specs.declared.expr_context.ExprContext.{ExprContext}

module _ {Store Ty : Type 0} (has : Store → Ty → Type 0) (tree : Ty → Tree) where
  -- environments of the store that narrow an environment by a condition: where it is true, and where it is false
  pub record GivesWays (store : Store) (s : ExprContext Ty) (k : Standing) (n : BothWays Ty) (e : Expr) : Type 0 where
    pub given_true : HasGivenAll (has store) tree s n.where_true
    pub given_false : HasGivenAll (has store) tree s n.where_false
    pub where_true : env_of tree n.where_true ≡ (narrowed_standing k true e).env
    pub where_false : env_of tree n.where_false ≡ (narrowed_standing k false e).env
