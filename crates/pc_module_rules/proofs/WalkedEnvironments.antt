-- Environments that fit a walk's table: conditions, heads of loops and joins have the same result with it as with the
-- declared types.
use Rattle.std.proofs.Common.{◌≡◌, ℕ, List, [], ◌∷◌, ◌++◌, refl, sym, ap, ◌∙◌, subst, append-nil}
use Rattle.std.specs.Prelude.{Bool as Test, Option, Some, None, option_to_list}
use Rattle.pc_tree.specs.Tree.{Expr}
use Rattle.pc_types.specs.Tree.{Tree}
use Rattle.pc_types.specs.Below.{Bases}
use Rattle.pc_flow.specs.Environment.{Env, join_env, join_envs_onto, join_ways, loop_head}
use Rattle.pc_flow.specs.Narrowing.{narrow}
use Rattle.pc_flow.specs.WellFormed.{IsWellFormedEnv}
use Rattle.pc_flow.proofs.Conditions.{conditions_well_formed, heads_well_formed, joins_well_formed}
use Rattle.pc_rules.proofs.Same.{joins_alike, heads_alike, narrow_alike}
use Rattle.pc_module_rules.specs.Laws.Labellings.{Surroundings}
use Rattle.pc_module_rules.specs.Computed.Statements.{DeclaredTypes, type_table, join_onto_way, with_way}
use Rattle.pc_module_rules.specs.Laws.Walks.{EnvFits, OutFits, with_breaks}
use Rattle.pc_module_rules.proofs.WalkedTables.{types_well_formed}

-- ---- several joined, one after the other

pub joined_both : (bases : Bases) (ds : List Tree) (env : Env) (a b : List Env)
    → join_envs_onto bases ds (join_envs_onto bases ds env a) b ≡ join_envs_onto bases ds env (a ++ b)
joined_both bases ds env [] b = refl
joined_both bases ds env (e ∷ a) b = joined_both bases ds (join_env bases ds env e) a b

pub breaks_both : (bases : Bases) (ds : List Tree) (exit_env : Option Env) (a b : List Env)
    → with_breaks bases ds (with_breaks bases ds exit_env a) b ≡ with_breaks bases ds exit_env (a ++ b)
breaks_both bases ds None a b = refl
breaks_both bases ds (Some way) a b = ap Some (joined_both bases ds way a b)

pub no_breaks : (bases : Bases) (ds : List Tree) (exit_env : Option Env) → exit_env ≡ with_breaks bases ds exit_env []
no_breaks bases ds None = refl
no_breaks bases ds (Some way) = refl

module _ (around : Surroundings) (declared : List Tree) (table : DeclaredTypes)
    (kt : IsWellFormedEnv around.context.bases table) where
  open around use {context as ctx, context_well_formed as ck}

  abbrev EnvHere : Env → Type 0
  EnvHere env = EnvFits around declared table env

  -- an environment where a condition is true, or false
  pub truth_same : (b : Test) (c : Expr) (env : Env) → EnvHere env → narrow ctx.bases declared ctx.resolve b c env
      ≡ narrow ctx.bases (type_table table) ctx.resolve b c env
  truth_same b c env h = (narrow_alike ctx.bases declared (type_table table) ctx.resolve c b env h.same).same

  pub truth_fits : (b : Test) (c : Expr) (env : Env) → EnvHere env
      → EnvHere (narrow ctx.bases declared ctx.resolve b c env)
  truth_fits b c env h = record {
    same = (narrow_alike ctx.bases declared (type_table table) ctx.resolve c b env h.same).kept;
    well_formed = subst (IsWellFormedEnv ctx.bases) (sym (truth_same b c env h))
        (conditions_well_formed ctx.bases (type_table table) ctx.resolve b c env ck.smaller
        (types_well_formed ctx.bases table kt) h.well_formed);
  }

  -- the head of a loop
  pub head_same : (bound : ℕ → Test) (env : Env) → EnvHere env → loop_head bound declared env ≡ loop_head bound
      (type_table table) env
  head_same bound env h = (heads_alike ctx.bases bound declared (type_table table) env h.same).same

  pub head_fits : (bound : ℕ → Test) (env : Env) → EnvHere env → EnvHere (loop_head bound declared env)
  head_fits bound env h = record {
    same = (heads_alike ctx.bases bound declared (type_table table) env h.same).kept;
    well_formed = subst (IsWellFormedEnv ctx.bases) (sym (head_same bound env h))
        (heads_well_formed ctx.bases bound (type_table table) env (types_well_formed ctx.bases table kt) h.well_formed);
  }

  -- two joined
  join_same : (a b : Env) → EnvHere a → EnvHere b → join_env ctx.bases declared a b ≡ join_env ctx.bases
      (type_table table) a b
  join_same a b h k = (joins_alike ctx.bases declared (type_table table) a b h.same k.same).same

  join_fits : (a b : Env) → EnvHere a → EnvHere b → EnvHere (join_env ctx.bases (type_table table) a b)
  join_fits a b h k =
      let is = join_same a b h k in
      subst EnvHere is (record {
        same = (joins_alike ctx.bases declared (type_table table) a b h.same k.same).kept;
        well_formed = subst (IsWellFormedEnv ctx.bases) (sym is) (joins_well_formed ctx.bases (type_table table) a b
            ck.smaller (types_well_formed ctx.bases table kt) h.well_formed k.well_formed);
      })

  -- one `break` more
  pub one_break : (exit_env : Option Env) (env : Env) → OutFits around declared table exit_env → EnvHere env
      → join_onto_way ctx.bases table exit_env env ≡ with_breaks ctx.bases declared exit_env (env ∷ [])
  one_break None env h k = refl
  one_break (Some way) env h k = ap Some (sym (join_same way env h k))

  pub break_fits : (exit_env : Option Env) (env : Env) → OutFits around declared table exit_env → EnvHere env
      → OutFits around declared table (join_onto_way ctx.bases table exit_env env)
  break_fits None env h k = tt
  break_fits (Some way) env h k = join_fits way env h k

  -- one way more where several meet
  pub one_way : (before : List Env) (out : Option Env) → OutFits around declared table
      (join_ways ctx.bases declared before) → OutFits around declared table out
      → with_way ctx.bases table (join_ways ctx.bases declared before) out ≡ join_ways ctx.bases declared
      (before ++ option_to_list out)
  one_way before None h k = ap (join_ways ctx.bases declared) (sym (append-nil before))
  one_way [] (Some env) h k = refl
  one_way (e ∷ es) (Some env) h k = ap Some (sym (join_same (join_envs_onto ctx.bases declared e es) env h k)
      ∙ joined_both ctx.bases declared e es (env ∷ []))

  pub way_fits : (ways out : Option Env) → OutFits around declared table ways → OutFits around declared table out
      → OutFits around declared table (with_way ctx.bases table ways out)
  way_fits ways None h k = h
  way_fits None (Some env) h k = k
  way_fits (Some way) (Some env) h k = join_fits way env h k
