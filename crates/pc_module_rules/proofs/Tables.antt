-- Tables of declared types that grow in text order, and environments that depend only on the names bound so far.
use Rattle.std.proofs.Common.{List, [], ap, arith, refl, subst, suc, sym, zero, ℕ, ◌++◌, ◌<◌, ◌∙◌, ◌∷◌, ◌≡◌}
use Rattle.std.specs.Prelude.{Bool as Test, None, Option, Some, false, option_to_list, slice_set, true}
use Rattle.pc_tree.specs.Tree.{Expr}
use Rattle.pc_scope.specs.declared.resolution.NameMeaning.TheVariants as meaning
use Rattle.pc_scope.specs.Resolution.{is_one_of}
use Rattle.pc_types.specs.Tree.{Any, Tree}
use Rattle.pc_types.specs.Below.{Bases}
use Rattle.pc_types.specs.WellFormed.{IsWellFormed}
use Rattle.pc_flow.specs.Environment.{Env, assign, declared_type, join_env, join_envs_onto, join_ways, loop_head}
use Rattle.pc_flow.specs.Narrowing.{narrow}
use Rattle.pc_flow.specs.WellFormed.{AreWellFormed, IsWellFormedEnv}
use Rattle.pc_flow.proofs.Conditions.{conditions_well_formed, heads_well_formed, joins_well_formed}
use Rattle.pc_flow.proofs.Conditions as flow
use Rattle.pc_rules.proofs.Same.{SameWhere, SameWhereAll, all_joins_alike, heads_alike, narrow_alike}
use Rattle.pc_module_rules.specs.Statements.{NamesBound}
use Rattle.pc_module_rules.proofs.OneStatement.{IsAmong, assign_kept}
use Rattle.std.proofs.lemmas.List.{get_or-set_other, get_or-set_same, length-set}
use Rattle.pc_module_rules.specs.Laws.Labellings.{Agree, IsDeclaredTable, OutGoesByNames, Surroundings, GoesByNames}
use Rattle.pc_module_rules.specs.Laws.Labellings.{AllGoByNames}
use Rattle.pc_module_rules.proofs.BoundNames.{Within, within_one}

-- ---- a table with one type set

set_well_formed : (bases : Bases) (ds : List Tree) (x : ℕ) (t : Tree) → IsWellFormed bases t → AreWellFormed bases ds
    → AreWellFormed bases (slice_set ds x t)
set_well_formed bases [] x t h k = tt
set_well_formed bases (d ∷ ds) zero t h k = (h, k.1)
set_well_formed bases (d ∷ ds) (suc x) t h k = (k.0, set_well_formed bases ds x t h k.1)

pub declared_well_formed : (bases : Bases) (ds : List Tree) (x : ℕ) → AreWellFormed bases ds
    → IsWellFormed bases (declared_type ds x)
declared_well_formed bases [] x k = (tt, tt, omega arith)
declared_well_formed bases (d ∷ ds) zero k = k.0
declared_well_formed bases (d ∷ ds) (suc x) k = declared_well_formed bases ds x k.1

where_turn : (ds ds' F : List Tree) (env : Env) → SameWhere ds ds' env → SameWhere ds F env → SameWhere ds' F env
where_turn [] [] [] [] h k = tt
where_turn (d ∷ ds) (d' ∷ ds') (f ∷ F) (None ∷ env) h k = (tt, where_turn ds ds' F env h.1 k.1)
where_turn (d ∷ ds) (d' ∷ ds') (f ∷ F) (Some t ∷ env) h k = (sym h.0 ∙ k.0, where_turn ds ds' F env h.1 k.1)
where_turn [] [] [] (s ∷ env) h k = absurd h
where_turn [] [] (f ∷ F) env h k = absurd k
where_turn [] (d' ∷ ds') F env h k = absurd h
where_turn (d ∷ ds) [] F env h k = absurd h
where_turn (d ∷ ds) (d' ∷ ds') [] env h k = absurd k
where_turn (d ∷ ds) (d' ∷ ds') (f ∷ F) [] h k = absurd h

module _ (around : Surroundings) where
  open around use {whole as m, context as ctx, context_well_formed as ck, count, locals as names}

  pub same_self : (ds : List Tree) (seen : NamesBound) → Agree ctx ds ds seen
  same_self ds seen word x a r = refl

  pub same_on : (ds ds' F : List Tree) (seen after : NamesBound) → Within seen after → Agree ctx ds ds' seen
      → Agree ctx ds' F after → Agree ctx ds F seen
  same_on ds ds' F seen after w s t word x a r = s word x a r ∙ t word x (w word a) r

  pub by_names_on : (ds ds' : List Tree) (seen after : NamesBound) (env : Env) → Within seen after
      → IsDeclaredTable around ds' → Agree ctx ds ds' seen → GoesByNames around ds seen env
      → GoesByNames around ds' after env
  by_names_on ds ds' seen after env w g s h = record {
    well_formed = h.well_formed;
    same = λ F gF t. where_turn ds ds' F env (h.same ds' g s) (h.same F gF (same_on ds ds' F seen after w s t));
  }

  pub all_on : (ds ds' : List Tree) (seen after : NamesBound) (es : List Env) → Within seen after
      → IsDeclaredTable around ds' → Agree ctx ds ds' seen → AllGoByNames around ds seen es
      → AllGoByNames around ds' after es
  all_on ds ds' seen after [] w g s h = tt
  all_on ds ds' seen after (e ∷ es) w g s h = (
    by_names_on ds ds' seen after e w g s h.0,
    all_on ds ds' seen after es w g
        s h.1,
  )

  pub all_both : (ds : List Tree) (seen : NamesBound) (a b : List Env) → AllGoByNames around ds seen a
      → AllGoByNames around ds seen b → AllGoByNames around ds seen (a ++ b)
  all_both ds seen [] b h k = k
  all_both ds seen (e ∷ a) b h k = (h.0, all_both ds seen a b h.1 k)

  pub all_same : (ds F : List Tree) (seen : NamesBound) (es : List Env) → IsDeclaredTable around F
      → Agree ctx ds F seen → AllGoByNames around ds seen es → SameWhereAll ctx.bases ds F es
  all_same ds F seen [] g s h = tt
  all_same ds F seen (e ∷ es) g s h = (h.0.same F g s, all_same ds F seen es g s h.1)

  pub out_on : (ds ds' : List Tree) (seen after : NamesBound) (out : Option Env) → Within seen after
      → IsDeclaredTable around ds' → Agree ctx ds ds' seen → OutGoesByNames around ds seen out
      → OutGoesByNames around ds' after out
  out_on ds ds' seen after None w g s h = tt
  out_on ds ds' seen after (Some env) w g s h = by_names_on ds ds' seen after env w g s h

  pub out_all : (ds : List Tree) (seen : NamesBound) (out : Option Env) → OutGoesByNames around ds seen out
      → AllGoByNames around ds seen (option_to_list out)
  out_all ds seen None h = tt
  out_all ds seen (Some env) h = (h, tt)

  -- ---- conditions, heads of loops, joins, assignments

  pub truth_by_names : (ds : List Tree) (seen : NamesBound) (env : Env) (b : Test) (c : Expr)
      → IsDeclaredTable around ds → GoesByNames around ds seen env
      → GoesByNames around ds seen (narrow ctx.bases ds ctx.resolve b c env)
  truth_by_names ds seen env b c g h = record {
    well_formed = conditions_well_formed ctx.bases ds ctx.resolve b c env ck.smaller g.well_formed h.well_formed;
    same = λ F gF s. (narrow_alike ctx.bases ds F ctx.resolve c b env (h.same F gF s)).kept;
  }

  pub truth_same : (ds F : List Tree) (seen : NamesBound) (env : Env) (b : Test) (c : Expr) → IsDeclaredTable around F
      → Agree ctx ds F seen → GoesByNames around ds seen env → narrow ctx.bases ds ctx.resolve b c env
      ≡ narrow ctx.bases F ctx.resolve b c env
  truth_same ds F seen env b c gF s h = (narrow_alike ctx.bases ds F ctx.resolve c b env (h.same F gF s)).same

  pub head_by_names : (ds : List Tree) (seen : NamesBound) (env : Env) (bound : ℕ → Test) → IsDeclaredTable around ds
      → GoesByNames around ds seen env → GoesByNames around ds seen (loop_head bound ds env)
  head_by_names ds seen env bound g h = record {
    well_formed = heads_well_formed ctx.bases bound ds env g.well_formed h.well_formed;
    same = λ F gF s. (heads_alike ctx.bases bound ds F env (h.same F gF s)).kept;
  }

  pub head_same : (ds F : List Tree) (seen : NamesBound) (env : Env) (bound : ℕ → Test) → IsDeclaredTable around F
      → Agree ctx ds F seen → GoesByNames around ds seen env → loop_head bound ds env ≡ loop_head bound F env
  head_same ds F seen env bound gF s h = (heads_alike ctx.bases bound ds F env (h.same F gF s)).same

  ways_well_formed : (ds : List Tree) (seen : NamesBound) (env : Env) (es : List Env) → IsDeclaredTable around ds
      → IsWellFormedEnv ctx.bases env → AllGoByNames around ds seen es
      → IsWellFormedEnv ctx.bases (join_envs_onto ctx.bases ds env es)
  ways_well_formed ds seen env [] g h k = h
  ways_well_formed ds seen env (e ∷ es) g h k = ways_well_formed ds seen (join_env ctx.bases ds env e) es g
      (joins_well_formed ctx.bases ds env e ck.smaller g.well_formed h k.0.well_formed) k.1

  pub joined_by_names : (ds : List Tree) (seen : NamesBound) (env : Env) (es : List Env) → IsDeclaredTable around ds
      → GoesByNames around ds seen env → AllGoByNames around ds seen es
      → GoesByNames around ds seen (join_envs_onto ctx.bases ds env es)
  joined_by_names ds seen env es g h k = record {
    well_formed = ways_well_formed ds seen env es g h.well_formed k;
    same = λ F gF s. (all_joins_alike ctx.bases ds F env es (h.same F gF s) (all_same ds F seen es gF s k)).kept;
  }

  pub joined_same : (ds F : List Tree) (seen : NamesBound) (env : Env) (es : List Env) → IsDeclaredTable around F
      → Agree ctx ds F seen → GoesByNames around ds seen env → AllGoByNames around ds seen es
      → join_envs_onto ctx.bases ds env es ≡ join_envs_onto ctx.bases F env es
  joined_same ds F seen env es gF s h k = (all_joins_alike ctx.bases ds F env es (h.same F gF s)
      (all_same ds F seen es gF s k)).same

  pub ways_by_names : (ds : List Tree) (seen : NamesBound) (es : List Env) → IsDeclaredTable around ds
      → AllGoByNames around ds seen es → OutGoesByNames around ds seen (join_ways ctx.bases ds es)
  ways_by_names ds seen [] g h = tt
  ways_by_names ds seen (e ∷ es) g h = joined_by_names ds seen e es g h.0 h.1

  pub ways_same : (ds F : List Tree) (seen : NamesBound) (es : List Env) → IsDeclaredTable around F
      → Agree ctx ds F seen → AllGoByNames around ds seen es → join_ways ctx.bases ds es ≡ join_ways ctx.bases F es
  ways_same ds F seen [] gF s h = refl
  ways_same ds F seen (e ∷ es) gF s h = ap Some (joined_same ds F seen e es gF s h.0 h.1)

  pub assign_by_names : (ds : List Tree) (seen : NamesBound) (env : Env) (word : List ℕ) (x : ℕ) (t : Tree)
      → IsAmong word seen → ctx.resolve word ≡ meaning.Local x → IsWellFormed ctx.bases t → GoesByNames around ds seen env
      → GoesByNames around ds seen (assign env x t)
  assign_by_names ds seen env word x t a r k h = record {
    well_formed = flow.assign_well_formed ctx.bases env x t k h.well_formed;
    same = λ F gF s. assign_kept ds F env x t (h.same F gF s) (s word x a r);
  }

  -- ---- a type set at the first binding of a name

  pub set_table : (ds : List Tree) (x : ℕ) (t : Tree) → IsDeclaredTable around ds → IsWellFormed ctx.bases t
      → IsDeclaredTable around (slice_set ds x t)
  set_table ds x t g k = record {
    long = length-set ds x t ∙ g.long;
    well_formed = set_well_formed ctx.bases ds x t k
        g.well_formed;
  }

  pub set_same : (ds : List Tree) (seen : NamesBound) (word : List ℕ) (x : ℕ) (t : Tree) → is_one_of word seen ≡ false
      → ctx.resolve word ≡ meaning.Local x → Agree ctx ds (slice_set ds x t) seen
  set_same ds seen word x t f r w y a i = sym (get_or-set_other ds x y t Any (λ q.
      let e : x ≡ y = sym q in
      let j : ctx.resolve w ≡ meaning.Local x = i ∙ ap meaning.Local (sym e) in
      let is : w ≡ word = names.apart w word x j r in
      let a' : is_one_of word seen ≡ true = subst (λ v. IsAmong v seen) is a in
      true_false a' f))
    where
      true_false : {b : Test} → b ≡ true → b ≡ false → ⊥
      true_false e e' = absurd (grind (arith, e, e'))

  pub set_is : (ds : List Tree) (word : List ℕ) (x : ℕ) (t : Tree) → IsDeclaredTable around ds
      → ctx.resolve word ≡ meaning.Local x → declared_type (slice_set ds x t) x ≡ t
  set_is ds word x t g r = let b = names.below word x r in get_or-set_same ds x t Any
      (subst (λ n. x < n) (sym g.long) b)

  pub same_less : (ds F : List Tree) (word : List ℕ) (seen : NamesBound) → Agree ctx ds F (word ∷ seen)
      → Agree ctx ds F seen
  same_less ds F word seen s w x a r = s w x (within_one word seen w a) r

  pub still_same : (ds : List Tree) (seen after : NamesBound) (env : Env) → Within seen after
      → IsDeclaredTable around ds → GoesByNames around ds seen env → GoesByNames around ds after env
  still_same ds seen after env w g h = by_names_on ds ds seen after env w g (same_self ds seen) h

  pub all_wider : (ds : List Tree) (seen after : NamesBound) (es : List Env) → Within seen after
      → IsDeclaredTable around ds → AllGoByNames around ds seen es → AllGoByNames around ds after es
  all_wider ds seen after es w g h = all_on ds ds seen after es w g (same_self ds seen) h

  pub out_wider : (ds : List Tree) (seen after : NamesBound) (out : Option Env) → Within seen after
      → IsDeclaredTable around ds → OutGoesByNames around ds seen out → OutGoesByNames around ds after out
  out_wider ds seen after out w g h = out_on ds ds seen after out w g (same_self ds seen) h
