-- The environments where a condition is true and where it is false, from the results of narrowing.
use Rattle.std.proofs.Common.{◌≡◌, ◌++◌, List, Option, refl, sym, ap, length, ◌∙◌}
use Rattle.std.proofs.lemmas.List.{length-map}
use Rattle.std.specs.Prelude.{true, false}
use Rattle.pc_source.specs.declared.place.Place.{Place}
use Rattle.pc_tree.specs.Tree.{Expr, negation, conjunction, disjunction}
use Rattle.pc_types.specs.Tree.{Tree}
use Rattle.pc_types.specs.Store.{KeepsTypes}
use Rattle.pc_types.specs.Below.{AreSmaller}
use Rattle.pc_flow.specs.Agreement.{AgreeBelow}
use Rattle.pc_flow.specs.Environment.{Env, join_env}
use Rattle.pc_flow.specs.Naming.{meanings}
use Rattle.pc_flow.specs.Narrowing.{narrow, tested_locals}
use Rattle.pc_flow.specs.Stored.{env_of, declared_one, declared_of, GivesEnv}
use Rattle.pc_flow.specs.Ways.{GivesBoth, GivesWellFormed}
use Rattle.pc_flow.specs.declared.narrowing.BothWays.{BothWays}
use Rattle.pc_flow.proofs.Both.{and_agree, and_gives, or_agree, or_gives}
use Rattle.pc_rules.specs.Computed.Standing.{Standing, HasGivenAll, standing_of}
use Rattle.pc_rules.specs.declared.expr_context.ExprContext.{ExprContext}
use Rattle.pc_rules.specs.Computed.ModuleParents.{class_parents}
use Rattle.pc_rules.proofs.Kept.{keeps_both, stands_kept, stands_after}
use Rattle.pc_expr.specs.Ways.{GivesWays}

module _ {Store Ty : Type 0} (has : Store → Ty → Type 0) (tree : Ty → Tree) (s : ExprContext Ty) (k : Standing) (e : Expr)
    (n : BothWays Ty) where
  -- narrowing gives the same for an equal environment
  pub ways_of : (a b : Store) → KeepsTypes has a b → (types : List (Option Ty)) → HasGivenAll (has a) tree s types
      → (env : Env) → env ≡ k.env → GivesWellFormed has tree (class_parents s.globals.now) b n
      (λ holds. narrow k.context.bases k.declared k.context.resolve holds e env) → GivesWays has tree b s k n e
  ways_of a b keeps types h env same w = record {
    given_true = stands_after (has a) (has b) keeps tree s types h n.where_true w.both.where_true.given w.where_true;
    given_false = stands_after (has a) (has b) keeps tree s types h n.where_false w.both.where_false.given
        w.where_false;
    where_true = w.both.where_true.is ∙ ap (λ x. narrow k.context.bases k.declared k.context.resolve true e x) same;
    where_false = w.both.where_false.is ∙ ap (λ x. narrow k.context.bases k.declared k.context.resolve false e x) same;
  }

  -- as narrowing is told of it
  pub ways_both : (a : Store) → GivesWays has tree a s k n e → (env : Env) → k.env ≡ env
      → GivesBoth has tree a n (λ holds. narrow k.context.bases k.declared k.context.resolve holds e env)
  ways_both a w env same = record {
    where_true = record {
      given = w.given_true.env;
      is = w.where_true
          ∙ ap (λ x. narrow k.context.bases k.declared k.context.resolve true e x) same;
    };
    where_false = record {
      given = w.given_false.env;
      is = w.where_false
          ∙ ap (λ x. narrow k.context.bases k.declared k.context.resolve false e x) same;
    };
  }

  -- it stays so over calls that may add types to the store
  pub ways_kept : (a b : Store) → KeepsTypes has a b → GivesWays has tree a s k n e → GivesWays has tree b s k n e
  ways_kept a b keeps w = record {
    given_true = stands_kept (has a) (has b) keeps tree s n.where_true w.given_true;
    given_false = stands_kept (has a) (has b) keeps tree s n.where_false w.given_false;
    where_true = w.where_true;
    where_false = w.where_false;
  }

-- a negation: the ways of what is negated, the other way round
pub negation_ways : {Store Ty : Type 0} (has : Store → Ty → Type 0) (tree : Ty → Tree) (s : ExprContext Ty) (k : Standing)
    (e : Expr) (p : Place) (a b : Store) → KeepsTypes has a b → (n : BothWays Ty) → GivesWays has tree a s k n e
    → (m : BothWays Ty) → m.where_true ≡ n.where_false → m.where_false ≡ n.where_true
    → GivesWays has tree b s k m (negation p e)
negation_ways has tree s k e p a b keeps n w m t f = record {
  given_true = rw t (stands_kept (has a) (has b) keeps tree s n.where_false w.given_false);
  given_false = rw f (stands_kept (has a) (has b) keeps tree s n.where_true w.given_true);
  where_true = rw t w.where_false;
  where_false = rw f w.where_true;
}

-- a junction: from the ways of its first part, and from those of its second part where that is asked
module _ {Store Ty : Type 0} (has : Store → Ty → Type 0) (tree : Ty → Tree) (s : ExprContext Ty) (types : List (Option Ty))
    (zero one two : Store) (o : AreSmaller (class_parents s.globals.now))
    (h : HasGivenAll (has zero) tree s types) (a b : Expr) (first : BothWays Ty)
    (f : GivesWays has tree one s (standing_of tree s types) first a) (second : BothWays Ty) where
  module _ (g : GivesWays has tree two s (standing_of tree s first.where_true) second b) where
    pub and_ways_agree : AgreeBelow (length s.declared.now) (tested_locals (meanings s.names.now) a ++ tested_locals
        (meanings s.names.now) b) (env_of tree first.where_false) (env_of tree second.where_false)
    and_ways_agree = and_agree has tree (class_parents s.globals.now) (declared_of tree s.declared.now)
        (meanings s.names.now) o h.declared_well_formed a b (env_of tree types) h.env_well_formed two first.where_true
        first.where_false second f.where_true f.where_false (ways_both has tree s (standing_of tree s first.where_true)
        b second two g _ refl) (length s.declared.now) (sym (length-map s.declared.now (declared_one tree)))

    pub and_ways : KeepsTypes has zero two → (p : Place) (three : Store) (n : BothWays Ty) → KeepsTypes has two three
        → n.where_true ≡ second.where_true → GivesEnv has tree three n.where_false
        (join_env (class_parents s.globals.now) (declared_of tree s.declared.now)
        (env_of tree first.where_false) (env_of tree second.where_false))
        → GivesWays has tree three s (standing_of tree s types) n (conjunction p a b)
    and_ways before p three n kept e j =
        ways_of has tree s (standing_of tree s types) (conjunction p a b) n zero three
        (keeps_both has zero two three before kept) types h (env_of tree types) refl
        (and_gives has tree (class_parents s.globals.now) (declared_of tree s.declared.now)
        (meanings s.names.now) o h.declared_well_formed a b (env_of tree types) h.env_well_formed two
        first.where_true first.where_false second f.where_true f.where_false
        (ways_both has tree s (standing_of tree s first.where_true) b second two g _ refl) p three n kept e j)

  module _ (g : GivesWays has tree two s (standing_of tree s first.where_false) second b) where
    pub or_ways_agree : AgreeBelow (length s.declared.now) (tested_locals (meanings s.names.now) a ++ tested_locals
        (meanings s.names.now) b) (env_of tree first.where_true) (env_of tree second.where_true)
    or_ways_agree = or_agree has tree (class_parents s.globals.now) (declared_of tree s.declared.now)
        (meanings s.names.now) o h.declared_well_formed a b (env_of tree types) h.env_well_formed two first.where_false
        first.where_true second f.where_false f.where_true (ways_both has tree s (standing_of tree s first.where_false)
        b second two g _ refl) (length s.declared.now) (sym (length-map s.declared.now (declared_one tree)))

    pub or_ways : KeepsTypes has zero two → (p : Place) (three : Store) (n : BothWays Ty) → KeepsTypes has two three
        → n.where_false ≡ second.where_false → GivesEnv has tree three n.where_true
        (join_env (class_parents s.globals.now) (declared_of tree s.declared.now) (env_of tree first.where_true)
        (env_of tree second.where_true)) → GivesWays has tree three s (standing_of tree s types) n (disjunction p a b)
    or_ways before p three n kept e j =
        ways_of has tree s (standing_of tree s types) (disjunction p a b) n zero three
        (keeps_both has zero two three before kept) types h (env_of tree types) refl
        (or_gives has tree (class_parents s.globals.now) (declared_of tree s.declared.now)
        (meanings s.names.now) o h.declared_well_formed a b (env_of tree types) h.env_well_formed two
        first.where_false first.where_true second f.where_false f.where_true
        (ways_both has tree s (standing_of tree s first.where_false) b second two g _ refl) p three n kept e j)
