-- A fact given of the operands of a condition is given of the whole.
use Rattle.std.proofs.Common.{◌≡◌, ℕ, Bool as Test, true, false, not, List, ◌++◌, length, Option, Result, sym, subst}
use Rattle.std.specs.Prelude.{IfOk}
use Rattle.std.proofs.lemmas.Result.{IfOk-weaker}
use Rattle.pc_source.specs.declared.place.Place.{Place}
use Rattle.pc_tree.specs.Tree.{Expr, conjunction, disjunction}
use Rattle.pc_scope.specs.declared.resolution.NameMeaning.{NameMeaning}
use Rattle.pc_types.specs.Tree.{Tree}
use Rattle.pc_types.specs.Below.{Bases, AreSmaller}
use Rattle.pc_types.specs.Store.{KeepsTypes}
use Rattle.pc_flow.specs.Agreement.{AgreeBelow}
use Rattle.pc_flow.specs.Environment.{Env, join_env}
use Rattle.pc_flow.specs.Narrowing.{narrow, tested_locals}
use Rattle.pc_flow.specs.WellFormed.{IsWellFormedEnv, AreWellFormed}
use Rattle.pc_flow.specs.Stored.{env_of, GivesEnv}
use Rattle.pc_flow.specs.Ways.{GivesBoth, GivesWellFormed}
use Rattle.pc_flow.specs.declared.narrowing.BothWays.{BothWays}
use Rattle.pc_flow.proofs.Given.{env_kept}
use Rattle.pc_flow.proofs.Conditions.{conditions_well_formed}
use Rattle.pc_flow.proofs.Untested.{both_agree, either_agrees}

module _ {Store Ty : Type 0} (has : Store → Ty → Type 0) (tree : Ty → Tree) (bases : Bases) (ds : List Tree)
    (resolve : List ℕ → NameMeaning) where
  -- the environments that a negation gives are those of its operand, swapped
  pub swapped_gives : (store : Store) (n m : BothWays Ty) (env : Test → Env) → m.where_true ≡ n.where_false
      → m.where_false ≡ n.where_true → GivesBoth has tree store n env
      → GivesBoth has tree store m (λ holds. env (not holds))
  swapped_gives store n m env e f g = record {
    where_true = subst (λ (types : List (Option Ty)). GivesEnv has tree store types (env false)) (sym e) g.where_false;
    where_false = subst (λ (types : List (Option Ty)). GivesEnv has tree store types (env true)) (sym f) g.where_true;
  }

  -- and it is well-formed, where the environment before was
  module _ (o : AreSmaller bases) (w : AreWellFormed bases ds) (store : Store) (e : Expr) (env : Env)
      (k : IsWellFormedEnv bases env) where
    pub well_formed : (n : BothWays Ty) → GivesBoth has tree store n (λ holds. narrow bases ds resolve holds e env)
        → GivesWellFormed has tree bases store n (λ holds. narrow bases ds resolve holds e env)
    well_formed n g = record {
      both = g;
      where_true = subst (IsWellFormedEnv bases) (sym g.where_true.is)
          (conditions_well_formed bases ds resolve true e env o w k);
      where_false = subst (IsWellFormedEnv bases) (sym g.where_false.is)
          (conditions_well_formed bases ds resolve false e env o w k);
    }

    pub well_formed_result : {E : Type 0} (r : Result (BothWays Ty) E)
        → IfOk r (λ n. GivesBoth has tree store n (λ holds. narrow bases ds resolve holds e env))
        → IfOk r (λ n. GivesWellFormed has tree bases store n (λ holds. narrow bases ds resolve holds e env))
    well_formed_result r g = IfOk-weaker r (λ n. GivesBoth has tree store n
        (λ holds. narrow bases ds resolve holds e env)) (λ n. GivesWellFormed has tree bases store n
        (λ holds. narrow bases ds resolve holds e env)) well_formed g

  -- both ways of a condition of two parts: `on` is where the second part is asked, and `out` where the first settles it
  module _ (o : AreSmaller bases) (w : AreWellFormed bases ds) (a b : Expr) (env : Env) (k : IsWellFormedEnv bases env)
      (one : Store) (on out : List (Option Ty)) (second : BothWays Ty) where
    -- a conjunction
    module _ (f : env_of tree on ≡ narrow bases ds resolve true a env)
        (h : env_of tree out ≡ narrow bases ds resolve false a env)
        (s : GivesBoth has tree one second (λ holds. narrow bases ds resolve holds b (env_of tree on))) where
      pub and_agree : (n : ℕ) → n ≡ length ds → AgreeBelow n (tested_locals resolve a ++ tested_locals resolve b)
          (env_of tree out) (env_of tree second.where_false)
      and_agree n l = rw (h, s.where_false.is, f, l) (both_agree bases ds resolve o w a b env k)

      pub and_gives : (p : Place) (three : Store) (n : BothWays Ty) → KeepsTypes has one three
          → n.where_true ≡ second.where_true → GivesEnv has tree three n.where_false
          (join_env bases ds (env_of tree out) (env_of tree second.where_false))
          → GivesWellFormed has tree bases three n (λ holds. narrow bases ds resolve holds (conjunction p a b) env)
      and_gives p three n kept e j = well_formed o w three (conjunction p a b) env k n (record {
        where_true = subst (λ (types : List (Option Ty)). GivesEnv has tree three types
            (narrow bases ds resolve true (conjunction p a b) env)) (sym e)
            (rw f at (env_kept has one three kept tree second.where_true _ s.where_true));
        where_false = rw (h, s.where_false.is, f) at j;
      })

    -- a disjunction
    module _ (f : env_of tree on ≡ narrow bases ds resolve false a env)
        (h : env_of tree out ≡ narrow bases ds resolve true a env)
        (s : GivesBoth has tree one second (λ holds. narrow bases ds resolve holds b (env_of tree on))) where
      pub or_agree : (n : ℕ) → n ≡ length ds → AgreeBelow n (tested_locals resolve a ++ tested_locals resolve b)
          (env_of tree out) (env_of tree second.where_true)
      or_agree n l = rw (h, s.where_true.is, f, l) (either_agrees bases ds resolve o w a b env k)

      pub or_gives : (p : Place) (three : Store) (n : BothWays Ty) → KeepsTypes has one three
          → n.where_false ≡ second.where_false → GivesEnv has tree three n.where_true
          (join_env bases ds (env_of tree out) (env_of tree second.where_true)) → GivesWellFormed has tree bases three n
          (λ holds. narrow bases ds resolve holds (disjunction p a b) env)
      or_gives p three n kept e j = well_formed o w three (disjunction p a b) env k n (record {
        where_true = rw (h, s.where_true.is, f) at j;
        where_false = subst (λ (types : List (Option Ty)). GivesEnv has tree three types
            (narrow bases ds resolve false (disjunction p a b) env)) (sym e)
            (rw f at (env_kept has one three kept tree second.where_false _ s.where_false));
      })
