-- Nested steps, one more at a time: if each form of expression is safe over safe parts, any number of nested steps is
-- safe.
use Rattle.std.proofs.Common.{ℕ, zero, suc}
use Rattle.pc_tree.specs.Tree.{Module}
use Rattle.pc_types.specs.Tree.{Tree}
use Rattle.pc_rules.specs.Context.{Context}
use Rattle.pc_value.specs.Value.{Stops, Cut}
use Rattle.pc_machine.specs.Free.{Step, free}
use Rattle.pc_machine.specs.Evaluation.{eval_node, eval_over, exec_all, steps}
use Rattle.pc_sound.proofs.Steps.Judgment.{Around, IsContextOf}
use Rattle.pc_sound.proofs.Steps.SafeSteps.{bind_safe, comes_safe, may_stop_safe, weaken}
use Rattle.pc_sound.proofs.Steps.LeadingSteps.{leads_comes}
use Rattle.pc_sound.proofs.Expressions.SimpleExpressions.{GoodEval}
use Rattle.pc_sound.proofs.Steps.Places.{steps_evaluate}
use Rattle.pc_sound.proofs.Expressions.Conditions.{Decides}
use Rattle.pc_sound.proofs.Statements.WaysOut.{GoodExec}
use Rattle.pc_sound.proofs.Statements.SimpleStatements.{GoodStores}
use Rattle.pc_sound.proofs.Statements.LoopTurns.{GoodAgain, while_turn_runs}
use Rattle.pc_sound.proofs.Statements.ForLoops.{GoodIterables, GoodTurns, for_turn_runs}
use Rattle.pc_sound.proofs.Statements.StatementNodes.{GoodParts, suites_run}

-- bodies of one module, with what is around each, what each may name and what it returns
pub record Bodies : Type 1 where
  pub Body : Type 0
  pub around : Body → Around
  pub ctx : Body → Context
  pub fits : (b : Body) → IsContextOf (around b) (ctx b)
  pub returned : Body → Tree

module _ (m : Module) (bodies : Bodies) where
  -- in each body all parts are safe
  pub record AllGood (n : ℕ) : Type 1 where
    pub eval : (b : bodies.Body) → GoodEval (bodies.around b) (bodies.ctx b) (steps Step free n).eval
    pub decides : (b : bodies.Body) → Decides (bodies.around b) (bodies.ctx b) (steps Step free n).eval
    pub exec : (b : bodies.Body) → GoodExec (bodies.around b) (bodies.ctx b) m (bodies.returned b)
        (steps Step free n).exec
    pub again : (b : bodies.Body) → GoodAgain (bodies.around b) (bodies.ctx b) (bodies.fits b) m (bodies.returned b)
        (steps Step free n).again
    pub turns : (b : bodies.Body) → GoodTurns (bodies.around b) (bodies.ctx b) (bodies.fits b) m (bodies.returned b)
        (steps Step free n).turns

  -- each form of expression, store and iterable is safe over such parts
  pub record FormsGood : Type 1 where
    pub eval : (n : ℕ) → AllGood n → (b : bodies.Body) → GoodEval (bodies.around b) (bodies.ctx b)
        (eval_node Step free (steps Step free n))
    pub decides : (n : ℕ) → AllGood n → (b : bodies.Body) → Decides (bodies.around b) (bodies.ctx b)
        (eval_over Step free (steps Step free n))
    pub stores : (n : ℕ) → AllGood n → (b : bodies.Body) → GoodStores (bodies.around b) m (bodies.ctx b)
        (steps Step free n)
    pub iterables : (n : ℕ) → AllGood n → (b : bodies.Body) → GoodIterables (bodies.around b) (bodies.ctx b)
        (bodies.fits b) m (bodies.returned b) (steps Step free n)

  module _ (forms : FormsGood) where
    -- no step at all is cut off
    none_good : AllGood zero
    none_good = record {
      eval = λ b. record {
        safe = λ env want e labels law covered keyed. comes_safe (bodies.around b) env _ (Stops Cut)
            _ λ k h. tt;
      };
      decides = λ b. record {
        decides = λ env want e labels law covered keyed frame. leads_comes (bodies.around b) _
            (Stops Cut) _ λ k s h. tt;
      };
      exec = λ b. record {
        runs = λ seen env body labels out law covered keyed more lasts. leads_comes (bodies.around b)
            _ (Stops Cut) _ λ k s h. tt;
      };
      again =
          λ b.
          record {
            runs =
                λ seen c body cm bm out env head is law body_law covered body_covered keyed body_keyed more lasts.
                leads_comes (bodies.around b) _ (Stops Cut) _ λ k s h. tt;
          };
      turns =
          λ b. record {
            runs = λ seen x y t u body bm out env head over i resolves is has law covered keyed more lasts.
                leads_comes (bodies.around b) _ (Stops Cut) _ λ k s h. tt;
          };
    }

    over_eval : (n : ℕ) → AllGood n → (b : bodies.Body) → GoodEval (bodies.around b) (bodies.ctx b)
        (eval_over Step free (steps Step free n))
    over_eval n good b = record {
      safe = λ env want e labels law covered keyed. bind_safe (bodies.around b) env _ _ _ (λ k u. Unit {0}) _
          (λ k k' x h. tt) (may_stop_safe (bodies.around b) env _)
          λ u. weaken (bodies.around b) env _ (λ k. Unit {0}) _ _ _ (λ k h. tt) (λ k v h. h)
          ((forms.eval n good b).safe env want e labels law covered keyed);
    }

    -- the parts of one step more, with which statements are run, are good
    parts_good : (n : ℕ) → AllGood n → (b : bodies.Body) → GoodParts (bodies.around b) (bodies.ctx b) (bodies.fits b) m
        (bodies.returned b) (steps Step free n)
    parts_good n good b = record {
      eval = good.eval b;
      place = steps_evaluate n;
      decides = good.decides b;
      stores = forms.stores n good b;
      iterables = forms.iterables n good b;
      exec = good.exec b;
      again = good.again b;
      turns = good.turns b;
    }

    one_more_good : (n : ℕ) → AllGood n → AllGood (suc n)
    one_more_good n good = record {
      eval = over_eval n good;
      decides = forms.decides n good;
      exec = λ b. suites_run (bodies.around b) (bodies.ctx b) (bodies.fits b) m (bodies.returned b) (steps Step free n)
          (parts_good n good b);
      again = λ b. while_turn_runs (bodies.around b) (bodies.ctx b) (bodies.fits b) m (bodies.returned b)
          (eval_over Step free (steps Step free n)) (exec_all Step free (steps Step free n)) (steps Step free n).again
          (forms.decides n good b) (suites_run (bodies.around b) (bodies.ctx b) (bodies.fits b) m (bodies.returned b)
          (steps Step free n) (parts_good n good b)) (good.again b);
      turns = λ b. for_turn_runs (bodies.around b) (bodies.ctx b) (bodies.fits b) m (bodies.returned b)
          (exec_all Step free (steps Step free n)) (steps Step free n).turns
          (suites_run (bodies.around b) (bodies.ctx b) (bodies.fits b) m (bodies.returned b) (steps Step free n)
          (parts_good n good b)) (good.turns b);
    }

    -- in each body any number of nested steps is safe
    pub all_good : (n : ℕ) → AllGood n
    all_good zero = none_good
    all_good (suc n) = one_more_good n (all_good n)
