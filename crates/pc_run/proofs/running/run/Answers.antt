use Rattle.std.proofs.Common.{◌≡◌, ◌∙◌, ℕ, List, [], ◌∷◌, ap, arith, sym, rules, length}
use Rattle.std.specs.Prelude.{nat_eq, vec_len}
use Rattle.std.proofs.lemmas.Bool.{eq-eqb}
use Rattle.std.proofs.Math.Dec.{eqb-suc-zero}
use Rattle.pc_tree.specs.Tree.{module_of}
use Rattle.pc_tree.specs.Stopping.{has_none}
use Rattle.pc_machine.specs.Runs.{plain_module}
use Rattle.pc_machine.specs.Machine.{progress_of}
use Rattle.pc_run.proofs.Defaults.{run_from, never_runs}
use Rattle.pc_run.proofs.running.run.Goals as goal

-- a list is empty where it counts none
none_counted : {A : Type 0} (xs : List A) (n : ℕ) → n ≡ length xs → has_none xs ≡ nat_eq n 0
none_counted [] n e = sym (eq-eqb n 0 e)
none_counted (x ∷ xs) n e = sym (ap (λ (k : ℕ). nat_eq k 0) e ∙ eqb-suc-zero (length xs))

pub returns-then-not-is_empty : goal.returns-then-not-is_empty
returns-then-not-is_empty c = never_runs (module_of c.args.program.now) c.args.fuel c.args.choices.now _
    (sym c.in_ok-found.ensures.none ∙ none_counted c.in_ok-found.found.items (vec_len c.in_ok-found.found) (omega arith)
    ∙ sym c.is_empty.ensures ∙ c.if-not-is_empty.true) (search rules)

pub returns : goal.returns
returns c = run_from (module_of c.args.program.now) c.args.fuel c.args.choices.now c.trace_of.result
    (sym c.in_ok-found.ensures.none ∙ none_counted c.in_ok-found.found.items (vec_len c.in_ok-found.found) (omega arith)
    ∙ sym c.is_empty.ensures ∙ c.if-not-is_empty.false) (progress_of c.begin-machine.result) c.begin-machine.ensures
    (λ n lt. c.trace_of.ensures (plain_module n (module_of c.args.program.now) (progress_of c.begin-machine.result))
    (c.run_module-ended.ensures.plain n lt))
