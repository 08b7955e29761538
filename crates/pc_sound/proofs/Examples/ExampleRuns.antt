-- The run of a module as its plain run is computed.
use Rattle.std.proofs.Common.{◌≡◌, ℕ, zero, suc, ◌≤◌, List, [], refl, ap, subst, inr, arith}
use Rattle.std.specs.Prelude.{true}
use Rattle.pc_source.specs.declared.place.Place.{Place}
use Rattle.pc_tree.specs.Tree.{Module}
use Rattle.pc_tree.specs.Stopping.{is_runnable}
use Rattle.pc_machine.specs.Plain.{begin}
use Rattle.pc_machine.specs.Runs.{End, Run, Leaves, plain_module}
use Rattle.pc_machine.proofs.Modules.{plain_is_run}

-- the successor of a number, taken so many times
abbrev pub sucs : ℕ → ℕ → ℕ
sucs zero n = n
sucs (suc k) n = suc (sucs k n)

record Over (least n : ℕ) : Type 0 where
  rest : ℕ
  is : sucs least rest ≡ n

over : (least n : ℕ) → least ≤ n → Over least n
over zero n h = record { rest = n; is = refl }
over (suc least) zero h = absurd (omega (arith, h))
over (suc least) (suc n) h = let o = over least n (omega (arith, h)) in record { rest = o.rest; is = ap suc o.is }

-- a module runs as it does plainly, without choices, for some fuel
pub runs_plainly : (m : Module) (fuel : ℕ) (events : List Place) (end : End) → is_runnable m ≡ true
    → ((rest : ℕ) → Leaves (plain_module (sucs (suc fuel) rest) m (begin fuel [])) events end) → Run m events end
runs_plainly m fuel events end runnable leaves = plain_is_run m fuel [] events end
    (inr (
      runnable,
      record {
        leaves = λ bound room. let o = over (suc fuel) bound (omega (arith, room)) in
            subst (λ n. Leaves (plain_module n m (begin fuel [])) events end) o.is (leaves o.rest);
      },
    ))
