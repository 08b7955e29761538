-- Closing suites, one at a time.
use Rattle.std.proofs.Common.{◌≡◌, ℕ, ◌<◌, ◌≤◌, true, false, List, [], ◌∷◌, ◌++◌, Option, Some, None, reverse, refl, ap}
use Rattle.std.proofs.Common.{◌∙◌, arith, nat_lt}
use Rattle.std.specs.Option.{option_to_list}
use Rattle.std.proofs.lemmas.Bool.Decides.{nat_tests}
use Rattle.std.proofs.lemmas.List.{reverse-append, append-nil}
use Rattle.pc_layout.specs.declared.levels.Level.{Level}
use Rattle.pc_layout.specs.Placing.{column_of, levels_up_to}

-- the innermost suite is not deeper
pub closing_stays : (c : ℕ) (vs : List Level) → column_of vs ≤ c → levels_up_to c vs ≡ vs
closing_stays c [] h = refl
closing_stays c (v ∷ vs) h = let e : nat_lt c v.column ≡ false = grind (arith, nat_tests) in rw e

closing_closes : (c : ℕ) (v : Level) (vs : List Level) → c < v.column → levels_up_to c (v ∷ vs) ≡ levels_up_to c vs
closing_closes c v vs h = let e : nat_lt c v.column ≡ true = grind (arith, nat_tests) in rw e

-- the innermost suite, the last of the list, is deeper and goes
pub closing_pops : (c : ℕ) (old new : List Level) (r : Option Level) → c < column_of (reverse old)
    → old ≡ new ++ option_to_list r →
    levels_up_to c (reverse old) ≡ levels_up_to c (reverse new)
closing_pops c old new None h e = ap (λ vs. levels_up_to c (reverse vs)) (e ∙ append-nil new)
closing_pops c old new (Some v) h e = let q : reverse old ≡ v ∷ reverse new = ap reverse e
    ∙ reverse-append new (v ∷ []) in
    let deep : c < v.column = rw q at h in
    rw q (closing_closes c v (reverse new) deep)
