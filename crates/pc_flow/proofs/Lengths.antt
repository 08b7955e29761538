-- Joins of environments keep the number of locals.
use Rattle.std.proofs.Common.{◌≡◌, ℕ, suc, List, [], ◌∷◌, length, refl, ap, arith}
use Rattle.pc_types.specs.Tree.{Tree}
use Rattle.pc_types.specs.Below.{Bases}
use Rattle.pc_flow.specs.Environment.{Env, join_env}

suc_inj : {m n : ℕ} → suc m ≡ suc n → m ≡ n
suc_inj e = grind arith

pub kept : (bases : Bases) (declared : List Tree) (a b : Env) → length a ≡ length declared → length b ≡ length declared
    → length (join_env bases declared a b) ≡ length declared
kept bases [] a b la lb = refl
kept bases (d ∷ ds) [] b la lb = la
kept bases (d ∷ ds) (s ∷ ss) [] la lb = lb
kept bases (d ∷ ds) (s ∷ ss) (t ∷ ts) la lb = ap suc (kept bases ds ss ts (suc_inj la) (suc_inj lb))
