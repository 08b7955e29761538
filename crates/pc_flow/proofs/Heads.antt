-- The head of a loop, local by local.
use Rattle.std.proofs.Common.{◌≡◌, ℕ, zero, suc, List, [], ◌∷◌, length, refl, ap, arith}
use Rattle.std.specs.Prelude.{Bool as Test, true, false, if◌then◌else◌, Option, Some, None}
use Rattle.pc_types.specs.Tree.{Tree}
use Rattle.pc_flow.specs.Environment.{Env, current, declared_type, head_local, loop_head}

bound_local : (b : Test) (d : Tree) (s : Option Tree) (t : Tree) → b ≡ true → s ≡ Some t → head_local b d s ≡ Some d
bound_local b d None t bound e = absurd (grind (arith, e))
bound_local b d (Some s) t bound e = ap (λ x. Some (if x then d else s)) bound

other_local : (b : Test) (d : Tree) (s : Option Tree) → b ≡ false → head_local b d s ≡ s
other_local b d None free = refl
other_local b d (Some s) free = ap (λ x. Some (if x then d else s)) free

pub bound_at_head : (bound : ℕ → Test) (ds : List Tree) (env : Env) (x : ℕ) (t : Tree) → length env ≡ length ds
    → bound x ≡ true → current env x ≡ Some t → current (loop_head bound ds env) x ≡ Some (declared_type ds x)
bound_at_head bound [] [] x t l b e = absurd (grind (arith, e))
bound_at_head bound (d ∷ ds) (s ∷ env) zero t l b e = bound_local (bound zero) d s t b e
bound_at_head bound (d ∷ ds) (s ∷ env) (suc x) t l b e = bound_at_head (λ y. bound (suc y)) ds env x t
    (grind (arith, l)) b e
bound_at_head bound [] (s ∷ env) x t l b e = absurd (grind (arith, l))
bound_at_head bound (d ∷ ds) [] x t l b e = absurd (grind (arith, l))

pub others_at_head : (bound : ℕ → Test) (ds : List Tree) (env : Env) (x : ℕ) → length env ≡ length ds → bound x ≡ false
    → current (loop_head bound ds env) x ≡ current env x
others_at_head bound [] [] x l b = refl
others_at_head bound (d ∷ ds) (s ∷ env) zero l b = other_local (bound zero) d s b
others_at_head bound (d ∷ ds) (s ∷ env) (suc x) l b = others_at_head (λ y. bound (suc y)) ds env x (grind (arith, l)) b
others_at_head bound [] (s ∷ env) x l b = absurd (grind (arith, l))
others_at_head bound (d ∷ ds) [] x l b = absurd (grind (arith, l))
