-- Environments joined at some locals, and heads of loops made local by local.
use Rattle.std.proofs.Common.{◌≡◌, ◌<◌, ◌⊎◌, ℕ, zero, suc, min, Bool as Test, true, false, List, [], ◌∷◌, Option, Some}
use Rattle.std.proofs.Common.{None, length, take, refl, sym, ap, inl, inr, arith}
use Rattle.std.specs.Prelude.{slice_set, unwrap_or, if◌then◌else◌}
use Rattle.pc_types.specs.Tree.{Tree}
use Rattle.pc_types.specs.Below.{Bases}
use Rattle.pc_types.proofs.JoinItself.{join_itself}
use Rattle.pc_flow.specs.Agreement.{JoinsKeepAgreed}
use Rattle.pc_flow.specs.Environment.{Env, current, declared_type, join_local, join_env, head_local, loop_head}
use Rattle.pc_flow.specs.WellFormed.{IsWellFormedIfAny, IsWellFormedEnv}

suc_inj : {m n : ℕ} → suc m ≡ suc n → m ≡ n
suc_inj e = grind arith

-- locals marked before are marked after, and one more
pub record OneMore (before after : ℕ → Test) (y : ℕ) : Type 0 where
  pub now : after y ≡ true
  pub others : (x : ℕ) → (x ≡ y → ⊥) → after x ≡ before x

one_behind : (before after : ℕ → Test) (y : ℕ) → OneMore before after (suc y)
    → OneMore (λ x. before (suc x)) (λ x. after (suc x)) y
one_behind before after y m = record { now = m.now; others = λ x n. m.others (suc x) (λ e. n (suc_inj e)) }

module _ (bases : Bases) where
  -- a local of the same type on both ways keeps it
  pub local_agreed : (d : Tree) (s t : Option Tree) → IsWellFormedIfAny bases s → s ≡ t → join_local bases d s t ≡ s
  local_agreed d None t w e = refl
  local_agreed d (Some s) None w e = cc
  local_agreed d (Some s) (Some t) w e = let f : s ≡ t = cc in ap (λ (u : Option Tree). Some (unwrap_or u d))
      (join_itself bases s t f w.2)

  pub current_agreed : (ds : List Tree) (a b : Env) (x : ℕ) → IsWellFormedEnv bases a → x < length ds
      → current a x ≡ current b x → current (join_env bases ds a b) x ≡ current a x
  current_agreed [] a b x w l e = absurd (omega arith)
  current_agreed (d ∷ ds) [] b x w l e = refl
  current_agreed (d ∷ ds) (s ∷ ss) [] x w l e = sym e
  current_agreed (d ∷ ds) (s ∷ ss) (t ∷ ts) zero w l e = local_agreed d s t w.0 e
  current_agreed (d ∷ ds) (s ∷ ss) (t ∷ ts) (suc x) w l e = current_agreed ds ss ts x w.1 (omega arith) e

  -- environments joined at marked locals alone; the others are as in the first
  abbrev pub join_where : (marked : ℕ → Test) → List Tree → Env → Env → Env
  join_where marked (d ∷ ds) (s ∷ ss) (t ∷ ts) = (if marked zero then join_local bases d s t else s)
      ∷ join_where (λ x. marked (suc x)) ds ss ts
  join_where marked _ _ _ = []

  -- at none
  pub where_none : (marked : ℕ → Test) → ((x : ℕ) → marked x ≡ false) → (n : ℕ) (ds : List Tree) (a b : Env)
      → n ≡ min (length ds) (length b) → join_where marked ds a b ≡ take n a
  where_none marked f n [] a b e = let z : n ≡ 0 = omega arith in ap (λ k. take k a) (sym z)
  where_none marked f n (d ∷ ds) [] [] e = let z : n ≡ 0 = omega arith in let none : Env = [] in
      ap (λ (k : ℕ). take k none) (sym z)
  where_none marked f n (d ∷ ds) (s ∷ ss) [] e = let z : n ≡ 0 = omega arith in ap (λ k. take k (s ∷ ss)) (sym z)
  where_none marked f zero (d ∷ ds) a (t ∷ ts) e = absurd (omega arith)
  where_none marked f (suc n) (d ∷ ds) [] (t ∷ ts) e = refl
  where_none marked f (suc n) (d ∷ ds) (s ∷ ss) (t ∷ ts) e = rw (
    f zero,
    where_none (λ x. marked (suc x))
        (λ x. f (suc x)) n ds ss ts (omega arith),
  ) refl

  tails_alike : (marked others : ℕ → Test) → ((x : ℕ) → others x ≡ marked x) → (ds : List Tree) (a b : Env)
      → join_where marked ds a b ≡ join_where others ds a b
  tails_alike marked others f ds a b = sym (ap (λ (m : ℕ → Test). join_where m ds a b) (λ j x. f x j))

  -- at one more
  pub where_more : (marked more : ℕ → Test) (y : ℕ) → OneMore marked more y → (ds : List Tree) (a b : Env)
      → slice_set (join_where marked ds a b) y (join_local bases (declared_type ds y) (current a y) (current b y))
      ≡ join_where more ds a b
  where_more marked more y m [] a b = refl
  where_more marked more y m (d ∷ ds) [] b = refl
  where_more marked more y m (d ∷ ds) (s ∷ ss) [] = refl
  where_more marked more zero m (d ∷ ds) (s ∷ ss) (t ∷ ts) =
      rw m.now (ap (λ (e : Env). join_local bases d s t ∷ e) (tails_alike (λ x. marked (suc x)) (λ x. more (suc x))
      (λ x. m.others (suc x) (λ e. omega arith)) ds ss ts))
  where_more marked more (suc y) m (d ∷ ds) (s ∷ ss) (t ∷ ts) =
      rw (m.others zero (λ e. omega arith)) (ap (λ (e : Env). (if marked zero then join_local bases d s t else s) ∷ e)
      (where_more (λ x. marked (suc x)) (λ x. more (suc x)) y (one_behind marked more y m) ds ss ts))

  picked : (c : Test) (j s : Option Tree) → (c ≡ true) ⊎ (j ≡ s) → (if c then j else s) ≡ j
  picked true j s h = refl
  picked false j s (inl e) = cc
  picked false j s (inr e) = sym e

  -- at all that the join changes
  pub where_all : (marked : ℕ → Test) (ds : List Tree) (a b : Env)
      → ((x : ℕ) → x < length ds → x < length b → (marked x ≡ true)
      ⊎ (join_local bases (declared_type ds x) (current a x) (current b x) ≡ current a x))
      → join_where marked ds a b ≡ join_env bases ds a b
  where_all marked [] a b f = refl
  where_all marked (d ∷ ds) [] b f = refl
  where_all marked (d ∷ ds) (s ∷ ss) [] f = refl
  where_all marked (d ∷ ds) (s ∷ ss) (t ∷ ts) f =
      rw (
        picked (marked zero) (join_local bases d s t) s (f zero (omega arith) (omega arith)),
        where_all (λ x. marked (suc x)) ds ss ts (λ x l m. f (suc x) (omega arith) (omega arith)),
      ) refl

pub joins_keep_agreed : JoinsKeepAgreed
joins_keep_agreed bases [] [] b x w la lb e = refl
joins_keep_agreed bases [] (s ∷ ss) b x w la lb e = absurd (omega arith)
joins_keep_agreed bases (d ∷ ds) [] b x w la lb e = refl
joins_keep_agreed bases (d ∷ ds) (s ∷ ss) [] x w la lb e = sym e
joins_keep_agreed bases (d ∷ ds) (s ∷ ss) (t ∷ ts) zero w la lb e = local_agreed bases d s t w.0 e
joins_keep_agreed bases (d ∷ ds) (s ∷ ss) (t ∷ ts) (suc x) w la lb e = joins_keep_agreed bases ds ss ts x w.1
    (suc_inj la) (suc_inj lb) e

-- the head of a loop that binds none
pub head_none : (bound : ℕ → Test) → ((x : ℕ) → bound x ≡ false) → (ds : List Tree) (env : Env)
    → loop_head bound ds env ≡ take (length ds) env
head_none bound f [] env = refl
head_none bound f (d ∷ ds) [] = refl
head_none bound f (d ∷ ds) (None ∷ ss) = ap (λ (e : Env). None ∷ e)
    (head_none (λ x. bound (suc x)) (λ x. f (suc x)) ds ss)
head_none bound f (d ∷ ds) (Some s ∷ ss) = rw (f zero, head_none (λ x. bound (suc x)) (λ x. f (suc x)) ds ss) refl

heads_alike : (bound others : ℕ → Test) → ((x : ℕ) → others x ≡ bound x) → (ds : List Tree) (env : Env)
    → loop_head bound ds env ≡ loop_head others ds env
heads_alike bound others f ds env = sym (ap (λ (m : ℕ → Test). loop_head m ds env) (λ j x. f x j))

bound_twice : (b : Test) (d : Tree) (s : Option Tree) → head_local true d (head_local b d s) ≡ head_local true d s
bound_twice b d None = refl
bound_twice b d (Some s) = refl

-- and of one that binds one more
pub head_more : (bound more : ℕ → Test) (y : ℕ) → OneMore bound more y → (ds : List Tree) (env : Env)
    → slice_set (loop_head bound ds env) y (head_local true (declared_type ds y) (current (loop_head bound ds env) y))
    ≡ loop_head more ds env
head_more bound more y m [] env = refl
head_more bound more y m (d ∷ ds) [] = refl
head_more bound more zero m (d ∷ ds) (s ∷ ss) =
    rw (m.now, bound_twice (bound zero) d s) (ap (λ (e : Env). head_local true d s ∷ e)
    (heads_alike (λ x. bound (suc x)) (λ x. more (suc x)) (λ x. m.others (suc x) (λ e. omega arith)) ds ss))
head_more bound more (suc y) m (d ∷ ds) (s ∷ ss) =
    rw (m.others zero (λ e. omega arith)) (ap (λ (e : Env). head_local (bound zero) d s ∷ e)
    (head_more (λ x. bound (suc x)) (λ x. more (suc x)) y (one_behind bound more y m) ds ss))
