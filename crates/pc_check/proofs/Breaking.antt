-- The exit environment of a loop: the locals where it keeps subsuming the environment over statements, and those that
-- are noted.
use Rattle.std.proofs.Common.{◌≡◌, ◌∙◌, ℕ, List, ◌++◌, Option, Some, None, refl, sym, subst}
use Rattle.std.specs.Prelude.{Bool as Test, true, false, ◌||◌, nat_eq}
use Rattle.std.specs.Option.{option_map}
use Rattle.std.proofs.lemmas.Bool.{or_left, or_right}
use Rattle.std.proofs.lemmas.List.Folds.{list_any-append}
use Rattle.pc_types.specs.Below.{Bases}
use Rattle.pc_flow.specs.Agreement.{is_among, TakesIn}
use Rattle.pc_flow.specs.Environment.{Env, current}
use Rattle.pc_flow.proofs.Settled.{outside_both}
use Rattle.pc_walk.specs.Untouched.{AreAmong, WaysAgree, WayTakesIn, AreNoted}
use Rattle.pc_walk.proofs.Settled.{outside_part}
use Rattle.pc_check.specs.Internal.StatementWalk.{BreaksAreSubsumed}
use Rattle.pc_check.proofs.Agreed.{among_same}

-- each of a list is among it
pub self_among : (locals : List ℕ) → AreAmong locals locals
self_among locals = among_same locals locals (λ x. refl)

-- an environment agrees with itself
pub self_agrees : (locals : List ℕ) (env : Option Env) → WaysAgree locals env env
self_agrees locals None = tt
self_agrees locals (Some env) = λ x k. refl

-- a member of the first of two lists, or of the second, is a member of both together
left_among : (xs ys : List ℕ) (x : ℕ) → is_among xs x ≡ true → is_among (xs ++ ys) x ≡ true
left_among xs ys x e = list_any-append (nat_eq x) xs ys ∙ or_left (is_among xs x) (is_among ys x) e

right_among : (xs ys : List ℕ) (x : ℕ) → is_among ys x ≡ true → is_among (xs ++ ys) x ≡ true
right_among xs ys x e = list_any-append (nat_eq x) xs ys ∙ or_right (is_among xs x) (is_among ys x) e

either : (a b c : Test) → (a ≡ true → c ≡ true) → (b ≡ true → c ≡ true) → (a || b) ≡ true → c ≡ true
either true b c f g e = f refl
either false b c f g e = g e

both_among : (xs ys zs : List ℕ) (x : ℕ) → (is_among xs x ≡ true → is_among zs x ≡ true)
    → (is_among ys x ≡ true → is_among zs x ≡ true) → is_among (xs ++ ys) x ≡ true → is_among zs x ≡ true
both_among xs ys zs x f g e = either (is_among xs x) (is_among ys x) (is_among zs x) f g
    (sym (list_any-append (nat_eq x) xs ys) ∙ e)

-- locals are noted where there is an exit environment, whatever its types mean
noted_of : {A B : Type 0} (f : A → B) (way : Option A) (before touched after : List ℕ)
    → AreNoted way before touched after → AreNoted (option_map f way) before touched after
noted_of f None before touched after h = tt
noted_of f (Some way) before touched after h = h

module _ (bases : Bases) where
  -- with more locals left out
  pub way_weaker : (xs ys : List ℕ) (way out : Option Env) → ((x : ℕ) → is_among xs x ≡ true → is_among ys x ≡ true)
      → WayTakesIn bases xs way out → WayTakesIn bases ys way out
  way_weaker xs ys way None f h = tt
  way_weaker xs ys None (Some out) f h = tt
  way_weaker xs ys (Some way) (Some out) f h = λ x k. h x (outside_part (is_among xs x) (is_among ys x) (f x) k)

  pub way_more : (xs ys : List ℕ) (way out : Option Env) → WayTakesIn bases xs way out
      → WayTakesIn bases (xs ++ ys) way out
  way_more xs ys way out h = way_weaker xs (xs ++ ys) way out (λ x e. left_among xs ys x e) h

  -- an exit environment that subsumes an environment subsumes each one that agrees with it
  pub way_before : (unsettled locals : List ℕ) (way base : Option Env) (env : Env) → WaysAgree locals base (Some env)
      → WayTakesIn bases unsettled way (Some env) → WayTakesIn bases (unsettled ++ locals) way base
  way_before unsettled locals way None env a h = tt
  way_before unsettled locals None (Some base) env a h = tt
  way_before unsettled locals (Some way) (Some base) env a h = λ x k.
      let parts = outside_both unsettled locals x k in
      subst (TakesIn bases (current way x)) (sym (a x parts.1)) (h x parts.0)

  -- and one that agrees with it outside what is left out
  pub way_after : (unsettled locals : List ℕ) (way : Option Env) (env : Env) (out : Option Env)
      → ((x : ℕ) → is_among locals x ≡ true → is_among unsettled x ≡ true) → WaysAgree locals (Some env) out
      → WayTakesIn bases unsettled way (Some env) → WayTakesIn bases unsettled way out
  way_after unsettled locals way env None f a h = tt
  way_after unsettled locals None env (Some out) f a h = tt
  way_after unsettled locals (Some way) env (Some out) f a h = λ x k.
      subst (TakesIn bases (current way x))
      (a x (outside_part (is_among locals x) (is_among unsettled x) (f x) k)) (h x k)

  -- before statements that touch some locals, those may be left out
  pub starts_settled : (locals unsettled : List ℕ) (exit_env env : Option Env) → WayTakesIn bases unsettled exit_env env
      → BreaksAreSubsumed bases locals locals unsettled exit_env env env
  starts_settled locals unsettled exit_env env h = record {
    among = self_among locals;
    agree = self_agrees locals env;
    taken_in = way_more unsettled locals exit_env env h;
  }

  module _ {A : Type 0} (f : A → Env) where
    -- more is noted
    pub noted_more : (way : Option A) (before touched after locals : List ℕ) (base : Option Env)
        → AreNoted way before touched after → WayTakesIn bases (before ++ locals) (option_map f way) base
        → WayTakesIn bases (after ++ locals) (option_map f way) base
    noted_more None before touched after locals None n h = tt
    noted_more None before touched after locals (Some base) n h = tt
    noted_more (Some way) before touched after locals base n h =
        subst (λ (l : List ℕ). WayTakesIn bases (l ++ locals) (Some (f way)) base) (sym n)
        (way_weaker (before ++ locals) ((before ++ touched) ++ locals) (Some (f way)) base
        (λ x e. both_among before locals ((before ++ touched) ++ locals) x
        (λ p. left_among (before ++ touched) locals x (left_among before touched x p))
        (λ p. right_among (before ++ touched) locals x p) e) h)

    -- where the touched locals are noted, what agrees outside them is taken in
    pub noted_settles : (way : Option A) (before touched after : List ℕ) (env : Env) (out : Option Env)
        → AreNoted way before touched after
        → WayTakesIn bases (before ++ touched) (option_map f way) (Some env)
        → WaysAgree touched (Some env) out → WayTakesIn bases after (option_map f way) out
    noted_settles None before touched after env None n h a = tt
    noted_settles None before touched after env (Some out) n h a = tt
    noted_settles (Some way) before touched after env out n h a =
        subst (λ (l : List ℕ). WayTakesIn bases l (Some (f way)) out) (sym n)
        (way_after (before ++ touched) touched (Some (f way)) env out (λ x e. right_among before touched x e) a h)
