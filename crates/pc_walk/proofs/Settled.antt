-- Environments that subsume another one at all locals except some: joining it again changes nothing at the others.
use Rattle.std.proofs.Common.{◌≡◌, ℕ, List, ◌++◌, Bool as Test, true, false, Option, Some, None, refl, sym, subst}
use Rattle.pc_types.specs.Tree.{Tree}
use Rattle.pc_types.specs.Below.{Bases}
use Rattle.pc_types.proofs.JoinItself.{join_itself}
use Rattle.pc_flow.specs.Agreement.{is_among, AgreeOutside, TakesIn, TakesInOutside}
use Rattle.pc_flow.specs.Environment.{Env, current}
use Rattle.pc_flow.specs.WellFormed.{IsWellFormedIfAny, IsWellFormedEnv}
use Rattle.pc_flow.proofs.Conditions.{current_well_formed}
use Rattle.pc_flow.proofs.Settled.{outside_both, true_false}
use Rattle.pc_walk.specs.Untouched.{AgreesIfAny, TakesInIfAny, WayTakesIn}
use Rattle.pc_walk.proofs.KeptLocals.{IsKeptIfAny}

-- a local outside a list is outside each part of it
pub outside_part : (a b : Test) → (a ≡ true → b ≡ true) → b ≡ false → a ≡ false
outside_part false b f e = refl
outside_part true b f e = absurd (true_false b (f refl) e)

takes_itself : (bases : Bases) (s t : Option Tree) → IsWellFormedIfAny bases s → s ≡ t → TakesIn bases s t
takes_itself bases None t w e = tt
takes_itself bases (Some s) None w e = cc
takes_itself bases (Some s) (Some t) w e = let f : s ≡ t = cc in join_itself bases s t f w.2

module _ (bases : Bases) where
  -- an environment of well-formed types takes in one that agrees with it
  pub agreed_taken_in : (locals : List ℕ) (out base : Env) → IsWellFormedEnv bases out → AgreeOutside locals out base
      → TakesInOutside bases locals out base
  agreed_taken_in locals out base w a = λ x k. takes_itself bases (current out x) (current base x)
      (current_well_formed bases out x w) (a x k)

  -- the ways so far, and one from an environment that they take in
  pub suite_taken_in : (unsettled touched : List ℕ) (ways out : Option Env) (base : Env)
      → TakesInIfAny bases unsettled ways base → AgreesIfAny touched base out
      → WayTakesIn bases (unsettled ++ touched) ways out
  suite_taken_in unsettled touched ways None base h a = tt
  suite_taken_in unsettled touched None (Some out) base h a = tt
  suite_taken_in unsettled touched (Some way) (Some out) base h a = λ x k.
      let parts = outside_both unsettled touched x k in
      subst (TakesIn bases (current way x)) (sym (a x parts.1)) (h x parts.0)

  -- with more locals left out
  pub more_taken_in : (unsettled touched : List ℕ) (ways : Option Env) (base : Env)
      → TakesInIfAny bases unsettled ways base → TakesInIfAny bases (unsettled ++ touched) ways base
  more_taken_in unsettled touched None base h = tt
  more_taken_in unsettled touched (Some way) base h = λ x k. h x (outside_both unsettled touched x k).0

  -- a way that takes in the environment at the end of a suite takes in the one before the suite, where they agree
  pub before_taken_in : (touched unsettled : List ℕ) (met out base : Env) → TakesInOutside bases unsettled met out
      → AgreeOutside touched out base → TakesInOutside bases (touched ++ unsettled) met base
  before_taken_in touched unsettled met out base h a = λ x k.
      let parts = outside_both touched unsettled x k in
      subst (TakesIn bases (current met x)) (a x parts.0) (h x parts.1)

  -- and the one before the next suite
  pub next_taken_in : (unsettled touched : List ℕ) (way : Option Env) (last next : Env)
      → ((x : ℕ) → is_among touched x ≡ true → is_among unsettled x ≡ true) → AgreeOutside touched next last
      → TakesInIfAny bases unsettled way last → TakesInIfAny bases unsettled way next
  next_taken_in unsettled touched None last next f a h = tt
  next_taken_in unsettled touched (Some way) last next f a h = λ x k.
      subst (TakesIn bases (current way x))
      (sym (a x (outside_part (is_among touched x) (is_among unsettled x) (f x) k))) (h x k)

-- a way that is as an environment at each local that is not among some agrees with it there
pub agrees_kept : (locals : List ℕ) (base : Env) (out : Option Env)
    → IsKeptIfAny (λ x. is_among locals x ≡ false) base out → AgreesIfAny locals base out
agrees_kept locals base None h = tt
agrees_kept locals base (Some out) h = h.same
