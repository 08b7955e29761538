-- After any messages what was sent is in step with the session; and a session goes on from where it has come.
use Rattle.std.proofs.Common.{◌≡◌, ℕ, Bool, true, false, List, [], ◌∷◌, ◌++◌, refl, sym, ap, ◌∙◌, subst, inl, inr}
use Rattle.std.proofs.Common.{append_assoc, append-nil}
use Rattle.serde_json.specs.Data.{Data}
use Rattle.pc_documents.specs.CheckerAnswers.{CheckerAnswer}
use Rattle.pc_session.specs.Exchanges.{Arrival, Exchange, Exchanges, SessionsStayInStep, SessionsGoOn}
use Rattle.pc_session.specs.Sessions.{forgot}
use Rattle.pc_session.specs.Shown.{lost_data}
use Rattle.pc_session.specs.States.{State, fresh}
use Rattle.pc_session.proofs.Showing.{Holds, turned, lost, too_long}
use Rattle.pc_session.proofs.StepsInStep.{stepped}

module _ (answers : List ℕ → CheckerAnswer → Type 0) where
  exchanged : (was_lost : Bool) (message : List ℕ) (sent replies : List Data) (old new : State)
      → Exchange answers was_lost message old replies new → Holds answers sent old → Holds answers (sent ++ replies) new
  exchanged true message sent replies old new turn h =
      turned answers sent replies (lost_data ∷ []) old (forgot old) new turn (lost answers sent old h)
  exchanged false message sent replies old new (inl it) h = stepped answers message sent replies old new it.1 h
  exchanged false message sent replies old new (inr it) h = too_long answers sent replies old new it.1 h

  all_exchanged : (arrivals : List Arrival) (sent replies : List Data) (old new : State)
      → Exchanges answers old arrivals replies new → Holds answers sent old → Holds answers (sent ++ replies) new
  all_exchanged [] sent replies old new it h =
      let same : sent ++ replies ≡ sent = ap (λ l. sent ++ l) it.0 ∙ append-nil sent in
      subst (λ r. Holds answers r new) (sym same) (subst (λ s. Holds answers sent s) (sym it.1) h)
  all_exchanged (arrival ∷ arrivals) sent replies old new it h =
      let first : Holds answers (sent ++ it.0) it.2 =
      exchanged arrival.lost arrival.message sent it.0 old it.2 it.3 h in
      let all : Holds answers ((sent ++ it.0) ++ it.1) new =
      all_exchanged arrivals (sent ++ it.0) it.1 it.2 new it.4 first in
      subst (λ r. Holds answers r new) (append_assoc sent it.0 it.1 ∙ ap (λ l. sent ++ l) (sym it.5)) all

  begun_holds : Holds answers [] fresh
  begun_holds = record {
    in_step = record {
      distinct = tt;
      shown = tt;
      cleared = λ uri closed. inl refl;
      pulled = λ pulls uri. refl;
    };
    unbegun = λ is_fresh. (refl, λ uri. refl);
  }

  pub stay_in_step : SessionsStayInStep answers
  stay_in_step arrivals replies session it =
      (all_exchanged arrivals [] replies fresh session it begun_holds).in_step

  pub go_on : SessionsGoOn answers
  go_on [] later old new replies it = ([], replies, old, (refl, refl), it, refl)
  go_on (arrival ∷ first) later old new replies it =
      let rest = go_on first later it.2 new it.1 it.4 in (
        it.0 ++ rest.0,
        rest.1,
        rest.2,
        (it.0, rest.0, it.2, it.3, rest.3, refl),
        rest.4,
        it.5 ∙ (ap (λ l. it.0 ++ l) rest.5 ∙ sym (append_assoc it.0 rest.0 rest.1)),
      )
