-- The replies to a message keep what the client shows in step with the session.
use Rattle.std.specs.List.{AllByRecursion}
use Rattle.std.specs.Prelude.{fold, bytes_eq, ◌&&◌}
use Rattle.std.proofs.Common.{◌≡◌, ℕ, Bool, true, false, cond, List, [], ◌∷◌, ◌++◌, map, Option, None, Some, refl, sym}
use Rattle.std.proofs.Common.{ap, ◌∙◌, subst, inl, inr, append_assoc, append-nil, true≢false, not, arith}
use Rattle.std.proofs.lemmas.List.Sums.{fold-append}
use Rattle.serde_json.specs.Data.{Data, null}
use Rattle.pc_documents.specs.CheckerAnswers.{CheckerAnswer}
use Rattle.pc_documents.specs.Agreed.{Agreed}
use Rattle.pc_documents.specs.Checked.{IsChecked, is_sent}
use Rattle.pc_documents.specs.Diagnostics.{unknown_data}
use Rattle.pc_documents.specs.Documents.{is_open, with_document, without_document, forgotten, OpenDocument}
use Rattle.pc_session.specs.declared.replies.ErrorCode.{ErrorCode}
use Rattle.pc_session.specs.declared.replies.ErrorCode.TheVariants.{TooLong}
use Rattle.pc_session.specs.declared.session.Stage.{Stage}
use Rattle.pc_session.specs.declared.session.Stage.TheVariants.{Fresh, Running, ShutDown, Ended}
use Rattle.pc_session.specs.Publications.{IsSentWhere}
use Rattle.pc_session.specs.Replies.{publish_data, refusal_of}
use Rattle.pc_session.specs.Sessions.{IsTurn, IsKept, IsUnreadable, IsClosed, at_stage, with_documents, forgot}
use Rattle.pc_session.specs.Sessions.{unknown_all, told_of, IsPulled, IsHovered, IsSymbolReply, IsLocated}
use Rattle.pc_session.specs.Shown.{published_after, last_publication, lost_data, IsCleared, IsShown, IsShownWhereSent}
use Rattle.pc_session.specs.Shown.{IsInStep}
use Rattle.pc_session.specs.Spoiled.{spoiled_at}
use Rattle.pc_session.specs.States.{State}
use Rattle.pc_session.proofs.Addresses.{same, flip, all_with, all_without, with_closed, without_closed, distinct_with}
use Rattle.pc_session.proofs.Addresses.{distinct_without, open_forgotten, distinct_forgotten}
use Rattle.pc_session.proofs.Publishing.{Passes, more_passes, other_passes, own_shows, told_passes, told_none, IsTold}
use Rattle.pc_session.proofs.Publishing.{all_told, log_passes, cleared_more}

none_some : {A : Type 0} {x : A} → None ≡ Some x → ⊥
none_some e = grind arith

-- ---- stages

pub running_fresh : Running ≡ Fresh → ⊥
running_fresh e = grind arith

pub shut_fresh : ShutDown ≡ Fresh → ⊥
shut_fresh e = grind arith

pub ended_fresh : (status : ℕ) → Ended status ≡ Fresh → ⊥
ended_fresh status e = grind arith

-- a document whose diagnostics are sent belongs to a client that does not pull them
pub sent_pulls : (python pulls : Bool) → (python && not pulls) ≡ true → pulls ≡ true → ⊥
sent_pulls python true e p = grind arith
sent_pulls python false e p = true≢false (sym p)

pub pulled_unsent : (python pulls : Bool) → pulls ≡ true → (python && not pulls) ≡ false
pulled_unsent true true e = refl
pulled_unsent false true e = refl
pulled_unsent python false e = absurd (true≢false (sym e))

-- a text is spoiled in a session that runs alone
pub spoiled_running : (stage : Stage) (message : Data) (old : State) (document : OpenDocument)
    → spoiled_at stage message old ≡ Some document → stage ≡ Running
spoiled_running Running message old document e = refl
spoiled_running Fresh message old document e = absurd (none_some e)
spoiled_running ShutDown message old document e = absurd (none_some e)
spoiled_running (Ended status) message old document e = absurd (none_some e)

pub list_passes : (message id : Data) (old : State) (reply : Data) → IsSymbolReply message id old reply → (uri : List ℕ)
    → Passes uri (reply ∷ [])
list_passes message id old reply (inl it) uri = subst (λ r. Passes uri (r ∷ [])) (sym it.replied) (λ last. refl)
list_passes message id old reply (inr it) uri = subst (λ r. Passes uri (r ∷ [])) (sym it.1) (λ last. refl)

pub locate_passes : (message id : Data) (old : State) (reply : Data) → IsLocated message id old reply
    → (uri : List ℕ) → Passes uri (reply ∷ [])
locate_passes message id old reply (inl it) uri = subst (λ r. Passes uri (r ∷ [])) (sym it.replied) (λ last. refl)
locate_passes message id old reply (inr it) uri = subst (λ r. Passes uri (r ∷ [])) (sym it.1) (λ last. refl)

module _ (answers : List ℕ → CheckerAnswer → Type 0) where
  pub shown_more : (agreed : Agreed) (sent replies : List Data) (document : OpenDocument) → Passes document.uri replies
      → IsShown answers agreed sent document → IsShown answers agreed (sent ++ replies) document
  shown_more agreed sent replies document passes (inl shows) = inl (record {
    diagnostics = shows.diagnostics;
    is_checked = shows.is_checked;
    last = more_passes document.uri sent replies passes ∙ shows.last;
  })
  shown_more agreed sent replies document passes (inr lost) = inr (
    lost.0,
    record {
      earlier = lost.1.earlier;
      later = lost.1.later ++ replies;
      split = ap (λ l. l ++ replies) lost.1.split ∙ append_assoc lost.1.earlier (lost_data ∷ lost.1.later) replies;
      silent = more_passes document.uri lost.1.later replies passes ∙ lost.1.silent;
    },
  )

  -- the session is in step with what was sent; before it began nothing was sent of documents, and none is open
  pub record Holds (sent : List Data) (session : State) : Type 0 where
    pub in_step : IsInStep answers sent session
    pub unbegun : session.stage ≡ Fresh → (session.documents ≡ []) × ((uri : List ℕ) → last_publication uri sent ≡ None)

  pub all_more : (agreed : Agreed) (sent replies : List Data) (documents : List OpenDocument)
      → ((uri : List ℕ) → Passes uri replies) → AllByRecursion (IsShownWhereSent answers agreed sent) documents
      → AllByRecursion (IsShownWhereSent answers agreed (sent ++ replies)) documents
  all_more agreed sent replies [] passes all = tt
  all_more agreed sent replies (d ∷ ds) passes all = (
    λ s. shown_more agreed sent replies d (passes d.uri) (all.0 s),
    all_more agreed sent replies ds passes all.1,
  )

  -- replies that publish nothing, and a stage that is no earlier one
  pub quiet : (sent replies : List Data) (old : State) (stage : Stage) → ((uri : List ℕ) → Passes uri replies)
      → (stage ≡ Fresh → old.stage ≡ Fresh) → Holds sent old → Holds (sent ++ replies) (at_stage stage old)
  quiet sent replies old stage passes later h = record {
    in_step = record {
      distinct = h.in_step.distinct;
      shown = all_more old.agreed sent replies old.documents passes h.in_step.shown;
      cleared = λ uri closed. cleared_more uri sent replies (passes uri) (h.in_step.cleared uri closed);
      pulled = λ pulls uri. more_passes uri sent replies (passes uri) ∙ h.in_step.pulled pulls uri;
    };
    unbegun = λ is_fresh.
        let was = h.unbegun (later is_fresh) in
        (was.0, λ uri. more_passes uri sent replies (passes uri) ∙ was.1 uri);
  }

  -- the replies and the session are those
  pub turned : (sent replies wanted : List Data) (old next new : State) → IsTurn wanted next replies new
      → Holds (sent ++ wanted) next → Holds (sent ++ replies) new
  turned sent replies wanted old next new turn holds =
      subst (λ s. Holds (sent ++ replies) s) (sym turn.new_is)
      (subst (λ r. Holds (sent ++ r) next) (sym turn.replies_are) holds)

  pub let_be : (sent replies : List Data) (old new : State) → IsTurn [] old replies new → Holds sent old
      → Holds (sent ++ replies) new
  let_be sent replies old new turn h =
      turned sent replies [] old old new turn (quiet sent [] old old.stage (λ uri last. refl) (λ e. e) h)

  pub answered : (sent replies : List Data) (reply : Data) (old new : State)
      → ((uri : List ℕ) → Passes uri (reply ∷ [])) → IsTurn (reply ∷ []) old replies new → Holds sent old
      → Holds (sent ++ replies) new
  answered sent replies reply old new passes turn h =
      turned sent replies (reply ∷ []) old old new turn (quiet sent (reply ∷ []) old old.stage passes (λ e. e) h)

  pub refused : (sent replies : List Data) (code : ErrorCode) (id : Data) (old new : State)
      → IsTurn (refusal_of code id ∷ []) old replies new → Holds sent old → Holds (sent ++ replies) new
  refused sent replies code id old new turn h =
      answered sent replies (refusal_of code id) old new (λ uri last. refl) turn h

  -- a document is kept: the others are shown as before
  pub kept_none : (sent replies : List Data) (document : OpenDocument) (old : State) → replies ≡ []
      → is_sent old.agreed document ≡ false → old.stage ≡ Running → Holds sent old
      → Holds (sent ++ replies) (with_documents (with_document document old.documents) old)
  kept_none sent replies document old none unsent running h = record {
    in_step = record {
      distinct = distinct_with document old.documents h.in_step.distinct;
      shown =
          let same_replies : sent ++ replies ≡ sent = ap (λ r. sent ++ r) none ∙ append-nil sent in
          all_with (IsShownWhereSent answers old.agreed sent) (IsShownWhereSent answers old.agreed (sent ++ replies))
          document old.documents h.in_step.distinct (λ s. absurd (true≢false (sym s ∙ unsent)))
          (λ d apart shown. subst (λ r. IsShownWhereSent answers old.agreed r d) (sym same_replies) shown)
          h.in_step.shown;
      cleared = λ uri closed.
          let passes : Passes uri replies = subst (λ r. Passes uri r) (sym none) (λ last. refl) in
          cleared_more uri sent replies passes
          (h.in_step.cleared uri (with_closed uri document old.documents closed).1);
      pulled = λ pulls uri.
          let passes : Passes uri replies = subst (λ r. Passes uri r) (sym none) (λ last. refl) in
          more_passes uri sent replies passes ∙ h.in_step.pulled pulls uri;
    };
    unbegun = λ is_fresh. absurd (running_fresh (sym running ∙ is_fresh));
  }

  -- a document is kept, and one list is sent, of it
  pub kept_some : (sent diagnostics : List Data) (document : OpenDocument) (old : State)
      → IsChecked answers old.agreed document.text document.uri diagnostics → is_sent old.agreed document ≡ true
      → old.stage ≡ Running → Holds sent old
      → Holds (sent ++ publish_data document.uri document.version diagnostics ∷ [])
      (with_documents (with_document document old.documents) old)
  kept_some sent diagnostics document old checked is running h =
      let list : Data = publish_data document.uri document.version diagnostics in
      let others : (uri : List ℕ) → bytes_eq document.uri uri ≡ false → Passes uri (list ∷ []) =
      λ uri apart. other_passes uri document.uri document.version diagnostics apart in
      record {
        in_step = record {
          distinct = distinct_with document old.documents h.in_step.distinct;
          shown = all_with (IsShownWhereSent answers old.agreed sent)
              (IsShownWhereSent answers old.agreed (sent ++ list ∷ [])) document old.documents h.in_step.distinct
              (λ s. inl (record {
                diagnostics = diagnostics;
                is_checked = checked;
                last = fold-append (published_after document.uri) None sent (list ∷ [])
                    ∙ own_shows document.uri document.version diagnostics (last_publication document.uri sent);
              }))
              (λ d apart shown s. shown_more old.agreed sent (list ∷ []) d
              (others d.uri (flip d.uri document.uri apart)) (shown s))
              h.in_step.shown;
          cleared = λ uri closed.
              let was = with_closed uri document old.documents closed in
              cleared_more uri sent (list ∷ []) (others uri was.0) (h.in_step.cleared uri was.1);
          pulled = λ pulls uri. absurd (sent_pulls document.python old.agreed.pulls is pulls);
        };
        unbegun = λ is_fresh. absurd (running_fresh (sym running ∙ is_fresh));
      }

  pub kept : (sent replies : List Data) (document : OpenDocument) (old new : State)
      → IsKept answers document old replies new → old.stage ≡ Running → Holds sent old → Holds (sent ++ replies) new
  kept sent replies document old new it running h =
      let After : State = with_documents (with_document document old.documents) old in
      let M = λ (t : Bool). is_sent old.agreed document ≡ t → IsSentWhere answers old.agreed t document replies
      → Holds (sent ++ replies) After in
      subst (λ s. Holds (sent ++ replies) s) (sym it.new_is) (elim (is_sent old.agreed document) as M [
        | true ↦ λ e list. subst (λ r. Holds (sent ++ r) After) (sym list.are)
            (kept_some sent list.diagnostics document old list.is_checked e running h)
        | false ↦ λ e none. kept_none sent replies document old none e running h
      ] refl it.published)

  -- a document is closed
  pub closed_silent : (sent : List Data) (uri : List ℕ) (old : State) → old.agreed.pulls ≡ true → old.stage ≡ Running
      → Holds sent old → Holds (sent ++ []) (with_documents (without_document uri old.documents) old)
  closed_silent sent uri old pulls running h =
      let quiet_last : (u : List ℕ) → last_publication u (sent ++ []) ≡ None =
      λ u. ap (last_publication u) (append-nil sent) ∙ h.in_step.pulled pulls u in
      record {
        in_step = record {
          distinct = distinct_without uri old.documents h.in_step.distinct;
          shown = all_without (IsShownWhereSent answers old.agreed sent) (IsShownWhereSent answers old.agreed (sent ++ []))
              uri old.documents h.in_step.distinct
              (λ d apart shown. subst (λ r. IsShownWhereSent answers old.agreed r d) (sym (append-nil sent)) shown)
              h.in_step.shown;
          cleared = λ u closed. inl (quiet_last u);
          pulled = λ pulled u. quiet_last u;
        };
        unbegun = λ is_fresh. absurd (running_fresh (sym running ∙ is_fresh));
      }

  pub closed_told : (sent : List Data) (uri : List ℕ) (old : State) → old.agreed.pulls ≡ false → old.stage ≡ Running
      → Holds sent old
      → Holds (sent ++ publish_data uri None [] ∷ []) (with_documents (without_document uri old.documents) old)
  closed_told sent uri old sends running h =
      let list : Data = publish_data uri None [] in
      record {
        in_step = record {
          distinct = distinct_without uri old.documents h.in_step.distinct;
          shown = all_without (IsShownWhereSent answers old.agreed sent)
              (IsShownWhereSent answers old.agreed (sent ++ list ∷ [])) uri old.documents h.in_step.distinct
              (λ d apart shown s. shown_more old.agreed sent (list ∷ []) d
              (other_passes d.uri uri None [] (flip d.uri uri apart)) (shown s))
              h.in_step.shown;
          cleared = λ u closed.
              let M = λ (t : Bool). bytes_eq uri u ≡ t → IsCleared u (sent ++ list ∷ []) in
              elim (bytes_eq uri u) as M [
                | true ↦ λ e. inr (subst (λ v. last_publication v (sent ++ list ∷ []) ≡ Some (publish_data v None []))
                    (same uri u e) (fold-append (published_after uri) None sent (list ∷ [])
                    ∙ own_shows uri None [] (last_publication uri sent)))
                | false ↦ λ e. cleared_more u sent (list ∷ []) (other_passes u uri None [] e)
                    (h.in_step.cleared u (without_closed u uri old.documents e closed))
              ] refl;
          pulled = λ pulls u. absurd (true≢false (sym pulls ∙ sends));
        };
        unbegun = λ is_fresh. absurd (running_fresh (sym running ∙ is_fresh));
      }

  pub closed : (sent replies : List Data) (message : Data) (old new : State) → IsClosed message old replies new
      → old.stage ≡ Running → Holds sent old → Holds (sent ++ replies) new
  closed sent replies message old new it running h =
      let After : State = with_documents (without_document it.uri old.documents) old in
      let M = λ (t : Bool). old.agreed.pulls ≡ t → IsTurn (cond t [] (publish_data it.uri None [] ∷ [])) After replies new
      → Holds (sent ++ replies) new in
      elim old.agreed.pulls as M [
        | true ↦ λ e turn. turned sent replies [] old After new turn (closed_silent sent it.uri old e running h)
        | false ↦ λ e turn. turned sent replies (publish_data it.uri None [] ∷ []) old After new turn
            (closed_told sent it.uri old e running h)
      ] refl it.turn

  -- no text is known
  pub forgotten_shown : (agreed : Agreed) (sent replies : List Data) (documents : List OpenDocument)
      → AllByRecursion (IsTold (is_sent agreed) replies) documents
      → AllByRecursion (IsShownWhereSent answers agreed (sent ++ replies)) (map forgotten documents)
  forgotten_shown agreed sent replies [] all = tt
  forgotten_shown agreed sent replies (d ∷ ds) all = (
    λ s. inl (record {
      diagnostics = unknown_data ∷ [];
      is_checked = refl;
      last = fold-append (published_after d.uri) None sent replies ∙ all.0 s (last_publication d.uri sent);
    }),
    forgotten_shown agreed sent replies ds all.1,
  )

  pub told_effect : (code : ErrorCode) (uri : List ℕ) (old : State) (last : Option Data)
      → fold (published_after uri) last (refusal_of code null ∷ (unknown_all old ++ told_of old.documents))
      ≡ fold (published_after uri) last (unknown_all old)
  told_effect code uri old last =
      fold-append (published_after uri) last (unknown_all old) (told_of old.documents)
      ∙ log_passes uri old.documents (fold (published_after uri) last (unknown_all old))

  pub with_effect : (code : ErrorCode) (old : State) (documents : List OpenDocument)
      → AllByRecursion (IsTold (is_sent old.agreed) (unknown_all old)) documents
      → AllByRecursion (IsTold (is_sent old.agreed)
      (refusal_of code null ∷ (unknown_all old ++ told_of old.documents))) documents
  with_effect code old [] all = tt
  with_effect code old (d ∷ ds) all =
      (λ s last. told_effect code d.uri old last ∙ all.0 s last, with_effect code old ds all.1)

  pub unread : (code : ErrorCode) (sent : List Data) (old : State) → Holds sent old
      → Holds (sent ++ refusal_of code null ∷ (unknown_all old ++ told_of old.documents)) (forgot old)
  unread code sent old h =
      let replies : List Data = refusal_of code null ∷ (unknown_all old ++ told_of old.documents) in
      let passes : (uri : List ℕ) → is_open uri old.documents ≡ false → Passes uri replies =
      λ uri closed last. told_effect code uri old last
      ∙ told_passes (is_sent old.agreed) uri old.documents closed last in
      record {
        in_step = record {
          distinct = distinct_forgotten old.documents h.in_step.distinct;
          shown = forgotten_shown old.agreed sent replies old.documents (with_effect code old old.documents
              (all_told (is_sent old.agreed) old.documents h.in_step.distinct));
          cleared = λ uri closed.
              let was : is_open uri old.documents ≡ false = sym (open_forgotten uri old.documents) ∙ closed in
              cleared_more uri sent replies (passes uri was) (h.in_step.cleared uri was);
          pulled = λ pulls uri.
              let none : Passes uri replies = λ last. told_effect code uri old last
              ∙ told_none (is_sent old.agreed) uri old.documents (λ d. pulled_unsent d.python old.agreed.pulls pulls) last in
              more_passes uri sent replies none ∙ h.in_step.pulled pulls uri;
        };
        unbegun = λ is_fresh.
            let was = h.unbegun is_fresh in (
              ap (map forgotten) was.0,
              λ uri. more_passes uri sent replies (passes uri (ap (is_open uri) was.0)) ∙ was.1 uri,
            );
      }

  pub unreadable : (code : ErrorCode) (sent replies : List Data) (old new : State) → IsUnreadable code old replies new
      → Holds sent old → Holds (sent ++ replies) new
  unreadable code sent replies old new it h =
      turned sent replies (refusal_of code null ∷ (unknown_all old ++ told_of old.documents)) old (forgot old) new it
      (unread code sent old h)

  -- a message that is too long
  pub too_long : (sent replies : List Data) (old new : State) → IsUnreadable TooLong old replies new → Holds sent old
      → Holds (sent ++ replies) new
  too_long sent replies old new it h = unreadable TooLong sent replies old new it h

  pub lost_shown : (agreed : Agreed) (sent : List Data) (documents : List OpenDocument)
      → AllByRecursion (IsShownWhereSent answers agreed (sent ++ lost_data ∷ [])) (map forgotten documents)
  lost_shown agreed sent [] = tt
  lost_shown agreed sent (d ∷ ds) = (
    λ s. inr (refl, record { earlier = sent; later = []; split = refl; silent = refl }),
    lost_shown agreed sent ds,
  )

  pub lost : (sent : List Data) (old : State) → Holds sent old → Holds (sent ++ lost_data ∷ []) (forgot old)
  lost sent old h =
      let passes : (uri : List ℕ) → Passes uri (lost_data ∷ []) = λ uri last. refl in
      record {
        in_step = record {
          distinct = distinct_forgotten old.documents h.in_step.distinct;
          shown = lost_shown old.agreed sent old.documents;
          cleared = λ uri closed. cleared_more uri sent (lost_data ∷ []) (passes uri)
              (h.in_step.cleared uri (sym (open_forgotten uri old.documents) ∙ closed));
          pulled = λ pulls uri. more_passes uri sent (lost_data ∷ []) (passes uri) ∙ h.in_step.pulled pulls uri;
        };
        unbegun = λ is_fresh.
            let was = h.unbegun is_fresh in (
              ap (map forgotten) was.0,
              λ uri. more_passes uri sent (lost_data ∷ []) (passes uri) ∙ was.1 uri,
            );
      }

  -- `initialize` begins a session in which nothing is open
  pub begins : (sent : List Data) (reply : Data) (agreed : Agreed) (old : State) → ((uri : List ℕ) → Passes uri (reply ∷ []))
      → old.stage ≡ Fresh → Holds sent old
      → Holds (sent ++ reply ∷ []) (record { stage = Running; agreed = agreed; documents = old.documents })
  begins sent reply agreed old passes is_fresh h =
      let was = h.unbegun is_fresh in
      let none : (uri : List ℕ) → last_publication uri (sent ++ reply ∷ []) ≡ None =
      λ uri. more_passes uri sent (reply ∷ []) (passes uri) ∙ was.1 uri in
      record {
        in_step = record {
          distinct = h.in_step.distinct;
          shown = subst (λ ds. AllByRecursion (IsShownWhereSent answers agreed (sent ++ reply ∷ [])) ds) (sym was.0) tt;
          cleared = λ uri closed. inl (none uri);
          pulled = λ pulls uri. none uri;
        };
        unbegun = λ e. absurd (running_fresh e);
      }

  pub pull_passes : (message id : Data) (old : State) (reply : Data) → IsPulled answers message id old reply
      → (uri : List ℕ) → Passes uri (reply ∷ [])
  pull_passes message id old reply (inl it) uri =
      subst (λ r. Passes uri (r ∷ [])) (sym it.replied) (λ last. refl)
  pull_passes message id old reply (inr it) uri = subst (λ r. Passes uri (r ∷ [])) (sym it.1) (λ last. refl)

  pub hover_passes : (message id : Data) (old : State) (reply : Data) → IsHovered answers message id old reply
      → (uri : List ℕ) → Passes uri (reply ∷ [])
  hover_passes message id old reply (inl it) uri =
      subst (λ r. Passes uri (r ∷ [])) (sym it.replied) (λ last. refl)
  hover_passes message id old reply (inr it) uri = subst (λ r. Passes uri (r ∷ [])) (sym it.1) (λ last. refl)
