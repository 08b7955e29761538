-- Each message keeps what the client shows in step with the session.
use Rattle.std.specs.Prelude.{codes}
use Rattle.std.proofs.Common.{◌≡◌, ℕ, List, [], ◌∷◌, ◌++◌, Option, None, Some, refl, inl, inr}
use Rattle.serde_json.specs.Data.{Data, null, array, no_items}
use Rattle.serde_json.specs.Find.{get}
use Rattle.pc_documents.specs.CheckerAnswers.{CheckerAnswer}
use Rattle.pc_documents.specs.Documents.{OpenDocument}
use Rattle.pc_session.specs.declared.messages.LspMethod.{LspMethod}
use Rattle.pc_session.specs.declared.messages.LspMethod.TheVariants.{Initialize, Shutdown, Exit, DidOpen, DidChange}
use Rattle.pc_session.specs.declared.messages.LspMethod.TheVariants.{DidClose, Hover, Diagnostic, CodeAction}
use Rattle.pc_session.specs.declared.messages.LspMethod.TheVariants.{DocumentSymbol, Definition}
use Rattle.pc_session.specs.declared.replies.ErrorCode.TheVariants.{ParseError, InvalidRequest, MethodNotFound}
use Rattle.pc_session.specs.declared.replies.ErrorCode.TheVariants.{ServerNotInitialized}
use Rattle.pc_session.specs.declared.session.Stage.{Stage}
use Rattle.pc_session.specs.declared.session.Stage.TheVariants.{Fresh, Running, ShutDown, Ended}
use Rattle.pc_session.specs.Messages.{agreed_in}
use Rattle.pc_session.specs.Replies.{result_data, log_data, capabilities_data}
use Rattle.pc_session.specs.Sessions.{IsTurn, Step, OnNoMethod, OnFresh, OnRunning, OnRequest, OnNotice, OnStage}
use Rattle.pc_session.specs.Sessions.{OnNotification, OnMethod, OnSpoiled, at_stage, exit_status, identifier_or_null}
use Rattle.pc_session.specs.Sessions.{opened_in, changed_in}
use Rattle.pc_session.specs.Spoiled.{Spoils}
use Rattle.pc_session.specs.States.{State}
use Rattle.pc_session.proofs.Showing.{shut_fresh, ended_fresh, spoiled_running, Holds, quiet, turned, let_be, answered}
use Rattle.pc_session.proofs.Showing.{refused, kept, closed, unreadable, begins, pull_passes, hover_passes, list_passes}
use Rattle.pc_session.proofs.Showing.{locate_passes}

module _ (answers : List ℕ → CheckerAnswer → Type 0) where
  -- ---- the effect of each message

  fresh_request : (method : LspMethod) (id message : Data) (sent replies : List Data) (old new : State)
      → old.stage ≡ Fresh → OnFresh method id message old replies new → Holds answers sent old → Holds answers (sent ++ replies) new
  fresh_request Initialize id message sent replies old new stage it h =
      turned answers sent replies (result_data id (capabilities_data (agreed_in message).encoding) ∷ []) old
      (record { stage = Running; agreed = agreed_in message; documents = old.documents }) new it
      (begins answers sent (result_data id (capabilities_data (agreed_in message).encoding)) (agreed_in message) old
      (λ uri last. refl) stage h)
  fresh_request _ id message sent replies old new stage it h =
      refused answers sent replies ServerNotInitialized id old new it h

  running_request : (method : LspMethod) (id message : Data) (sent replies : List Data) (old new : State)
      → old.stage ≡ Running → OnRunning answers method id message old replies new → Holds answers sent old
      → Holds answers (sent ++ replies) new
  running_request Shutdown id message sent replies old new stage it h =
      turned answers sent replies (result_data id null ∷ []) old (at_stage ShutDown old) new it
      (quiet answers sent (result_data id null ∷ []) old ShutDown (λ uri last. refl) (λ e. absurd (shut_fresh e)) h)
  running_request Hover id message sent replies old new stage it h =
      answered answers sent replies it.reply old new (hover_passes answers message id old it.reply it.is_reply) it.answered h
  running_request Diagnostic id message sent replies old new stage it h =
      answered answers sent replies it.reply old new (pull_passes answers message id old it.reply it.is_reply) it.answered h
  running_request DocumentSymbol id message sent replies old new stage it h =
      answered answers sent replies it.reply old new (list_passes message id old it.reply it.is_reply) it.answered h
  running_request Definition id message sent replies old new stage it h =
      answered answers sent replies it.reply old new (locate_passes message id old it.reply it.is_reply) it.answered h
  running_request CodeAction id message sent replies old new stage it h =
      answered answers sent replies (result_data id (array no_items)) old new (λ uri last. refl) it h
  running_request Initialize id message sent replies old new stage it h =
      refused answers sent replies InvalidRequest id old new it h
  running_request _ id message sent replies old new stage it h =
      refused answers sent replies MethodNotFound id old new it h

  requested : (stage : Stage) (method : LspMethod) (id message : Data) (sent replies : List Data) (old new : State)
      → old.stage ≡ stage → OnRequest answers stage method id message old replies new → Holds answers sent old
      → Holds answers (sent ++ replies) new
  requested Fresh method id message sent replies old new stage it h =
      fresh_request method id message sent replies old new stage it h
  requested Running method id message sent replies old new stage it h =
      running_request method id message sent replies old new stage it h
  requested ShutDown method id message sent replies old new stage it h =
      refused answers sent replies InvalidRequest id old new it h
  requested (Ended status) method id message sent replies old new stage it h =
      refused answers sent replies InvalidRequest id old new it h

  logged : (text : List ℕ) (sent replies : List Data) (old new : State) → IsTurn (log_data text ∷ []) old replies new
      → Holds answers sent old → Holds answers (sent ++ replies) new
  logged text sent replies old new it h = answered answers sent replies (log_data text) old new (λ uri last. refl) it h

  noticed : (method : LspMethod) (message : Data) (sent replies : List Data) (old new : State) → old.stage ≡ Running
      → OnNotice answers method message old replies new → Holds answers sent old → Holds answers (sent ++ replies) new
  noticed DidOpen message sent replies old new stage (inl it) h =
      kept answers sent replies (opened_in message it.uri) old new it.kept stage h
  noticed DidOpen message sent replies old new stage (inr it) h = logged _ sent replies old new it.answered h
  noticed DidChange message sent replies old new stage (inl it) h =
      kept answers sent replies (changed_in message it.document) old new it.kept stage h
  noticed DidChange message sent replies old new stage (inr (inl it)) h =
      logged _ sent replies old new it.answered h
  noticed DidChange message sent replies old new stage (inr (inr (inl it))) h =
      logged _ sent replies old new it.answered h
  noticed DidChange message sent replies old new stage (inr (inr (inr it))) h =
      logged _ sent replies old new it.answered h
  noticed DidClose message sent replies old new stage (inl it) h = closed answers sent replies message old new it stage h
  noticed DidClose message sent replies old new stage (inr (inl it)) h = logged _ sent replies old new it.answered h
  noticed DidClose message sent replies old new stage (inr (inr it)) h = logged _ sent replies old new it.answered h
  noticed _ message sent replies old new stage it h = let_be answers sent replies old new it h

  at_a_stage : (stage : Stage) (method : LspMethod) (message : Data) (sent replies : List Data) (old new : State)
      → old.stage ≡ stage → OnStage answers stage method message old replies new → Holds answers sent old
      → Holds answers (sent ++ replies) new
  at_a_stage Running method message sent replies old new stage it h =
      noticed method message sent replies old new stage it h
  at_a_stage _ method message sent replies old new stage it h = let_be answers sent replies old new it h

  notified : (method : LspMethod) (message : Data) (sent replies : List Data) (old new : State)
      → OnNotification answers method old.stage message old replies new → Holds answers sent old → Holds answers (sent ++ replies) new
  notified Exit message sent replies old new it h =
      turned answers sent replies [] old (at_stage (Ended (exit_status old.stage)) old) new it
      (quiet answers sent [] old (Ended (exit_status old.stage)) (λ uri last. refl) (λ e. absurd (ended_fresh _ e)) h)
  notified method message sent replies old new it h =
      at_a_stage old.stage method message sent replies old new refl it h

  with_method : (method : LspMethod) (id : Option Data) (message : Data) (sent replies : List Data) (old new : State)
      → OnMethod answers method id message old replies new → Holds answers sent old → Holds answers (sent ++ replies) new
  with_method method None message sent replies old new it h = notified method message sent replies old new it h
  with_method method (Some id) message sent replies old new (inl it) h =
      requested old.stage method id message sent replies old new refl it.1 h
  with_method method (Some id) message sent replies old new (inr it) h =
      refused answers sent replies InvalidRequest null old new it.1 h

  without_method : (id : Option Data) (message : Data) (sent replies : List Data) (old new : State)
      → OnNoMethod id message old replies new → Holds answers sent old → Holds answers (sent ++ replies) new
  without_method None message sent replies old new it h = refused answers sent replies InvalidRequest null old new it h
  without_method (Some id) message sent replies old new (inl it) h = let_be answers sent replies old new it.1 h
  without_method (Some id) message sent replies old new (inr it) h =
      refused answers sent replies InvalidRequest (identifier_or_null id) old new it.1 h

  spoiled : (document : Option OpenDocument) (bytes : List ℕ) (sent replies : List Data) (old new : State)
      → Spoils bytes old document → OnSpoiled answers document old replies new → Holds answers sent old
      → Holds answers (sent ++ replies) new
  spoiled None bytes sent replies old new spoils it h = unreadable answers ParseError sent replies old new it h
  spoiled (Some document) bytes sent replies old new spoils it h =
      kept answers sent replies document old new it (spoiled_running old.stage spoils.0 old document spoils.2) h

  pub stepped : (bytes : List ℕ) (sent replies : List Data) (old new : State) → Step answers old bytes replies new
      → Holds answers sent old → Holds answers (sent ++ replies) new
  stepped bytes sent replies old new (inl it) h = elim it.answered [
    | inl named ↦ with_method named.method (get (codes "id") it.message) it.message sent replies old new named.answered h
    | inr other ↦ without_method (get (codes "id") it.message) it.message sent replies old new other.answered h
  ]
  stepped bytes sent replies old new (inr it) h =
      spoiled it.document bytes sent replies old new it.spoils it.spoiled h
