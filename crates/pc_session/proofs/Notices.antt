-- The step of a session that runs at a notification about a document.
use Rattle.std.specs.Prelude.{codes, option_map, option_and_then, is_some, false}
use Rattle.std.proofs.Common.{◌≡◌, ℕ, List, Option, None, Some, sym, ap, ◌∙◌, subst, inl, inr, true≢false, arith}
use Rattle.serde_json.specs.Data.{Data}
use Rattle.serde_json.specs.Find.{get}
use Rattle.pc_documents.specs.CheckerAnswers.{CheckerAnswer}
use Rattle.pc_documents.specs.Documents.{is_open, document_at, OpenDocument}
use Rattle.pc_session.specs.declared.messages.LspMethod.{LspMethod}
use Rattle.pc_session.specs.declared.session.Stage.{Stage}
use Rattle.pc_session.specs.declared.session.Stage.TheVariants.{Running}
use Rattle.pc_session.specs.Messages.{method_in, method_named, version_in, is_older}
use Rattle.pc_session.specs.Notices.{IsNoticeOf}
use Rattle.pc_session.specs.Sessions.{Step, OnMessage, OnMethod, OnNotification, OnOpen, OnChange, IsKept, opened_in}
use Rattle.pc_session.specs.Sessions.{changed_in, named_document}
use Rattle.pc_session.specs.States.{State}

some_inj : {A : Type 0} {x y : A} → Some x ≡ Some y → x ≡ y
some_inj e = grind arith

some_none : {A : Type 0} {x : A} → Some x ≡ None → ⊥
some_none e = grind arith

module _ (answers : List ℕ → CheckerAnswer → Type 0) where
  -- the step at a notification is that of its method
  of_notice : (method uri bytes : List ℕ) (message : Data) (old new : State) (replies : List Data)
      → IsNoticeOf method uri bytes message → Step answers old bytes replies new
      → OnNotification answers (method_named method) old.stage message old replies new
  of_notice method uri bytes message old new replies notice (inr unread) =
      absurd (some_none (sym notice.spelled ∙ unread.no_json notice.utf8))
  of_notice method uri bytes message old new replies notice (inl it) =
      let is : it.message ≡ message = some_inj (sym it.spelled ∙ notice.spelled) in
      let names : method_in message ≡ Some (method_named method) = ap (option_map method_named) notice.named in
      let Comes : Data → Type 0 = λ m. OnMessage answers m old replies new in
      elim (subst Comes is it.answered) [
        | inr other ↦ absurd (some_none (sym names ∙ other.none))
        | inl named ↦
            let same : named.method ≡ method_named method = some_inj (sym named.names ∙ names) in
            let Does : LspMethod → Type 0 = λ m. OnMethod answers m (get (codes "id") message) message old replies new in
            let Asks : Option Data → Type 0 = λ i. OnMethod answers (method_named method) i message old replies new in
            subst Asks notice.no_request (subst Does same named.answered)
      ]

  -- after `didOpen` the document is the one that is opened
  pub opened_is_kept : (old new : State) (uri bytes : List ℕ) (message : Data) (replies : List Data)
      → old.stage ≡ Running → IsNoticeOf (codes "textDocument/didOpen") uri bytes message
      → Step answers old bytes replies new → IsKept answers (opened_in message uri) old replies new
  opened_is_kept old new uri bytes message replies running notice step =
      let Comes : Stage → Type 0 = λ s.
      OnNotification answers (method_named (codes "textDocument/didOpen")) s message old replies new in
      let Names : List ℕ → Type 0 = λ u. IsKept answers (opened_in message u) old replies new in
      let comes : OnOpen answers message old replies new =
      subst Comes running (of_notice (codes "textDocument/didOpen") uri bytes message old new replies notice step) in
      elim comes [
        | inl it ↦ subst Names (some_inj (sym it.names ∙ notice.of_document)) it.kept
        | inr other ↦ absurd (some_none (sym notice.of_document ∙ other.none))
      ]

  -- the open document that a notification names
  named_is : (old : State) (uri bytes method : List ℕ) (message : Data) → IsNoticeOf method uri bytes message
      → named_document message old ≡ document_at uri old.documents
  named_is old uri bytes method message notice =
      ap (option_and_then (λ u. document_at u old.documents)) notice.of_document

  -- after `didChange` to no older version an open document is the one that it changed to
  pub changed_is_kept : (old new : State) (uri bytes : List ℕ) (message : Data) (document : OpenDocument)
      (replies : List Data) → old.stage ≡ Running → document_at uri old.documents ≡ Some document
      → is_older (version_in message) document.version ≡ false
      → IsNoticeOf (codes "textDocument/didChange") uri bytes message → Step answers old bytes replies new
      → IsKept answers (changed_in message document) old replies new
  changed_is_kept old new uri bytes message document replies running was_open in_order notice step =
      let Comes : Stage → Type 0 = λ s.
      OnNotification answers (method_named (codes "textDocument/didChange")) s message old replies new in
      let Keeps : OpenDocument → Type 0 = λ d. IsKept answers (changed_in message d) old replies new in
      let named : named_document message old ≡ Some document =
      named_is old uri bytes (codes "textDocument/didChange") message notice ∙ was_open in
      let comes : OnChange answers message old replies new =
      subst Comes running (of_notice (codes "textDocument/didChange") uri bytes message old new replies notice step) in
      elim comes [
        | inl it ↦ subst Keeps (some_inj (sym it.named ∙ named)) it.kept
        | inr (inl it) ↦
            let same : it.document ≡ document = some_inj (sym it.named ∙ named) in
            absurd (true≢false (sym it.older
            ∙ (ap (λ d. is_older (version_in message) d.version) same ∙ in_order)))
        | inr (inr (inl it)) ↦
            let same : it.uri ≡ uri = some_inj (sym it.names ∙ notice.of_document) in
            absurd (true≢false (sym (ap is_some was_open)
            ∙ (ap (λ u. is_open u old.documents) (sym same) ∙ it.closed)))
        | inr (inr (inr other)) ↦ absurd (some_none (sym notice.of_document ∙ other.none))
      ]
