-- For private clauses: the session after a change.
use Rattle.std.specs.Prelude.{remove}
use Rattle.pc_documents.specs.Agreed.{agreed_of}
use Rattle.pc_documents.specs.Documents.{with_document, opened_of}
use Rattle.pc_session.specs.declared.session.SessionChange.{SessionChange}
use Rattle.pc_session.specs.declared.session.SessionChange.TheVariants.{Nothing, ToStage, Begin, Put, Remove, Forget}
use Rattle.pc_session.specs.declared.session.Stage.TheVariants.{Running}
use Rattle.pc_session.specs.Sessions.{at_stage, with_documents, forgot}
use Rattle.pc_session.specs.States.{State}

-- the session after a change
abbrev pub after : SessionChange → State → State
after Nothing old = old
after (ToStage stage) old = at_stage stage old
after (Begin settings) old = record { stage = Running; agreed = agreed_of settings; documents = old.documents }
after (Put document) old = with_documents (with_document (opened_of document) old.documents) old
after (Remove place) old = with_documents (remove old.documents place) old
after Forget old = forgot old
