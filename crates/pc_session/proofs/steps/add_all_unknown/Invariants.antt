use Rattle.std.specs.Prelude.{filter}
use Rattle.std.proofs.Common.{◌≡◌, ◌++◌, map, take}
use Rattle.serde_json.specs.View.{view}
use Rattle.pc_documents.specs.Agreed.{agreed_of}
use Rattle.pc_documents.specs.Checked.{is_sent}
use Rattle.pc_documents.specs.Documents.{opened_of}
use Rattle.pc_session.specs.Sessions.{unknown_of}
use Rattle.pc_session.proofs.steps.add_all_unknown.Given as goal

abbrev pub invariant-loop-document : goal.invariant-loop-document
invariant-loop-document l = map view l.replies.items ≡ map view l.initial.replies.items
    ++ map unknown_of (filter (is_sent (agreed_of l.session.settings))
    (map opened_of (take l.document-index l.session.documents.items)))
