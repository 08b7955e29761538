-- Sessions as data. Own rule of the server.
use Rattle.std.specs.Prelude.{false, List, [], None, map}
use Rattle.pc_position.specs.declared.positions.Encoding.TheVariants.{Utf16}
use Rattle.pc_documents.specs.Agreed.{Agreed, agreed_of}
use Rattle.pc_documents.specs.Documents.{OpenDocument, opened_of}
use Rattle.pc_session.specs.declared.session.Session.{Session}
use Rattle.pc_session.specs.declared.session.Stage.{Stage}
use Rattle.pc_session.specs.declared.session.Stage.TheVariants.{Fresh}

-- a session: its stage, the settings agreed, and the open documents
pub record State : Type 0 where
  pub stage : Stage
  pub agreed : Agreed
  pub documents : List OpenDocument

-- a session as data
abbrev pub state_of : Session → State
state_of session = record {
  stage = session.stage;
  agreed = agreed_of session.settings;
  documents = map opened_of session.documents.items;
}

-- the session that has not begun: UTF-16 until something is agreed, dynamic places as warnings, diagnostics are sent
-- without related information, and no document is open
abbrev pub fresh : State
fresh = record {
  stage = Fresh;
  agreed = record { encoding = Utf16; dynamic_severity = 2; codes_page = None; pulls = false; related = false };
  documents = [];
}
