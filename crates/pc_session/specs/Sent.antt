-- Replies as bytes. Own rule of the server.
use Rattle.std.specs.List.{AllZip}
use Rattle.std.specs.Prelude.{◌≡◌, ℕ, List, flat_map, Some, false}
use Rattle.serde_json.specs.Data.{Data}
use Rattle.serde_json.specs.Read.{read}
use Rattle.serde_json.specs.Written.{has_float, compact_text}
use Rattle.pc_wire.specs.Frames.{frame}
use Rattle.pc_documents.specs.CheckerAnswers.{CheckerAnswer}
use Rattle.pc_session.specs.declared.replies.ErrorCode.TheVariants.{TooLong}
use Rattle.pc_session.specs.Sessions.{Step, IsUnreadable}
use Rattle.pc_session.specs.States.{State}

-- the text spells the value: it reads back as the value, and is the compact text of one without floats
pub record IsTextOf (value : Data) (text : List ℕ) : Type 0 where
  pub compact : has_float value ≡ false → text ≡ compact_text value
  pub reads_back : read text ≡ Some value

-- the bytes are the frames of texts that spell the replies, one after the other
pub record AreSent (replies : List Data) (bytes : List ℕ) : Type 0 where
  pub texts : List (List ℕ)
  pub each : AllZip IsTextOf replies texts
  pub framed : bytes ≡ flat_map frame texts

-- the bytes are the frames of the replies to a message, and this is the session after it
pub record SendsStep (answers : List ℕ → CheckerAnswer → Type 0) (old : State) (message bytes : List ℕ) (new : State)
    : Type 0 where
  pub replies : List Data
  pub step : Step answers old message replies new
  pub are_sent : AreSent replies bytes

-- the bytes are the frames of the replies to a message that is too long, and this is the session after it
pub record SendsRefusal (old : State) (bytes : List ℕ) (new : State) : Type 0 where
  pub replies : List Data
  pub refused : IsUnreadable TooLong old replies new
  pub are_sent : AreSent replies bytes
