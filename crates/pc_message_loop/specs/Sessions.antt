-- The output of the server, as the replies of a session. Own rule of the server, over Language Server Protocol 3.17.
use Rattle.std.specs.Prelude.{◌≡◌, ℕ, List, map, Option}
use Rattle.serde_json.specs.Data.{Data}
use Rattle.pc_source.specs.declared.counted.Counted.{Counted}
use Rattle.pc_source.specs.Taken.{TakesAll}
use Rattle.pc_wire.specs.Faults.{Gives}
use Rattle.pc_wire.specs.Frames.{AreFrames}
use Rattle.pc_documents.specs.CheckerAnswers.{CheckerAnswer}
use Rattle.pc_session.specs.Exchanges.{Arrival, Exchanges}
use Rattle.pc_session.specs.Sent.{AreSent}
use Rattle.pc_session.specs.States.{State, fresh}
use Rattle.pc_message_loop.specs.declared.serving.ServingEnd.{ServingEnd}
use Rattle.pc_message_loop.specs.declared.serving.ServingEnd.TheVariants as the_end
use Rattle.pc_message_loop.specs.Runs.{OnEnd, TakesSome}

-- the messages that came, whether or not they were lost
abbrev pub messages_of : List Arrival → List (List ℕ)
messages_of arrivals = map (λ arrival. arrival.message) arrivals

module _ (answers : List ℕ → CheckerAnswer → Type 0) where
  -- the bytes are the frames of the replies to these messages in a session from its beginning
  pub record AreOfSession (messages : List (List ℕ)) (bytes : List ℕ) : Type 0 where
    pub arrivals : List Arrival
    pub came : messages_of arrivals ≡ messages
    pub replies : List Data
    pub session : State
    pub exchanges : Exchanges answers fresh arrivals replies session
    pub are_sent : AreSent replies bytes

  module _ {R W : Type 0} (remaining : R → Option (List ℕ)) (contents : W → Option (List ℕ)) where
    -- the input gave framed messages, and the bytes of a session over them were written, as far as `IsWritten` says
    pub record IsAnswered (input : Counted R) (IsWritten : List ℕ → Type 0) : Type 0 where
      pub messages : List (List ℕ)
      pub given : List ℕ
      pub rest : Counted R
      pub gives : Gives remaining given input rest
      pub framed : AreFrames given messages
      pub bytes : List ℕ
      pub of_session : AreOfSession messages bytes
      pub written : IsWritten bytes

    -- the output at an end: all bytes of a session, or a beginning of them if a device failed
    abbrev pub IsAnsweredAt : ServingEnd → Counted R → Counted W → Counted W → Type 0
    IsAnsweredAt the_end.Failed input output after = IsAnswered input (λ bytes. TakesSome contents bytes output after)
    IsAnsweredAt end input output after = IsAnswered input (λ bytes. TakesAll contents bytes output after)

    -- at each end the bytes of a session over the messages that the input gave were written: all of them, or a beginning
    -- where a device failed
    abbrev pub SessionsAreWritten : Type 0
    SessionsAreWritten = (input rest : Counted R) (output after : Counted W) (end : ServingEnd)
        → OnEnd answers remaining contents input rest output after end → IsAnsweredAt end input output after
