-- The replies to a list of messages. Own rule of the server, over Language Server Protocol 3.17.
use Rattle.std.specs.Prelude.{◌≡◌, ◌⊎◌, ℕ, List, [], ◌∷◌, ◌++◌, take, codes, Option, None, Some}
use Rattle.std.specs.Io.KnownBytes.{Appends, IsAtEnd}
use Rattle.pc_source.specs.declared.counted.Counted.{Counted}
use Rattle.pc_source.specs.Taken.{TakesAll}
use Rattle.pc_wire.specs.Faults.{Gives, IsBroken}
use Rattle.pc_wire.specs.Frames.{IsFrame, AreFrames, IsShort, IsLong}
use Rattle.pc_documents.specs.CheckerAnswers.{CheckerAnswer}
use Rattle.pc_session.specs.declared.session.Stage.{Stage}
use Rattle.pc_session.specs.declared.session.Stage.TheVariants.{Ended}
use Rattle.pc_session.specs.Sent.{SendsStep, SendsRefusal}
use Rattle.pc_session.specs.Sessions.{forgot}
use Rattle.pc_session.specs.States.{State, fresh}
use Rattle.pc_message_loop.specs.declared.serving.ServingEnd.{ServingEnd}
use Rattle.pc_message_loop.specs.declared.serving.ServingEnd.TheVariants as the_end

-- the reply if an allocation failed: a framed message for the client's log
abbrev pub no_memory : List ℕ
no_memory = codes "Content-Length: 151\r\n\r\n{\"jsonrpc\":\"2.0\",\"method\":\"window/logMessage\","
    ++ (codes "\"params\":{\"message\":\"out of memory: a message was lost, and no text is known until it changes"
    ++ codes "\",\"type\":1}}")

-- the exit status of the program, once `exit` is received
abbrev pub ended_with : Stage → Option ℕ
ended_with (Ended status) = Some status
ended_with stage = None

module _ {W : Type 0} (contents : W → Option (List ℕ)) where
  -- a beginning of the bytes is written, or all of them
  abbrev pub TakesSome : List ℕ → Counted W → Counted W → Type 0
  TakesSome bytes output after = (n : ℕ) × Appends (contents output.device) (contents after.device) (take n bytes)

module _ (answers : List ℕ → CheckerAnswer → Type 0) where
  -- an allocation failed: no text is known from now on, and the client is informed
  pub record IsLost (old : State) (sent : List ℕ) (new : State) : Type 0 where
    pub forgets : new ≡ forgot old
    pub told : sent ≡ no_memory

  -- the replies to a message: those of a step if it is within the limit, or the refusal if it is not; or an allocation
  -- failed
  abbrev pub Turn : State → List ℕ → List ℕ → State → Type 0
  Turn old message sent new = (IsShort message × SendsStep answers old message sent new)
      ⊎ ((IsLong message × SendsRefusal old sent new) ⊎ IsLost old sent new)

  -- the replies to a list of messages, one after the other; none follows `exit`
  abbrev pub AllReplies : State → List (List ℕ) → List ℕ → State → Type 0
  AllReplies old [] sent new = (sent ≡ []) × (new ≡ old)
  AllReplies old (message ∷ messages) sent new = (first : List ℕ) × (rest : List ℕ) × (between : State)
      × (ended_with old.stage ≡ None) × Turn old message first between × AllReplies between messages rest new
      × (sent ≡ first ++ rest)

  module _ {W : Type 0} (contents : W → Option (List ℕ)) where
    -- a beginning of the replies to a message is written, or all of them
    pub record IsBegun (message : List ℕ) (old : State) (output after : Counted W) : Type 0 where
      pub sent : List ℕ
      pub new : State
      pub turn : Turn old message sent new
      pub taken : TakesSome contents sent output after

    -- the replies to a message are written, and no call failed
    pub record IsWritten (message : List ℕ) (old new : State) (output after : Counted W) : Type 0 where
      pub sent : List ℕ
      pub turn : Turn old message sent new
      pub taken : TakesAll contents sent output after

  module _ {R W : Type 0} (remaining : R → Option (List ℕ)) (contents : W → Option (List ℕ)) where
    -- a message is read, and the replies to it are written
    pub record IsTurned (old new : State) (input rest : Counted R) (output after : Counted W) : Type 0 where
      pub message : List ℕ
      pub bytes : List ℕ
      pub given : Gives remaining bytes input rest
      pub framed : IsFrame bytes message
      pub written : IsWritten contents message old new output after

    -- a list of messages is read, the replies to them are written, and no call failed
    pub record IsServed (input rest : Counted R) (output after : Counted W) (final : State) : Type 0 where
      pub messages : List (List ℕ)
      pub bytes : List ℕ
      pub sent : List ℕ
      pub given : Gives remaining bytes input rest
      pub framed : AreFrames bytes messages
      pub run : AllReplies fresh messages sent final
      pub taken : TakesAll contents sent output after

    -- a device failed: a list of messages is read, and a beginning of the replies to them is written
    pub record IsCutShort (input : Counted R) (output after : Counted W) : Type 0 where
      pub messages : List (List ℕ)
      pub bytes : List ℕ
      pub sent : List ℕ
      pub read : Counted R
      pub final : State
      pub given : Gives remaining bytes input read
      pub framed : AreFrames bytes messages
      pub run : AllReplies fresh messages sent final
      pub taken : TakesSome contents sent output after

    -- The way the server ended: at `exit`, after which nothing is read; at the end of the input, between two messages;
    -- at broken input, after whole messages; or at a failure of a device.
    abbrev pub OnEnd : Counted R → Counted R → Counted W → Counted W → ServingEnd → Type 0
    OnEnd input rest output after (the_end.Exited status) = (final : State) × IsServed input rest output after final
        × (ended_with final.stage ≡ Some status)
    OnEnd input rest output after the_end.Ended = (final : State) × IsServed input rest output after final
        × (ended_with final.stage ≡ None) × IsAtEnd (remaining rest.device)
    OnEnd input rest output after (the_end.Broken fault) = (final : State) × (between : Counted R)
        × IsServed input between output after final × (ended_with final.stage ≡ None)
        × IsBroken remaining fault between rest
    OnEnd input rest output after the_end.Failed = IsCutShort input output after

    -- For private clauses: a message is read, and a device failed before all replies to it were written
    pub record IsHalted (old : State) (input rest : Counted R) (output after : Counted W) : Type 0 where
      pub message : List ℕ
      pub bytes : List ℕ
      pub given : Gives remaining bytes input rest
      pub framed : IsFrame bytes message
      pub begun : IsBegun contents message old output after

    -- For private clauses: the reason that no message was answered: the input ended, it is broken, or a device failed.
    abbrev pub OnStop : State → Counted R → Counted R → Counted W → Counted W → ServingEnd → Type 0
    OnStop old input rest output after (the_end.Exited status) = ⊥
    OnStop old input rest output after the_end.Ended = (after ≡ output) × Gives remaining [] input rest
        × IsAtEnd (remaining rest.device)
    OnStop old input rest output after (the_end.Broken fault) = (after ≡ output) × IsBroken remaining fault input rest
    OnStop old input rest output after the_end.Failed = (after ≡ output) ⊎ IsHalted old input rest output after
