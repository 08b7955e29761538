-- Whole sessions: messages and the replies to them, one after the other. Own rule of the server, over Language Server
-- Protocol 3.17.
use Rattle.std.specs.Prelude.{◌≡◌, ◌⊎◌, ℕ, Bool, true, false, List, [], ◌∷◌, ◌++◌}
use Rattle.serde_json.specs.Data.{Data}
use Rattle.pc_wire.specs.Frames.{IsShort, IsLong}
use Rattle.pc_documents.specs.CheckerAnswers.{CheckerAnswer, AreConsistent}
use Rattle.pc_session.specs.declared.replies.ErrorCode.TheVariants.{TooLong}
use Rattle.pc_session.specs.Sessions.{IsTurn, IsUnreadable, Step, forgot}
use Rattle.pc_session.specs.Shown.{lost_data, IsInStep}
use Rattle.pc_session.specs.States.{State, fresh}

-- a message that came, and whether it was lost for want of memory
pub record Arrival : Type 0 where
  pub message : List ℕ
  pub lost : Bool

module _ (answers : List ℕ → CheckerAnswer → Type 0) where
  -- the replies to a message that was not lost, and the session after it: those of a step, or the refusal of a message
  -- that is too long
  abbrev pub IsReplied : List ℕ → State → List Data → State → Type 0
  IsReplied message old replies new = (IsShort message × Step answers old message replies new)
      ⊎ (IsLong message × IsUnreadable TooLong old replies new)

  -- the replies to a message, and the session after it; if it was lost, the log says so and no text is known
  abbrev pub Exchange : Bool → List ℕ → State → List Data → State → Type 0
  Exchange true message old replies new = IsTurn (lost_data ∷ []) (forgot old) replies new
  Exchange false message old replies new = IsReplied message old replies new

  -- the replies to messages, one after the other, and the session after them
  abbrev pub Exchanges : State → List Arrival → List Data → State → Type 0
  Exchanges old [] replies new = (replies ≡ []) × (new ≡ old)
  Exchanges old (arrival ∷ arrivals) replies new = (first : List Data) × (rest : List Data) × (between : State)
      × Exchange arrival.lost arrival.message old first between × Exchanges between arrivals rest new
      × (replies ≡ first ++ rest)

  -- answers about a text do not contradict each other, however often it is checked
  abbrev pub IsDetermined : Type 0
  IsDetermined = (text : List ℕ) (one other : CheckerAnswer) → answers text one → answers text other → AreConsistent one other

  -- after any messages from a fresh session, what was sent is in step with the session
  abbrev pub SessionsStayInStep : Type 0
  SessionsStayInStep = (arrivals : List Arrival) (replies : List Data) (session : State)
      → Exchanges fresh arrivals replies session → IsInStep answers replies session

  -- two sessions over the same messages write the same replies, and come to the same state
  abbrev pub RepliesAreDetermined : Type 0
  RepliesAreDetermined = (arrivals : List Arrival) (replies others : List Data) (session other : State)
      → Exchanges fresh arrivals replies session → Exchanges fresh arrivals others other
      → (replies ≡ others) × (session ≡ other)

  -- the replies to messages begin with the replies to the first of them; the session goes on from there to the others
  abbrev pub SessionsGoOn : Type 0
  SessionsGoOn = (first later : List Arrival) (old new : State) (replies : List Data)
      → Exchanges old (first ++ later) replies new
      → (begun : List Data) × (rest : List Data) × (between : State) × Exchanges old first begun between
      × Exchanges between later rest new × (replies ≡ begun ++ rest)
