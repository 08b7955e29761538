-- The answers of a checker of texts. Own rule of the server.
use Rattle.std.specs.Prelude.{◌≡◌, ℕ, List, Option}
use Rattle.pc_documents.specs.declared.checker.CheckOutcome.{CheckOutcome}
use Rattle.pc_documents.specs.Said.{SayTheSame}

-- an answer about a text: its findings or its refusal, or the text of the type that is shown at a byte of it
pub data CheckerAnswer : Type 0 where
  outcome : CheckOutcome → CheckerAnswer
  type_shown : (byte : ℕ) → Option (List ℕ) → CheckerAnswer

-- two answers do not contradict each other: two outcomes say the same, and so do two types shown at one byte
abbrev pub AreConsistent : CheckerAnswer → CheckerAnswer → Type 0
AreConsistent (outcome one) (outcome other) = SayTheSame one other
AreConsistent (type_shown byte one) (type_shown place other) = byte ≡ place → one ≡ other
AreConsistent (outcome one) (type_shown byte other) = Unit {0}
AreConsistent (type_shown byte one) (outcome other) = Unit {0}
