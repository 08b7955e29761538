-- Framed messages. Language Server Protocol 3.17, "Base Protocol".
use Rattle.std.specs.Prelude.{◌≡◌, ℕ, ◌<◌, ◌≤◌, Bool, true, false, List, [], ◌∷◌, ◌++◌, length, take, codes, decimal}
use Rattle.std.specs.Prelude.{Ok, nat_eq}
use Rattle.std.specs.List.{ends_with}
use Rattle.pc_wire.specs.Fields.{length_in}

-- the greatest length of a header, in bytes
abbrev pub header_limit : ℕ
header_limit = 8192

-- the greatest length of a message, in bytes
abbrev pub message_limit : ℕ
message_limit = 16777216

-- the bytes end with two line ends
abbrev pub ends_header : List ℕ → Bool
ends_header bytes = ends_with nat_eq bytes (codes "\r\n\r\n")

-- no prefix of the bytes ends a header, nor do all of them
abbrev pub IsUnended : List ℕ → Type 0
IsUnended bytes = (k : ℕ) → k ≤ length bytes → ends_header (take k bytes) ≡ false

-- a header: it ends with two line ends, no shorter prefix of it does, and it is within the limit
pub record IsHeader (header : List ℕ) : Type 0 where
  pub ended : ends_header header ≡ true
  pub first : (k : ℕ) → k < length header → ends_header (take k header) ≡ false
  pub short : length header ≤ header_limit

-- a framed message: a header that gives the message's length, and then the message
pub record IsFrame (bytes message : List ℕ) : Type 0 where
  pub header : List ℕ
  pub is_header : IsHeader header
  pub named : length_in header ≡ Ok (length message)
  pub spelled : bytes ≡ header ++ message

-- the message is within the limit
abbrev pub IsShort : List ℕ → Type 0
IsShort message = length message ≤ message_limit

-- the message is over the limit
abbrev pub IsLong : List ℕ → Type 0
IsLong message = message_limit < length message

-- the bytes are these framed messages in order
abbrev pub AreFrames : List ℕ → List (List ℕ) → Type 0
AreFrames bytes [] = bytes ≡ []
AreFrames bytes (message ∷ messages) = (first : List ℕ) × (rest : List ℕ) × (bytes ≡ first ++ rest)
    × IsFrame first message × AreFrames rest messages

-- a message with the header written before it
abbrev pub frame : List ℕ → List ℕ
frame message = (codes "Content-Length: " ++ (decimal (length message) ++ codes "\r\n\r\n")) ++ message
