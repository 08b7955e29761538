-- Laws of framed messages.
use Rattle.std.specs.Prelude.{◌≡◌, List, ℕ, ◌++◌}
use Rattle.pc_wire.specs.Frames.{IsFrame, AreFrames}

-- bytes begin with at most one framed message
abbrev pub OneFrame : Type 0
OneFrame = (first other rest more message next : List ℕ) → first ++ rest ≡ other ++ more → IsFrame first message
    → IsFrame other next → (first ≡ other) × (message ≡ next)

-- bytes are at most one list of framed messages
abbrev pub OneList : Type 0
OneList = (bytes : List ℕ) (messages others : List (List ℕ)) → AreFrames bytes messages → AreFrames bytes others
    → messages ≡ others
