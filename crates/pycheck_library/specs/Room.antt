-- The room that a caller lends, before and after. Own rule of the profile.
use Rattle.std.specs.Prelude.{◌≡◌, ℕ, ◌≤◌, ◌<◌, List, ◌++◌, drop, length}

-- bytes that fit are put at the start of the room, and the bytes after them are unchanged; if the bytes do not fit, all
-- of the room is unchanged
pub record IsPut (bytes old new : List ℕ) : Type 0 where
  pub fits : length bytes ≤ length old → new ≡ bytes ++ drop (length bytes) old
  pub wants_room : length old < length bytes → new ≡ old
