-- Positions beside others. Language Server Protocol 3.17, "Position"; own rule of the server.
use Rattle.std.specs.Prelude.{◌==◌, ◌&&◌, ◌||◌, Bool, not, nat_lt}
use Rattle.pc_position.specs.declared.positions.Position.{Position}

-- a position is before another
abbrev pub is_before : Position → Position → Bool
is_before first other =
    nat_lt first.line other.line || ((first.line == other.line) && nat_lt first.character other.character)

-- a position is between two others, or equal to one of them
abbrev pub is_within : Position → Position → Position → Bool
is_within start position end = not (is_before position start) && not (is_before end position)
