-- The text of a trace.
-- Own rule of the profile.
use Rattle.std.specs.Prelude.{ℕ, List, ◌++◌, codes, decimal}
use Rattle.std.specs.List.{flat_map}
use Rattle.pc_source.specs.declared.place.Place.{Place}
use Rattle.pc_value.specs.Value.{Raised, Other, Outside, Cut, TypeError, AttributeError, NameError, UnboundLocalError}
use Rattle.pc_machine.specs.Runs.{End, done, stopped}
use Rattle.pc_run.specs.declared.trace.End.{End as RustEnd}
use Rattle.pc_run.specs.declared.trace.End.TheVariants as rust

-- the end of a run, as the program represents it
abbrev pub end_of_rust : RustEnd → End
end_of_rust rust.Done = done
end_of_rust rust.TypeError = stopped (Raised TypeError)
end_of_rust rust.AttributeError = stopped (Raised AttributeError)
end_of_rust rust.NameError = stopped (Raised NameError)
end_of_rust rust.UnboundLocalError = stopped (Raised UnboundLocalError)
end_of_rust rust.Other = stopped Other
end_of_rust rust.Outside = stopped Outside
end_of_rust rust.Cut = stopped Cut

-- the word of an end
abbrev pub word_of : End → List ℕ
word_of done = codes "Done"
word_of (stopped (Raised TypeError)) = codes "TypeError"
word_of (stopped (Raised AttributeError)) = codes "AttributeError"
word_of (stopped (Raised NameError)) = codes "NameError"
word_of (stopped (Raised UnboundLocalError)) = codes "UnboundLocalError"
word_of (stopped Other) = codes "Other"
word_of (stopped Outside) = codes "Outside"
word_of (stopped Cut) = codes "Cut"

-- an event's line: the bytes at which its place starts and ends
abbrev pub event_line : Place → List ℕ
event_line p = decimal p.start ++ codes " " ++ decimal p.end ++ codes "\n"

-- the lines of the events, then the line of the end
abbrev pub trace_lines : List Place → End → List ℕ
trace_lines events end = flat_map event_line events ++ codes "end " ++ word_of end ++ codes "\n"
