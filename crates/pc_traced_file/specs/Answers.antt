-- The answer of the program to the bytes of a reader: standard output and standard error. Own rule of the profile.
use Rattle.std.specs.Prelude.{◌≡◌, ℕ, ◌+◌, List, take, Option, Result, Ok, Err}
use Rattle.std.specs.Io.KnownBytes.{Appends, IsAtEnd}
use Rattle.pc_source.specs.declared.counted.Counted.{Counted}
use Rattle.pc_source.specs.declared.fault.Refusal.{Refusal}
use Rattle.pc_source.specs.declared.place.Place.{Place}
use Rattle.pc_source.specs.Taken.{TakesAll}
use Rattle.pc_source.specs.Text.{source_limit}
use Rattle.pc_machine.specs.Runs.{End}
use Rattle.pc_run.specs.Traces.{trace_lines}
use Rattle.pc_front.specs.Bytes.{IsRefusalOf}
use Rattle.pc_report.specs.FaultLines.{refusal_line, memory_line, IsTold}
use Rattle.pc_report.specs.Reading.{IsRead}
use Rattle.pc_commands.specs.Running.{RunsPlainly}
use Rattle.pc_traced_file.specs.declared.fault.RunFault.{RunFault}
use Rattle.pc_traced_file.specs.declared.fault.RunFault.TheVariants as run_fault

-- the greatest number of bytes read: one more than a source text may have
abbrev pub most_read : ℕ
most_read = source_limit + 1

module _ {R : Type 0} (remaining : R → Option (List ℕ)) where
  -- the reader gave its bytes to its end, and their plain run, with that fuel and these choices, has these events and
  -- this end
  pub record RunsInput (fuel : ℕ) (choices : List ℕ) (old new : Counted R) (events : List Place) (end : End) : Type 0 where
    pub bytes : List ℕ
    pub read : IsRead remaining most_read bytes old new
    pub whole : IsAtEnd (remaining new.device)
    pub runs : RunsPlainly bytes fuel choices events end

  -- the refusal is that of the bytes read: all of the reader's, or as many as are read at most
  pub record IsRefusedInput (old new : Counted R) (refusal : Refusal) : Type 0 where
    pub bytes : List ℕ
    pub read : IsRead remaining most_read bytes old new
    pub refused : IsRefusalOf bytes refusal

-- the text is the trace of a run: the lines of its events and its end
pub record IsTraceText (Runs : List Place → End → Type 0) (text : List ℕ) : Type 0 where
  pub events : List Place
  pub end : End
  pub runs : Runs events end
  pub lines : text ≡ trace_lines events end

module _ {W : Type 0} (contents : W → Option (List ℕ)) where
  -- the whole trace of the run is written, and no call failed
  pub record IsTraced (Runs : List Place → End → Type 0) (old new : Counted W) : Type 0 where
    pub events : List Place
    pub end : End
    pub runs : Runs events end
    pub written : TakesAll contents (trace_lines events end) old new

  -- the first bytes of the trace of the run are written, up to some number
  pub record IsTraceCut (Runs : List Place → End → Type 0) (old new : Counted W) : Type 0 where
    pub events : List Place
    pub end : End
    pub runs : Runs events end
    pub count : ℕ
    pub written : Appends (contents old.device) (contents new.device) (take count (trace_lines events end))

  -- standard output after an outcome: it has the whole trace of the run, or a beginning of it if the writer failed, and
  -- is the same otherwise
  abbrev pub IsOutput : (Runs : List Place → End → Type 0) → Result (Unit {0}) RunFault → (old new : Counted W) → Type 0
  IsOutput Runs (Ok done) old new = IsTraced Runs old new
  IsOutput Runs (Err run_fault.Write) old new = IsTraceCut Runs old new
  IsOutput Runs _ old new = new ≡ old

  -- standard error after an outcome: it has the line of a refusal or of a failed allocation, and is the same otherwise
  abbrev pub IsFaultShown : Result (Unit {0}) RunFault → (old new : Counted W) → Type 0
  IsFaultShown (Err (run_fault.Refused refusal)) old new = IsTold contents (refusal_line refusal) old new
  IsFaultShown (Err run_fault.OutOfMemory) old new = IsTold contents memory_line old new
  IsFaultShown _ old new = new ≡ old
