-- The answer of the program to the bytes of a reader: standard output and standard error. Own rule of the profile.
use Rattle.std.specs.Prelude.{◌≡◌, ℕ, ◌⊎◌, Bool, true, false, List, take, Option, Result, Ok, Err}
use Rattle.std.specs.Io.KnownBytes.{Appends}
use Rattle.pc_source.specs.declared.counted.Counted.{Counted}
use Rattle.pc_report.specs.FaultLines.{refusal_line, memory_line, IsTold}
use Rattle.pc_report.specs.declared.format.Format.{Format}
use Rattle.pc_report.specs.declared.report.Row.{Row}
use Rattle.pc_report.specs.declared.listing.TypeRow.{TypeRow}
use Rattle.pc_top.specs.DetailedTexts.{IsPrinted, PrintsDetails}
use Rattle.pc_top.specs.Headline.{Headline}
use Rattle.pc_top.specs.Streaming.{AreBytesOf, IsReported, report_bytes}
use Rattle.pc_top.specs.TypesOfBytes.{IsListed, ListsTypesOf, listing_bytes}
use Rattle.pc_top.specs.declared.fault.CheckFault.{CheckFault}
use Rattle.pc_top.specs.declared.fault.CheckFault.TheVariants as check_fault
use Rattle.pc_top.specs.declared.stream.FindingCounts.{FindingCounts}
use Rattle.pc_checked_file.specs.declared.asked.AnswerKind.{AnswerKind}
use Rattle.pc_checked_file.specs.declared.asked.AnswerKind.TheVariants as answer
use Rattle.pc_checked_file.specs.declared.asked.Asked.{Asked}

-- the kind of answer for the words of a command line: details come before types, and types before a report
abbrev pub answer_of : (details types : Bool) → Format → AnswerKind
answer_of true types format = answer.Details
answer_of false true format = answer.Types
answer_of false false format = answer.Report format

-- the fault is unchanged, or that of an allocation that failed when the line of a refusal was made
abbrev pub IsExplainedAs : (old new : CheckFault) → Type 0
IsExplainedAs (check_fault.Refused refusal) new = (new ≡ check_fault.Refused refusal) ⊎ (new ≡ check_fault.OutOfMemory)
IsExplainedAs old new = new ≡ old

module _ {W : Type 0} (contents : W → Option (List ℕ)) where
  -- standard error after an outcome: it has the line of a refusal or of a failed allocation, and is the same otherwise
  abbrev pub IsFaultShown : Result FindingCounts CheckFault → (old new : Counted W) → Type 0
  IsFaultShown (Err (check_fault.Refused refusal)) old new = IsTold contents (refusal_line refusal) old new
  IsFaultShown (Err check_fault.OutOfMemory) old new = IsTold contents memory_line old new
  IsFaultShown _ old new = new ≡ old

  -- the first bytes of the report of the reader's bytes are written, up to some number
  pub record IsReportCut (told : Option (List ℕ)) (json : Bool) (format : Format) (old new : Counted W) : Type 0 where
    pub bytes : List ℕ
    pub given : AreBytesOf told bytes
    pub rows : List Row
    pub headline : Headline bytes rows
    pub count : ℕ
    pub written : Appends (contents old.device) (contents new.device) (take count (report_bytes json format rows))

  -- the first bytes of the listing of types of the reader's bytes are written, up to some number
  pub record IsListingCut (told : Option (List ℕ)) (json : Bool) (old new : Counted W) : Type 0 where
    pub bytes : List ℕ
    pub given : AreBytesOf told bytes
    pub types : List TypeRow
    pub lists : ListsTypesOf bytes types
    pub count : ℕ
    pub written : Appends (contents old.device) (contents new.device) (take count (listing_bytes json types))

  -- the first bytes of the report of the reader's bytes with its details are written, up to some number
  pub record IsPrintingCut (told : Option (List ℕ)) (json : Bool) (old new : Counted W) : Type 0 where
    pub bytes : List ℕ
    pub given : AreBytesOf told bytes
    pub rows : List Row
    pub printed : List ℕ
    pub prints : PrintsDetails json bytes rows printed
    pub count : ℕ
    pub written : Appends (contents old.device) (contents new.device) (take count printed)

  -- the whole answer of a kind to the reader's bytes is written, with these numbers of errors and of dynamic places
  abbrev pub IsWholeAnswer : (told : Option (List ℕ)) → (json : Bool) → AnswerKind → FindingCounts → (old new : Counted W) → Type 0
  IsWholeAnswer told json (answer.Report format) counts old new =
      IsReported contents told json format old new counts.errors counts.dynamic
  IsWholeAnswer told json answer.Details counts old new = IsPrinted contents told json old new counts.errors counts.dynamic
  IsWholeAnswer told json answer.Types counts old new = IsListed contents told json old new counts.errors counts.dynamic

  -- the first bytes of the answer of a kind to the reader's bytes are written, up to some number
  abbrev pub IsAnswerCut : (told : Option (List ℕ)) → (json : Bool) → AnswerKind → (old new : Counted W) → Type 0
  IsAnswerCut told json (answer.Report format) old new = IsReportCut told json format old new
  IsAnswerCut told json answer.Details old new = IsPrintingCut told json old new
  IsAnswerCut told json answer.Types old new = IsListingCut told json old new

  -- standard output after an outcome: it has the whole answer with these numbers, or a beginning of it if the writer
  -- failed, and is the same otherwise
  abbrev pub IsOutput : (told : Option (List ℕ)) → Asked → Result FindingCounts CheckFault → (old new : Counted W) → Type 0
  IsOutput told asked (Ok counts) old new = IsWholeAnswer told asked.json asked.answer counts old new
  IsOutput told asked (Err check_fault.Write) old new = IsAnswerCut told asked.json asked.answer old new
  IsOutput told asked _ old new = new ≡ old
