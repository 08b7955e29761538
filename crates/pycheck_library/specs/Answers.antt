-- The answers of the library for given bytes. Own rule of the profile.
use Rattle.std.specs.Prelude.{◌≡◌, ℕ, ◌≤◌, Bool, List, [], ◌∷◌, length}
use Rattle.pc_source.specs.Refusals.{code_text}
use Rattle.pc_source.specs.declared.fault.Refusal.{Refusal}
use Rattle.pc_front.specs.Bytes.{IsRefusalOf}
use Rattle.pc_report.specs.Format.{format_number}
use Rattle.pc_report.specs.Report.{errors_of, dynamic_count}
use Rattle.pc_report.specs.declared.format.Format.{Format}
use Rattle.pc_report.specs.declared.report.Row.{Row}
use Rattle.pc_report.specs.declared.listing.TypeRow.{TypeRow}
use Rattle.pc_top.specs.Headline.{Headline}
use Rattle.pc_top.specs.Streaming.{report_bytes}
use Rattle.pc_top.specs.TypesOfBytes.{ListsTypesOf, listing_bytes}
use Rattle.pycheck_library.specs.Room.{IsPut}
use Rattle.pycheck_library.specs.declared.answer.CheckAnswer.{CheckAnswer}

-- the answer reports these rows: its length is that of their text or JSON, which is put into the room, and its numbers
-- of errors and of dynamic places are those of the rows
pub record TellsReport (json : Bool) (format : Format) (rows : List Row) (old new : List ℕ) (answer : CheckAnswer) : Type 0 where
  pub kind_is : answer.kind ≡ 0
  pub length_is : answer.length ≡ length (report_bytes json format rows)
  pub put : IsPut (report_bytes json format rows) old new
  pub errors_are : answer.errors ≡ errors_of rows
  pub dynamic_are : answer.dynamic ≡ dynamic_count rows

-- the headline holds of the bytes and some rows, and the answer reports these rows in the format with this number
pub record IsReported (bytes : List ℕ) (json : Bool) (number : ℕ) (old new : List ℕ) (answer : CheckAnswer) : Type 0 where
  pub rows : List Row
  pub headline : Headline bytes rows
  pub format : Format
  pub named : format_number format ≡ number
  pub told : TellsReport json format rows old new answer

-- the length of the answer is that of the listing of the types of the bytes, which is put into the room; its numbers of
-- errors and of dynamic places are those of the report of the bytes
pub record IsListed (bytes : List ℕ) (json : Bool) (old new : List ℕ) (answer : CheckAnswer) : Type 0 where
  pub rows : List Row
  pub headline : Headline bytes rows
  pub errors_are : answer.errors ≡ errors_of rows
  pub dynamic_are : answer.dynamic ≡ dynamic_count rows
  pub types : List TypeRow
  pub lists : ListsTypesOf bytes types
  pub length_is : answer.length ≡ length (listing_bytes json types)
  pub put : IsPut (listing_bytes json types) old new

-- the code and the byte of the answer are those of the refusal of the bytes, at a byte from 0 to their length
pub record IsRefused (bytes : List ℕ) (answer : CheckAnswer) : Type 0 where
  pub refusal : Refusal
  pub refused : IsRefusalOf bytes refusal
  pub within : refusal.byte ≤ length bytes
  pub code_is : answer.letter ∷ answer.digit ∷ [] ≡ code_text refusal.code
  pub byte_is : answer.byte ≡ refusal.byte

-- the number is that of a format
pub record NamesFormat (number : ℕ) : Type 0 where
  pub format : Format
  pub named : format_number format ≡ number
