-- The reads and writes of a check of a stream. Own rule of the profile.
use Rattle.std.specs.Prelude.{◌≡◌, ℕ, ◌≤◌, Bool, true, false, List, Option, None, Some, ⊤, Result, Err, length}
use Rattle.pc_source.specs.declared.counted.Counted.{Counted}
use Rattle.pc_source.specs.declared.fault.Fault.{Fault}
use Rattle.pc_source.specs.declared.fault.Fault.TheVariants as fault
use Rattle.pc_source.specs.declared.fault.Refusal.{Refusal}
use Rattle.pc_source.specs.Taken.{TakesAll, TakesBeginning}
use Rattle.pc_front.specs.Bytes.{IsRefusalOf}
use Rattle.pc_report.specs.declared.format.Format.{Format}
use Rattle.pc_report.specs.declared.reading.ReadFault.{ReadFault}
use Rattle.pc_report.specs.declared.reading.ReadFault.TheVariants as read_fault
use Rattle.pc_report.specs.declared.writing.WriteFault.{WriteFault}
use Rattle.pc_report.specs.declared.writing.WriteFault.TheVariants as write_fault
use Rattle.pc_report.specs.declared.report.Row.{Row}
use Rattle.pc_report.specs.Report.{report_text, errors_of, dynamic_count}
use Rattle.pc_report.specs.Json.{report_json}
use Rattle.pc_report.specs.Reading.{IsRead}
use Rattle.pc_top.specs.Headline.{Headline}
use Rattle.pc_top.specs.declared.fault.CheckFault.{CheckFault}
use Rattle.pc_top.specs.declared.fault.CheckFault.TheVariants as check_fault

-- the fault of a stream for a fault of the check of its bytes
abbrev pub check_fault_of : Fault → CheckFault
check_fault_of (fault.Refused refusal) = check_fault.Refused refusal
check_fault_of fault.OutOfMemory = check_fault.OutOfMemory

-- the fault of a stream for a fault of reading
abbrev pub read_checked : ReadFault → CheckFault
read_checked read_fault.OutOfMemory = check_fault.OutOfMemory
read_checked read_fault.Read = check_fault.Read

-- the fault of a stream for a fault of writing
abbrev pub write_checked : WriteFault → CheckFault
write_checked write_fault.Write = check_fault.Write

-- whether the result is that the reader failed
abbrev pub reader_fails : {T : Type 0} → Result T CheckFault → Bool
reader_fails (Err check_fault.Read) = true
reader_fails _ = false

-- whether the result is that the writer failed
abbrev pub writer_fails : {T : Type 0} → Result T CheckFault → Bool
writer_fails (Err check_fault.Write) = true
writer_fails _ = false

-- P holds of the refusal, if the fault is one
abbrev pub WhenRefused : (Refusal → Type 0) → CheckFault → Type 0
WhenRefused P (check_fault.Refused refusal) = P refusal
WhenRefused P _ = Unit {0}

-- P holds if the fault is that the writer failed
abbrev pub WhenWriteFails : Type 0 → CheckFault → Type 0
WhenWriteFails P check_fault.Write = P
WhenWriteFails P _ = Unit {0}

-- P holds unless the fault is that the writer failed
abbrev pub UnlessWriteFails : Type 0 → CheckFault → Type 0
UnlessWriteFails P check_fault.Write = Unit {0}
UnlessWriteFails P _ = P

-- the bytes of a reader, if they are known
abbrev pub AreBytesOf : Option (List ℕ) → List ℕ → Type 0
AreBytesOf None bytes = ⊤
AreBytesOf (Some told) bytes = bytes ≡ told

-- the greatest number of bytes read: one more than a source text may have
abbrev pub most_read : ℕ
most_read = 1048577

-- P holds unless the reader or an allocation failed
abbrev pub OnceRead : {T : Type 0} → Result T CheckFault → Type 0 → Type 0
OnceRead (Err check_fault.Read) P = Unit {0}
OnceRead (Err check_fault.OutOfMemory) P = Unit {0}
OnceRead _ P = P

-- the reader gave its bytes to its end, or as many as are read at most; the rest is still to be read
pub record IsReadThrough {R : Type 0} (remaining : R → Option (List ℕ)) (old new : Counted R) : Type 0 where
  pub bytes : List ℕ
  pub read : IsRead remaining most_read bytes old new

-- a byte is within the bytes of a reader, if they are known, and within the bytes read
pub record IsWithinStream (told : Option (List ℕ)) (byte : ℕ) : Type 0 where
  pub bytes : List ℕ
  pub given : AreBytesOf told bytes
  pub within : byte ≤ length bytes
  pub most : byte ≤ most_read

-- a report in a format, as text or as JSON
abbrev pub report_bytes : (json : Bool) → Format → List Row → List ℕ
report_bytes false format rows = report_text format rows
report_bytes true format rows = report_json format rows

-- the refusal is that of the bytes of the reader
pub record IsRefusedStream (told : Option (List ℕ)) (refusal : Refusal) : Type 0 where
  pub bytes : List ℕ
  pub given : AreBytesOf told bytes
  pub refused : IsRefusalOf bytes refusal

module _ {W : Type 0} (contents : W → Option (List ℕ)) where
  -- the report of the reader's bytes is written whole, and these are its numbers of errors and of dynamic places
  pub record IsReported (told : Option (List ℕ)) (json : Bool) (format : Format) (old new : Counted W)
      (errors dynamic : ℕ) : Type 0 where
    pub bytes : List ℕ
    pub given : AreBytesOf told bytes
    pub rows : List Row
    pub headline : Headline bytes rows
    pub errors_are : errors ≡ errors_of rows
    pub dynamic_are : dynamic ≡ dynamic_count rows
    pub written : TakesAll contents (report_bytes json format rows) old new

  -- a beginning of the report of the reader's bytes is written, and then the writer failed
  pub record IsBegun (told : Option (List ℕ)) (json : Bool) (format : Format) (old new : Counted W) : Type 0 where
    pub bytes : List ℕ
    pub given : AreBytesOf told bytes
    pub rows : List Row
    pub headline : Headline bytes rows
    pub written : TakesBeginning contents (report_bytes json format rows) old new
