-- The printed report of the bytes that were read is that of the bytes of the reader.
use Rattle.std.proofs.Common.{◌≡◌, ℕ, ◌+◌, ◌<◌, List, length, Bool, Option, sym, subst}
use Rattle.std.specs.Io.KnownBytes.{Consumes, IsAtEnd}
use Rattle.pc_source.specs.Text.{source_limit}
use Rattle.pc_source.specs.declared.counted.Counted.{Counted}
use Rattle.pc_source.specs.Taken.{TakesAll, TakesBeginning}
use Rattle.pc_report.specs.declared.report.Row.{Row}
use Rattle.pc_report.specs.declared.writing.WriteFault.{WriteFault}
use Rattle.pc_report.specs.declared.writing.WriteFault.TheVariants as write_fault
use Rattle.pc_report.specs.Report.{errors_of, dynamic_count}
use Rattle.pc_top.specs.DetailedTexts.{IsPrinted, IsPrintingBegun, PrintsDetails}
use Rattle.pc_top.specs.Streaming.{WhenWriteFails, write_checked}
use Rattle.pc_top.proofs.StreamBytes.{all_bytes, are_all, same}

module _ (told left : Option (List ℕ)) (given : List ℕ) (consumed : Consumes told left given)
    (whole : length given < source_limit + 1 → IsAtEnd left) where
  prints_all : (json : Bool) (rows : List Row) (printed : List ℕ) → PrintsDetails json given rows printed
      → PrintsDetails json (all_bytes told given) rows printed
  prints_all json rows printed h = subst (λ (l : List ℕ). PrintsDetails json l rows printed)
      (sym (same told left given consumed whole h.headline.spelled.laid_out.lined.text.short)) h

  module _ {W : Type 0} (contents : W → Option (List ℕ)) (json : Bool) (old new : Counted W) (rows : List Row)
      (printed : List ℕ) (h : PrintsDetails json given rows printed) where
    pub printed_stream : (errors dynamic : ℕ) → errors ≡ errors_of rows → dynamic ≡ dynamic_count rows
        → TakesAll contents printed old new → IsPrinted contents told json old new errors dynamic
    printed_stream errors dynamic e d written = record {
      bytes = all_bytes told given;
      given = are_all told given;
      rows = rows;
      printed = printed;
      prints = prints_all json rows printed h;
      errors_are = e;
      dynamic_are = d;
      written = written;
    }

    pub printing_begun_stream : (e : WriteFault) → TakesBeginning contents printed old new
        → WhenWriteFails (IsPrintingBegun contents told json old new) (write_checked e)
    printing_begun_stream write_fault.Write written = record {
      bytes = all_bytes told given;
      given = are_all told given;
      rows = rows;
      printed = printed;
      prints = prints_all json rows printed h;
      written = written;
    }
