-- The listing of the types of the bytes that were read is that of the bytes of the reader.
use Rattle.std.proofs.Common.{◌≡◌, ℕ, ◌+◌, ◌<◌, List, length, Bool, Option, sym, subst}
use Rattle.std.specs.Io.KnownBytes.{Consumes, IsAtEnd}
use Rattle.pc_source.specs.Text.{source_limit}
use Rattle.pc_source.specs.declared.counted.Counted.{Counted}
use Rattle.pc_source.specs.Taken.{TakesAll, TakesBeginning}
use Rattle.pc_report.specs.declared.listing.TypeRow.{TypeRow}
use Rattle.pc_report.specs.declared.report.Row.{Row}
use Rattle.pc_report.specs.declared.writing.WriteFault.{WriteFault}
use Rattle.pc_report.specs.declared.writing.WriteFault.TheVariants as write_fault
use Rattle.pc_report.specs.Report.{errors_of, dynamic_count}
use Rattle.pc_top.specs.Headline.{Headline}
use Rattle.pc_top.specs.Streaming.{WhenWriteFails, write_checked}
use Rattle.pc_top.specs.TypesOfBytes.{IsListed, IsListingBegun, ListsTypesOf, listing_bytes}
use Rattle.pc_top.proofs.StreamBytes.{all_bytes, are_all, same, reported_all}

module _ (told left : Option (List ℕ)) (given : List ℕ) (consumed : Consumes told left given)
    (whole : length given < source_limit + 1 → IsAtEnd left) where
  listed_all : (types : List TypeRow) → ListsTypesOf given types → ListsTypesOf (all_bytes told given) types
  listed_all types h = subst (λ (l : List ℕ). ListsTypesOf l types)
      (sym (same told left given consumed whole h.spelled.laid_out.lined.text.short)) h

  module _ {W : Type 0} (contents : W → Option (List ℕ)) (json : Bool) (old new : Counted W) (types : List TypeRow)
      (h : ListsTypesOf given types) where
    pub listed_stream : (rows : List Row) → Headline given rows → (errors dynamic : ℕ) → errors ≡ errors_of rows
        → dynamic ≡ dynamic_count rows → TakesAll contents (listing_bytes json types) old new
        → IsListed contents told json old new errors dynamic
    listed_stream rows headline errors dynamic e d written = record {
      bytes = all_bytes told given;
      given = are_all told given;
      rows = rows;
      headline = reported_all told left given consumed whole rows headline;
      errors_are = e;
      dynamic_are = d;
      types = types;
      lists = listed_all types h;
      written = written;
    }

    pub listing_begun_stream : (e : WriteFault) → TakesBeginning contents (listing_bytes json types) old new
        → WhenWriteFails (IsListingBegun contents told json old new) (write_checked e)
    listing_begun_stream write_fault.Write written = record {
      bytes = all_bytes told given;
      given = are_all told given;
      types = types;
      lists = listed_all types h;
      written = written;
    }
