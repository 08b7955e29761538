-- The output of the program for each outcome, from the clauses of the calls that it makes.
use Rattle.std.proofs.Common.{◌≡◌, ℕ, List, length, take, Bool, Option, None, Some, Result, Ok, Err, IfOk, IfErr, sym, subst, ◌∙◌}
use Rattle.std.specs.Io.KnownBytes.{Appends, Keeps}
use Rattle.std.proofs.Math.Seq.{take-length}
use Rattle.pc_source.specs.declared.counted.Counted.{Counted}
use Rattle.pc_report.specs.declared.format.Format.{Format}
use Rattle.pc_top.specs.DetailedTexts.{IsPrinted, IsPrintingBegun}
use Rattle.pc_top.specs.Streaming.{IsReported, IsBegun, WhenWriteFails, UnlessWriteFails, report_bytes}
use Rattle.pc_top.specs.TypesOfBytes.{IsListed, IsListingBegun, listing_bytes}
use Rattle.pc_top.specs.declared.fault.CheckFault.{CheckFault}
use Rattle.pc_top.specs.declared.fault.CheckFault.TheVariants as check_fault
use Rattle.pc_top.specs.declared.stream.FindingCounts.{FindingCounts}
use Rattle.pc_checked_file.specs.declared.asked.AnswerKind.{AnswerKind}
use Rattle.pc_checked_file.specs.declared.asked.AnswerKind.TheVariants as answer
use Rattle.pc_checked_file.specs.declared.asked.Asked.{Asked}
use Rattle.pc_checked_file.specs.Answers.{IsWholeAnswer, IsAnswerCut, IsOutput, IsReportCut, IsListingCut, IsPrintingCut}

-- known bytes that grew by some are still grown by these after a call that keeps them
keeps_grown : (old mid new : Option (List ℕ)) (bytes : List ℕ) → Appends old mid bytes → Keeps mid new
    → Appends old new bytes
keeps_grown None mid new bytes grown kept = tt
keeps_grown (Some xs) None new bytes grown kept = absurd grown
keeps_grown (Some xs) (Some ys) None bytes grown kept = absurd kept
keeps_grown (Some xs) (Some ys) (Some zs) bytes grown kept = kept ∙ grown

module _ {W : Type 0} (contents : W → Option (List ℕ)) (told : Option (List ℕ)) where
  -- ---- an answer that was begun

  report_cut : (json : Bool) (format : Format) (old new : Counted W) → IsBegun contents told json format old new
      → IsReportCut contents told json format old new
  report_cut json format old new h = record {
    bytes = h.bytes;
    given = h.given;
    rows = h.rows;
    headline = h.headline;
    count = h.written.0;
    written = h.written.2;
  }

  listing_cut : (json : Bool) (old new : Counted W) → IsListingBegun contents told json old new
      → IsListingCut contents told json old new
  listing_cut json old new h = record {
    bytes = h.bytes;
    given = h.given;
    types = h.types;
    lists = h.lists;
    count = h.written.0;
    written = h.written.2;
  }

  printing_cut : (json : Bool) (old new : Counted W) → IsPrintingBegun contents told json old new
      → IsPrintingCut contents told json old new
  printing_cut json old new h = record {
    bytes = h.bytes;
    given = h.given;
    rows = h.rows;
    printed = h.printed;
    prints = h.prints;
    count = h.written.0;
    written = h.written.2;
  }

  -- the output after a fault, of which only a fault of writing leaves a beginning of the answer
  faulty : (asked : Asked) (Begun : Type 0) (fault : CheckFault) (old new : Counted W)
      → (Begun → IsAnswerCut contents told asked.json asked.answer old new) → WhenWriteFails Begun fault
      → UnlessWriteFails (new ≡ old) fault → IsOutput contents told asked (Err fault) old new
  faulty asked Begun check_fault.Write old new cut begun same = cut begun
  faulty asked Begun check_fault.Read old new cut begun same = same
  faulty asked Begun check_fault.OutOfMemory old new cut begun same = same
  faulty asked Begun (check_fault.Refused r) old new cut begun same = same

  -- ---- the output of each kind of answer, by the clauses of its stream

  pub report_output : (asked : Asked) (format : Format) → asked.answer ≡ answer.Report format
      → (result : Result FindingCounts CheckFault) (old new : Counted W)
      → IfOk result (λ counts. IsReported contents told asked.json format old new counts.errors counts.dynamic)
      → IfErr result (WhenWriteFails (IsBegun contents told asked.json format old new))
      → IfErr result (UnlessWriteFails (new ≡ old)) → IsOutput contents told asked result old new
  report_output asked format is (Ok counts) old new whole begun same =
      subst (λ a. IsWholeAnswer contents told asked.json a counts old new) (sym is) whole
  report_output asked format is (Err fault) old new whole begun same =
      faulty asked (IsBegun contents told asked.json format old new) fault old new
      (λ b. subst (λ a. IsAnswerCut contents told asked.json a old new) (sym is) (report_cut asked.json format old new b))
      begun same

  pub printed_output : (asked : Asked) → asked.answer ≡ answer.Details
      → (result : Result FindingCounts CheckFault) (old new : Counted W)
      → IfOk result (λ counts. IsPrinted contents told asked.json old new counts.errors counts.dynamic)
      → IfErr result (WhenWriteFails (IsPrintingBegun contents told asked.json old new))
      → IfErr result (UnlessWriteFails (new ≡ old)) → IsOutput contents told asked result old new
  printed_output asked is (Ok counts) old new whole begun same =
      subst (λ a. IsWholeAnswer contents told asked.json a counts old new) (sym is) whole
  printed_output asked is (Err fault) old new whole begun same =
      faulty asked (IsPrintingBegun contents told asked.json old new) fault old new
      (λ b. subst (λ a. IsAnswerCut contents told asked.json a old new) (sym is) (printing_cut asked.json old new b))
      begun same

  pub listing_output : (asked : Asked) → asked.answer ≡ answer.Types
      → (result : Result FindingCounts CheckFault) (old new : Counted W)
      → IfOk result (λ counts. IsListed contents told asked.json old new counts.errors counts.dynamic)
      → IfErr result (WhenWriteFails (IsListingBegun contents told asked.json old new))
      → IfErr result (UnlessWriteFails (new ≡ old)) → IsOutput contents told asked result old new
  listing_output asked is (Ok counts) old new whole begun same =
      subst (λ a. IsWholeAnswer contents told asked.json a counts old new) (sym is) whole
  listing_output asked is (Err fault) old new whole begun same =
      faulty asked (IsListingBegun contents told asked.json old new) fault old new
      (λ b. subst (λ a. IsAnswerCut contents told asked.json a old new) (sym is) (listing_cut asked.json old new b))
      begun same

  -- ---- an answer that was written whole, and then flushed

  module _ (old mid new : Counted W) (kept : Keeps (contents mid.device) (contents new.device)) where
    grown : (bytes : List ℕ) → Appends (contents old.device) (contents mid.device) bytes
        → Appends (contents old.device) (contents new.device) bytes
    grown bytes written = keeps_grown (contents old.device) (contents mid.device) (contents new.device) bytes written kept

    whole : (bytes : List ℕ) → Appends (contents old.device) (contents mid.device) bytes
        → Appends (contents old.device) (contents new.device) (take (length bytes) bytes)
    whole bytes written = subst (Appends (contents old.device) (contents new.device)) (sym (take-length bytes))
        (grown bytes written)

    reported_still : (json : Bool) (format : Format) (errors dynamic : ℕ) → new.failures ≡ mid.failures
        → IsReported contents told json format old mid errors dynamic
        → IsReported contents told json format old new errors dynamic
    reported_still json format errors dynamic none h = record {
      bytes = h.bytes;
      given = h.given;
      rows = h.rows;
      headline = h.headline;
      errors_are = h.errors_are;
      dynamic_are = h.dynamic_are;
      written = (grown (report_bytes json format h.rows) h.written.0, none ∙ h.written.1);
    }

    listed_still : (json : Bool) (errors dynamic : ℕ) → new.failures ≡ mid.failures
        → IsListed contents told json old mid errors dynamic → IsListed contents told json old new errors dynamic
    listed_still json errors dynamic none h = record {
      bytes = h.bytes;
      given = h.given;
      rows = h.rows;
      headline = h.headline;
      errors_are = h.errors_are;
      dynamic_are = h.dynamic_are;
      types = h.types;
      lists = h.lists;
      written = (grown (listing_bytes json h.types) h.written.0, none ∙ h.written.1);
    }

    printed_still : (json : Bool) (errors dynamic : ℕ) → new.failures ≡ mid.failures
        → IsPrinted contents told json old mid errors dynamic → IsPrinted contents told json old new errors dynamic
    printed_still json errors dynamic none h = record {
      bytes = h.bytes;
      given = h.given;
      rows = h.rows;
      printed = h.printed;
      prints = h.prints;
      errors_are = h.errors_are;
      dynamic_are = h.dynamic_are;
      written = (grown h.printed h.written.0, none ∙ h.written.1);
    }

    report_lost : (json : Bool) (format : Format) (errors dynamic : ℕ)
        → IsReported contents told json format old mid errors dynamic → IsReportCut contents told json format old new
    report_lost json format errors dynamic h = record {
      bytes = h.bytes;
      given = h.given;
      rows = h.rows;
      headline = h.headline;
      count = length (report_bytes json format h.rows);
      written = whole (report_bytes json format h.rows) h.written.0;
    }

    listing_lost : (json : Bool) (errors dynamic : ℕ) → IsListed contents told json old mid errors dynamic
        → IsListingCut contents told json old new
    listing_lost json errors dynamic h = record {
      bytes = h.bytes;
      given = h.given;
      types = h.types;
      lists = h.lists;
      count = length (listing_bytes json h.types);
      written = whole (listing_bytes json h.types) h.written.0;
    }

    printing_lost : (json : Bool) (errors dynamic : ℕ) → IsPrinted contents told json old mid errors dynamic
        → IsPrintingCut contents told json old new
    printing_lost json errors dynamic h = record {
      bytes = h.bytes;
      given = h.given;
      rows = h.rows;
      printed = h.printed;
      prints = h.prints;
      count = length h.printed;
      written = whole h.printed h.written.0;
    }

    -- a whole answer that was flushed
    pub flushed : (json : Bool) (kind : AnswerKind) (counts : FindingCounts) → new.failures ≡ mid.failures
        → IsWholeAnswer contents told json kind counts old mid → IsWholeAnswer contents told json kind counts old new
    flushed json (answer.Report format) counts none output =
        reported_still json format counts.errors counts.dynamic none output
    flushed json answer.Details counts none output = printed_still json counts.errors counts.dynamic none output
    flushed json answer.Types counts none output = listed_still json counts.errors counts.dynamic none output

    -- a whole answer whose flush failed: all of its bytes are a beginning
    pub flush_failed : (json : Bool) (kind : AnswerKind) (counts : FindingCounts)
        → IsWholeAnswer contents told json kind counts old mid → IsAnswerCut contents told json kind old new
    flush_failed json (answer.Report format) counts output = report_lost json format counts.errors counts.dynamic output
    flush_failed json answer.Details counts output = printing_lost json counts.errors counts.dynamic output
    flush_failed json answer.Types counts output = listing_lost json counts.errors counts.dynamic output
