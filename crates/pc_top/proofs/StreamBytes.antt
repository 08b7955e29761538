-- The answer to the bytes that were read is the answer to the bytes of the reader.
use Rattle.std.proofs.Common.{◌≡◌, ℕ, ◌+◌, ◌<◌, ◌≤◌, List, ◌++◌, length, Bool, Option, None, Some, refl, sym, ap, ◌∙◌}
use Rattle.std.proofs.Common.{subst, inl, inr, arith, append-nil, length-append}
use Rattle.std.specs.Io.KnownBytes.{Consumes, IsAtEnd}
use Rattle.std.proofs.lemmas.Bool.{cases_lt}
use Rattle.pc_source.specs.declared.fault.Fault.{Fault}
use Rattle.pc_source.specs.declared.fault.Fault.TheVariants as fault
use Rattle.pc_source.specs.declared.fault.Refusal.{Refusal}
use Rattle.pc_source.specs.declared.fault.RefusalCode.{RefusalCode}
use Rattle.pc_source.specs.declared.fault.RefusalCode.TheVariants.{S1, S2, S3}
use Rattle.pc_source.specs.Answers.{OnRefusal}
use Rattle.pc_source.specs.Within.{IsWithin}
use Rattle.pc_source.specs.Text.{source_limit, IsText, IsSourceFault}
use Rattle.pc_source.specs.declared.counted.Counted.{Counted}
use Rattle.pc_source.specs.Taken.{TakesAll, TakesBeginning}
use Rattle.pc_front.specs.Bytes.{IsRefusalOf, of_source, of_tokens, of_layout, of_grammar}
use Rattle.pc_report.specs.declared.format.Format.{Format}
use Rattle.pc_report.specs.declared.report.Row.{Row}
use Rattle.pc_report.specs.declared.writing.WriteFault.{WriteFault}
use Rattle.pc_report.specs.declared.writing.WriteFault.TheVariants as write_fault
use Rattle.pc_report.specs.Report.{errors_of, dynamic_count}
use Rattle.pc_top.specs.Headline.{Headline}
use Rattle.pc_top.specs.Streaming.{AreBytesOf, IsRefusedStream, IsReported, IsBegun, IsWithinStream, WhenRefused}
use Rattle.pc_top.specs.Streaming.{WhenWriteFails, check_fault_of, most_read, report_bytes, write_checked}

-- the bytes of a reader that gave some
abbrev pub all_bytes : Option (List ℕ) → List ℕ → List ℕ
all_bytes None given = given
all_bytes (Some told) given = told

pub are_all : (told : Option (List ℕ)) (given : List ℕ) → AreBytesOf told (all_bytes told given)
are_all None given = tt
are_all (Some told) given = refl

all_given : (told left : Option (List ℕ)) (given : List ℕ) → Consumes told left given → IsAtEnd left
    → all_bytes told given ≡ given
all_given None left given p end = refl
all_given (Some told) None given p end = absurd p
all_given (Some told) (Some rest) given p end = p ∙ ap (λ (l : List ℕ). given ++ l) end ∙ append-nil given

given_le : (told left : Option (List ℕ)) (given : List ℕ) → Consumes told left given
    → length given ≤ length (all_bytes told given)
given_le None left given p = omega arith
given_le (Some told) None given p = absurd p
given_le (Some told) (Some rest) given p = omega (arith, ap length p, length-append given rest)

-- where more was read than a text may have
module _ (given all : List ℕ) (long : source_limit < length given) (more : length given ≤ length all) where
  too_long : (code : RefusalCode) (byte : ℕ) → IsSourceFault given code byte → IsSourceFault all code byte
  too_long S1 byte h = (omega arith, h.1)
  too_long S2 byte h = let short = h.0 in absurd (omega arith)
  too_long S3 byte h = let short = h.0 in absurd (omega arith)
  too_long _ byte h = let short = h.0.short in absurd (omega arith)

  no_text : ¬ (IsText given)
  no_text text = let short = text.short in absurd (omega arith)

  refused_long : (r : Refusal) → IsRefusalOf given r → IsRefusalOf all r
  refused_long r (of_source h) = of_source (too_long r.code r.byte h)
  refused_long r (of_tokens h) = absurd (no_text h.text)
  refused_long r (of_layout h) = absurd (no_text h.lined.text)
  refused_long r (of_grammar h) = absurd (no_text h.laid_out.lined.text)

module _ (told left : Option (List ℕ)) (given : List ℕ) (consumed : Consumes told left given)
    (whole : length given < source_limit + 1 → IsAtEnd left) where
  pub same : length given ≤ source_limit → all_bytes told given ≡ given
  same short = all_given told left given consumed (whole (omega arith))

  -- a refusal of what was read is that of the reader's bytes
  refused_all : (r : Refusal) → IsRefusalOf given r → IsRefusalOf (all_bytes told given) r
  refused_all r h = elim (cases_lt source_limit (length given)) [
    | inl long ↦ refused_long given (all_bytes told given) long (given_le told left given consumed) r h
    | inr short ↦ subst (λ (l : List ℕ). IsRefusalOf l r) (sym (same short)) h
  ]

  pub refused_stream : (e : Fault) → OnRefusal (IsRefusalOf given) e
      → WhenRefused (IsRefusedStream told) (check_fault_of e)
  refused_stream (fault.Refused r) h = record {
    bytes = all_bytes told given;
    given = are_all told given;
    refused = refused_all r h;
  }
  refused_stream fault.OutOfMemory h = tt

  -- it stands within them, and within what was read
  within_all : length given ≤ most_read → (byte : ℕ) → byte ≤ length given → IsWithinStream told byte
  within_all short byte h = record {
    bytes = all_bytes told given;
    given = are_all told given;
    within = omega (arith, h, given_le told left given consumed);
    most = omega (arith, h, short);
  }

  pub within_stream : length given ≤ most_read → (e : Fault) → IsWithin (length given) e
      → WhenRefused (λ r. IsWithinStream told r.byte) (check_fault_of e)
  within_stream short (fault.Refused r) h = within_all short r.byte h
  within_stream short fault.OutOfMemory h = tt

  -- and so is a report
  pub reported_all : (rows : List Row) → Headline given rows → Headline (all_bytes told given) rows
  reported_all rows h = subst (λ (l : List ℕ). Headline l rows) (sym (same h.spelled.laid_out.lined.text.short)) h

  module _ {W : Type 0} (contents : W → Option (List ℕ)) (json : Bool) (format : Format) (old new : Counted W)
      (rows : List Row) (h : Headline given rows) where
    pub reported_stream : (errors dynamic : ℕ) → errors ≡ errors_of rows → dynamic ≡ dynamic_count rows
        → TakesAll contents (report_bytes json format rows) old new
        → IsReported contents told json format old new errors dynamic
    reported_stream errors dynamic e d written = record {
      bytes = all_bytes told given;
      given = are_all told given;
      rows = rows;
      headline = reported_all rows h;
      errors_are = e;
      dynamic_are = d;
      written = written;
    }

    pub begun_stream : (e : WriteFault) → TakesBeginning contents (report_bytes json format rows) old new
        → WhenWriteFails (IsBegun contents told json format old new) (write_checked e)
    begun_stream write_fault.Write written = record {
      bytes = all_bytes told given;
      given = are_all told given;
      rows =
          rows;
      headline = reported_all rows h;
      written = written;
    }
