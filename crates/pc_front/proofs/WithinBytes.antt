-- The tokens of bytes lie within them, and so does their refusal.
use Rattle.std.proofs.Common.{◌≡◌, ℕ, ◌≤◌, List, length, map}
use Rattle.std.specs.Prelude.{Result, Ok, Err, IfErr}
use Rattle.pc_source.specs.declared.fault.Refusal.{Refusal}
use Rattle.pc_source.specs.declared.fault.Fault.{Fault}
use Rattle.pc_source.specs.declared.fault.Fault.TheVariants as fault
use Rattle.pc_source.specs.Answers.{OnRefusal}
use Rattle.pc_source.specs.Within.{IsWithin}
use Rattle.pc_source.proofs.SourceRefusals.{within}
use Rattle.pc_token.specs.Lexeme.{Lexeme, LogicalLine}
use Rattle.pc_token.specs.Within.{AreWithin, LinesWithin}
use Rattle.pc_token.proofs.WithinText.{holds_items, lines_held, refused_within}
use Rattle.pc_layout.proofs.WithinText.{faults_within, layout_within}
use Rattle.pc_parse.proofs.WithinTokens.{refusal_within}
use Rattle.pc_front.specs.Bytes.{IsLined, IsLaidOut, IsRefusalOf, of_source, of_tokens, of_layout, of_grammar}

lined_within : (bytes : List ℕ) (lines : List LogicalLine) → IsLined bytes lines → LinesWithin (length bytes) lines
lined_within bytes lines h = lines_held (length bytes) lines (holds_items bytes (map Ok lines) h.split)

pub laid_out_within : (bytes : List ℕ) (tokens : List Lexeme) → IsLaidOut bytes tokens → AreWithin (length bytes) tokens
laid_out_within bytes tokens h = layout_within bytes h.lines tokens (lined_within bytes h.lines h.lined) h.layout

pub refusal_of_bytes_within : (bytes : List ℕ) (r : Refusal) → IsRefusalOf bytes r → r.byte ≤ length bytes
refusal_of_bytes_within bytes r (of_source g) = within bytes r g
refusal_of_bytes_within bytes r (of_tokens g) = refused_within bytes g.before r g.split
refusal_of_bytes_within bytes r (of_layout g) = faults_within (length bytes) g.lines r.code r.byte
    (lined_within bytes g.lines g.lined) g.refused.fault
refusal_of_bytes_within bytes r (of_grammar g) = refusal_within (length bytes) g.tokens r
    (laid_out_within bytes g.tokens g.laid_out) g.refused

-- the result for bytes
pub answer_within : {T : Type 0} (bytes : List ℕ) (r : Result T Fault) → IfErr r (OnRefusal (IsRefusalOf bytes))
    → IfErr r (IsWithin (length bytes))
answer_within bytes (Ok v) h = tt
answer_within bytes (Err (fault.Refused q)) h = refusal_of_bytes_within bytes q h
answer_within bytes (Err fault.OutOfMemory) h = tt
