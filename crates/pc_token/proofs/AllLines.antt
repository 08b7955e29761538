-- The lines before a refusal.
use Rattle.std.proofs.Common.{◌≡◌, List, [], ◌∷◌, ◌++◌, map, Result, Ok, Err, refl, ap, subst}
use Rattle.pc_source.specs.Answers.{OnRefusal}
use Rattle.pc_source.specs.declared.fault.Fault.{Fault}
use Rattle.pc_source.specs.declared.fault.Fault.TheVariants as fault
use Rattle.pc_source.specs.declared.fault.Refusal.{Refusal}
use Rattle.pc_token.specs.declared.stream.Lines.{Lines}
use Rattle.pc_token.specs.declared.token.Line.{Line}
use Rattle.pc_token.specs.Lexeme.{LogicalLine, logical_line_of}
use Rattle.pc_token.specs.Remaining.{HasLeft, all_read}
use Rattle.pc_token.specs.Splitting.{HasLines, HasOnly}
use Rattle.pc_token.proofs.OneSplit.{one_list}
use Rattle.std.proofs.Common.{ℕ}

all_ok : (ls : List Line) → all_read ls ≡ map {A = LogicalLine} {B = Result LogicalLine Refusal} (λ l. Ok l)
    (map logical_line_of ls)
all_ok [] = refl
all_ok (l ∷ ls) = ap (λ x. Ok (logical_line_of l) ∷ x) (all_ok ls)

-- the lines that a text has are its only ones
pub only : (text : List ℕ) (items : List (Result LogicalLine Refusal)) → HasLines text items → HasOnly text items
only text items h = (h, λ others g. one_list text others items g h)

-- after the lines that were read the refusal comes
pub refused_after_lines : (text : List ℕ) (found : List Line) (s : Lines) (e : Fault)
    → ((items : List (Result LogicalLine Refusal)) → HasLeft s items → HasLines text (all_read found ++ items))
    → OnRefusal (λ r. HasLeft s (Err r ∷ [])) e
    → OnRefusal (λ r. (before : List LogicalLine) × HasOnly text
    (map {A = LogicalLine} {B = Result LogicalLine Refusal} (λ l. Ok l) before ++ (Err r ∷ []))) e
refused_after_lines text found s (fault.Refused r) goes h = (
  map logical_line_of found,
  only text (map (λ l. Ok l) (map logical_line_of found) ++ (Err r ∷ []))
      (subst (λ x. HasLines text (x ++ (Err r ∷ []))) (all_ok found) (goes (Err r ∷ []) h)),
)
refused_after_lines text found s fault.OutOfMemory goes h = tt
