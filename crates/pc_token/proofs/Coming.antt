-- Items of the iterator over logical lines, for the stages above.
use Rattle.std.proofs.Common.{List, [], ◌∷◌, ◌++◌, map, Result, Ok, Err}
use Rattle.pc_source.specs.Stream.{Yields}
use Rattle.pc_source.specs.declared.fault.Fault.{Fault}
use Rattle.pc_source.specs.declared.fault.Fault.TheVariants as fault
use Rattle.pc_source.specs.declared.fault.Refusal.{Refusal}
use Rattle.pc_token.specs.declared.stream.Lines.{Lines}
use Rattle.pc_token.specs.declared.token.Line.{Line}
use Rattle.pc_token.specs.Remaining.{HasLeft, gives, all_read}

-- lines that come up to the end are those that were left
pub lines_came : (s : Lines) (ls : List Line) → Yields gives s (map {A = Line} {B = Result Line Fault} (λ l. Ok l) ls)
    → HasLeft s (all_read ls)
lines_came s [] (t, h) = h.0
lines_came s (l ∷ ls) (t, h, more) = h (all_read ls) (lines_came t ls more)

-- lines and a refusal that come are those that were left
pub refusal_came : (s : Lines) (ls : List Line) (r : Refusal)
    → Yields gives s (map {A = Line} {B = Result Line Fault} (λ l. Ok l) ls ++ (Err (fault.Refused r) ∷ []))
    → HasLeft s (all_read ls ++ (Err r ∷ []))
refusal_came s [] r (last, t, h) = h.1
refusal_came s (l ∷ ls) r (t, h, more) = h (all_read ls ++ (Err r ∷ [])) (refusal_came t ls r more)
