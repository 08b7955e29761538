-- The items that the iterator over logical lines has left, and the item that it gives.
use Rattle.std.specs.Prelude.{◌≡◌, ◌+◌, ◌-◌, true, MatchBool, List, [], ◌∷◌, Option, Result, Ok, Err, MatchOption}
use Rattle.std.specs.Prelude.{MatchResult, length, drop, map, if◌then◌else◌}
use Rattle.std.specs.Iterator.{Count, at_most}
use Rattle.pc_source.specs.Answers.{OnRefusal}
use Rattle.pc_source.specs.declared.fault.Fault.{Fault}
use Rattle.pc_source.specs.declared.fault.Refusal.{Refusal}
use Rattle.pc_token.specs.declared.stream.Lines.{Lines}
use Rattle.pc_token.specs.declared.token.Line.{Line}
use Rattle.pc_token.specs.Context.{line_start}
use Rattle.pc_token.specs.Lexeme.{LogicalLine, logical_line_of}
use Rattle.pc_token.specs.Splitting.{Continues}

-- these logical lines are left to the iterator, up to the first fault
abbrev pub HasLeft : Lines → List (Result LogicalLine Refusal) → Type 0
HasLeft s items = MatchBool s.done (items ≡ []) (Continues (line_start s.at) (drop s.at s.text.now) items)

-- the iterator gives the first of the lines that are left, or the refusal there, or a failed allocation; after a fault,
-- and at the end, nothing is left
abbrev pub gives : Lines → Option (Result Line Fault) → Lines → Type 0
gives s r t = MatchOption r (HasLeft s [] × (t.done ≡ true))
    (λ i. MatchResult i
    (λ l. (items : List (Result LogicalLine Refusal)) → HasLeft t items → HasLeft s (Ok (logical_line_of l) ∷ items))
    (λ e. (t.done ≡ true) × OnRefusal (λ refusal. HasLeft s (Err refusal ∷ [])) e))

-- at most this many further calls give an item
abbrev pub items_left : Lines → Count
items_left s = at_most (if s.done then 0 else length s.text.now - s.at + 1)

-- these lines as items without a fault
abbrev pub all_read : List Line → List (Result LogicalLine Refusal)
all_read ls = map (λ l. Ok (logical_line_of l)) ls
