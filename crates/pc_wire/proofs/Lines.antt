-- The lines of a header, one after the other.
use Rattle.std.proofs.Common.{◌≡◌, ℕ, ◌+◌, ◌-◌, ◌<◌, ◌≤◌, List, length, take, drop, length-drop, sym, ap, subst, ◌∙◌}
use Rattle.std.proofs.Common.{false, arith}
use Rattle.std.specs.Prelude.{Option, Result, ◌==◌, All}
use Rattle.std.specs.List.{slice_split, position_or_len}
use Rattle.std.proofs.lemmas.List.{drop-drop, take_all, take_rest}
use Rattle.std.proofs.lemmas.List.Splits.{slice_split_first, slice_split_none}
use Rattle.std.proofs.lemmas.List.Sums.{fails_before_first}
use Rattle.pc_wire.specs.declared.fault.HeaderFault.{HeaderFault}
use Rattle.pc_wire.specs.Fields.{after_line, after_lines, ended}

-- the result of the lines from a byte on, and the result if the byte is past the end
pub record GivesFrom (named : Result (Option ℕ) HeaderFault) (header : List ℕ) (start : ℕ)
    (result : Result ℕ HeaderFault) : Type 0 where
  pub inside : start ≤ length header → result ≡ after_lines named (slice_split (λ b. b == 10) (drop start header))
  pub past : length header < start → result ≡ ended named

more : (named : Result (Option ℕ) HeaderFault) (rest : List ℕ) → position_or_len (λ b. b == 10) rest < length rest
    → after_lines named (slice_split (λ b. b == 10) rest)
    ≡ after_lines (after_line named (take (position_or_len (λ b. b == 10) rest) rest))
    (slice_split (λ b. b == 10) (drop (position_or_len (λ b. b == 10) rest + 1) rest))
more named rest h = ap (λ (ls : List (List ℕ)). after_lines named ls) (slice_split_first (λ b. b == 10) rest 0 h)

last : (named : Result (Option ℕ) HeaderFault) (rest : List ℕ) → position_or_len (λ b. b == 10) rest ≡ length rest
    → after_lines named (slice_split (λ b. b == 10) rest) ≡ ended (after_line named rest)
last named rest h =
    let none : All (λ b. (b == 10) ≡ false) rest = λ k d lt. fails_before_first (λ b. b == 10) rest k d
    (subst (λ (n : ℕ). k < n) (sym h) lt) in
    ap (λ (ls : List (List ℕ)). after_lines named ls) (slice_split_none (λ b. b == 10) rest none)

-- one more line, of p bytes
next_line : (named : Result (Option ℕ) HeaderFault) (header : List ℕ) (start p : ℕ) (result : Result ℕ HeaderFault)
    → start ≤ length header → p ≤ length header - start → p ≡ position_or_len (λ b. b == 10) (drop start header)
    → GivesFrom named header start result
    → GivesFrom (after_line named (take (start + p - start) (drop start header))) header (start + p + 1) result
next_line named header start p result ok within e g =
    let rest : List ℕ = drop start header in
    let size : length rest ≡ length header - start = length-drop start header in
    let cut : start + p - start ≡ p = omega arith in
    let at_drop : drop (p + 1) rest ≡ drop (start + p + 1) header = drop-drop (p + 1) start header
    ∙ ap (λ (n : ℕ). drop n header) (omega arith) in
    record {
      inside = λ h.
          let lt : p < length rest = omega arith in
          let step : result ≡ after_lines (after_line named (take p rest))
          (slice_split (λ b. b == 10) (drop (p + 1) rest)) =
          subst (λ (n : ℕ). result ≡ after_lines (after_line named (take n rest))
          (slice_split (λ b. b == 10) (drop (n + 1) rest))) (sym e)
          (g.inside ok ∙ more named rest (subst (λ (n : ℕ). n < length rest) e lt)) in
          subst (λ (n : ℕ). result ≡ after_lines (after_line named (take n rest))
          (slice_split (λ b. b == 10) (drop (start + p + 1) header))) (sym cut)
          (subst (λ (ds : List ℕ). result ≡ after_lines (after_line named (take p rest))
          (slice_split (λ b. b == 10) ds)) at_drop step);
      past = λ h.
          let all : p ≡ length rest = omega arith in
          let step : result ≡ ended (after_line named rest) = g.inside ok ∙ last named rest (sym e ∙ all) in
          let same : take (start + p - start) rest ≡ rest = take_all (start + p - start) rest (omega arith) in
          subst (λ (ls : List ℕ). result ≡ ended (after_line named ls)) (sym same) step;
    }

-- the same, of what a walk over the lines has at hand
pub next_lines : (named next : Result (Option ℕ) HeaderFault) (header : List ℕ) (start p : ℕ)
    (result : Result ℕ HeaderFault)
    → start ≤ length header → p ≤ length (take (length header - start) (drop start header))
    → p ≡ position_or_len (λ b. b == 10) (take (length header - start) (drop start header))
    → next ≡ after_line named (take (start + p - start) (drop start header))
    → GivesFrom named header start result → GivesFrom next header (start + p + 1) result
next_lines named next header start p result ok within e step g =
    let whole : take (length header - start) (drop start header) ≡ drop start header = take_rest header start in
    let size : length (drop start header) ≡ length header - start = length-drop start header in
    let fits : p ≤ length header - start = subst (λ (n : ℕ). p ≤ n) size
    (subst (λ (ls : List ℕ). p ≤ length ls) whole within) in
    let first : p ≡ position_or_len (λ b. b == 10) (drop start header) =
    subst (λ (ls : List ℕ). p ≡ position_or_len (λ b. b == 10) ls) whole e in
    subst (λ (r : Result (Option ℕ) HeaderFault). GivesFrom r header (start + p + 1) result) (sym step)
    (next_line named header start p result ok fits first g)
