use Rattle.std.proofs.Common.{◌≡◌, ℕ, List, map, drop, length, Bor}
use Rattle.pc_token.specs.Lexeme.{lexeme_of}
use Rattle.pc_layout.specs.Placing.{is_spelled}
use Rattle.pc_layout.proofs.line.is_spelled.Given as goal

abbrev pub invariant-loop-i : goal.invariant-loop-i
invariant-loop-i l = record {
  leads : is_spelled (map lexeme_of l.tokens) (map (λ (w : Bor (List ℕ)). w.now) l.words)
      ≡ is_spelled (map lexeme_of (drop l.i l.tokens)) (map (λ (w : Bor (List ℕ)). w.now) (drop l.i l.words));
  even : length l.tokens ≡ length l.words;
}
