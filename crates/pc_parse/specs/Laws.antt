-- Laws of the refusals of tokens.
use Rattle.std.specs.Prelude.{ℕ, ◌≤◌, List}
use Rattle.pc_source.specs.declared.fault.Refusal.{Refusal}
use Rattle.pc_token.specs.Lexeme.{Lexeme}
use Rattle.pc_token.specs.Within.{AreWithin}
use Rattle.pc_grammar.specs.Faults.{IsRefusal}

-- the refusal of tokens within a text of some length is at a byte from 0 to that length
abbrev pub RefusalsWithin : Type 0
RefusalsWithin = (len : ℕ) (tokens : List Lexeme) (refusal : Refusal) → AreWithin len tokens → IsRefusal tokens refusal
    → refusal.byte ≤ len
