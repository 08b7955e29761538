-- The module of bytes, or their refusal: source text, logical lines, layout and grammar, in this order. Language
-- Reference 3.12, 2 "Lexical analysis" and 10 "Full Grammar specification"; the refusals are own rules of the profile.
use Rattle.std.specs.Prelude.{◌≡◌, ℕ, ◌≤◌, List, [], ◌∷◌, ◌++◌, length, map, Ok, Err}
use Rattle.pc_source.specs.declared.fault.Refusal.{Refusal}
use Rattle.pc_source.specs.Text.{IsText, IsSourceRefusal}
use Rattle.pc_token.specs.Lexeme.{Lexeme, LogicalLine}
use Rattle.pc_token.specs.Splitting.{HasLines}
use Rattle.pc_layout.specs.Layouts.{IsLayout}
use Rattle.pc_layout.specs.Faults.{IsLayoutRefusal}
use Rattle.pc_tree.specs.Tree.{Module}
use Rattle.pc_grammar.specs.Faults.{IsModule, IsRefusal}

-- the bytes are a source text with these logical lines
pub record IsLined (bytes : List ℕ) (lines : List LogicalLine) : Type 0 where
  pub text : IsText bytes
  pub split : HasLines bytes (map Ok lines)

-- the bytes are a source text, and these tokens are the layout of its logical lines
pub record IsLaidOut (bytes : List ℕ) (tokens : List Lexeme) : Type 0 where
  pub lines : List LogicalLine
  pub lined : IsLined bytes lines
  pub layout : IsLayout bytes lines tokens

-- the bytes spell this module: the tokens of their layout are one
pub record IsModuleOf (bytes : List ℕ) (m : Module) : Type 0 where
  pub tokens : List Lexeme
  pub laid_out : IsLaidOut bytes tokens
  pub spelled : IsModule tokens m

-- the bytes are a text that is refused at a token, after these logical lines
pub record IsRefusedAtToken (bytes : List ℕ) (refusal : Refusal) : Type 0 where
  pub text : IsText bytes
  pub before : List LogicalLine
  pub split : HasLines bytes (map Ok before ++ Err refusal ∷ [])

-- the bytes are a text whose logical lines are refused by the layout
pub record IsRefusedAtLine (bytes : List ℕ) (refusal : Refusal) : Type 0 where
  pub lines : List LogicalLine
  pub lined : IsLined bytes lines
  pub refused : IsLayoutRefusal (length bytes) lines refusal

-- the bytes are a text whose layout is refused by the grammar
pub record IsRefusedByGrammar (bytes : List ℕ) (refusal : Refusal) : Type 0 where
  pub tokens : List Lexeme
  pub laid_out : IsLaidOut bytes tokens
  pub refused : IsRefusal tokens refusal

-- the refusal of the bytes: that of the first stage that fails, among source, tokens, layout and grammar
pub data IsRefusalOf (bytes : List ℕ) (refusal : Refusal) : Type 0 where
  of_source : IsSourceRefusal bytes refusal → IsRefusalOf bytes refusal
  of_tokens : IsRefusedAtToken bytes refusal → IsRefusalOf bytes refusal
  of_layout : IsRefusedAtLine bytes refusal → IsRefusalOf bytes refusal
  of_grammar : IsRefusedByGrammar bytes refusal → IsRefusalOf bytes refusal

-- bytes spell at most one module
abbrev pub OneModuleOfBytes : Type 0
OneModuleOfBytes = (bytes : List ℕ) (m n : Module) → IsModuleOf bytes m → IsModuleOf bytes n → m ≡ n

-- bytes that spell a module have no refusal
abbrev pub ModuleOrRefusal : Type 0
ModuleOrRefusal = (bytes : List ℕ) (m : Module) (refusal : Refusal) → IsModuleOf bytes m → ¬ (IsRefusalOf bytes refusal)

-- bytes have at most one refusal
abbrev pub OneRefusalOfBytes : Type 0
OneRefusalOfBytes = (bytes : List ℕ) (refusal other : Refusal) → IsRefusalOf bytes refusal → IsRefusalOf bytes other
    → refusal ≡ other

-- bytes that spell no module cannot be without a refusal: no text has neither
abbrev pub EveryTextIsAnswered : Type 0
EveryTextIsAnswered = (bytes : List ℕ) → ((m : Module) → ¬ (IsModuleOf bytes m))
    → ¬ ((refusal : Refusal) → ¬ (IsRefusalOf bytes refusal))

-- the refusal of bytes is at a byte from 0 to their length
abbrev pub RefusalsOfBytesWithin : Type 0
RefusalsOfBytesWithin = (bytes : List ℕ) (refusal : Refusal) → IsRefusalOf bytes refusal → refusal.byte ≤ length bytes
