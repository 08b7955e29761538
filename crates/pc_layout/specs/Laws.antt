-- Laws of layouts and their refusals.
use Rattle.std.specs.Prelude.{◌≡◌, ℕ, ◌≤◌, List, [], length, map, Ok, Contains}
use Rattle.pc_source.specs.declared.fault.Refusal.{Refusal}
use Rattle.pc_source.specs.declared.fault.RefusalCode.{RefusalCode}
use Rattle.pc_token.specs.Lexeme.{Lexeme, LogicalLine}
use Rattle.pc_layout.specs.Faults.{HasFault, IsLayoutRefusal}
use Rattle.pc_layout.specs.Forest.{Suite, lines_of, IsSuite}
use Rattle.pc_layout.specs.Layouts.{IsLayout, HaveTokens, AreInOrder, all_lexemes}
use Rattle.pc_token.specs.Splitting.{HasLines}
use Rattle.pc_token.specs.Within.{AreWithin, LinesWithin}

-- lines are the lines of at most one forest at column 0
abbrev pub OneForest : Type 0
OneForest = (forest other : Suite) → IsSuite 0 forest → IsSuite 0 other → lines_of forest ≡ lines_of other
    → forest ≡ other

-- lines have at most one layout
abbrev pub OneLayout : Type 0
OneLayout = (text : List ℕ) (ls : List LogicalLine) (tokens others : List Lexeme) → IsLayout text ls tokens
    → IsLayout text ls others → tokens ≡ others

-- lines that have a layout have no refusal
abbrev pub LayoutOrRefusal : Type 0
LayoutOrRefusal = (text : List ℕ) (ls : List LogicalLine) (tokens : List Lexeme) (refusal : Refusal)
    → IsLayout text ls tokens → ¬ (IsLayoutRefusal (length text) ls refusal)

-- lines have at most one refusal
abbrev pub OneRefusal : Type 0
OneRefusal = (len : ℕ) (ls : List LogicalLine) (refusal other : Refusal) → IsLayoutRefusal len ls refusal
    → IsLayoutRefusal len ls other → refusal ≡ other

-- a fault of lines that have tokens is where one of their tokens begins
abbrev pub FaultsAtTokens : Type 0
FaultsAtTokens = (len : ℕ) (ls : List LogicalLine) (code : RefusalCode) (byte : ℕ) → HaveTokens ls
    → HasFault len [] ls code byte → (x : Lexeme) × Contains (all_lexemes ls) x × (byte ≡ x.place.start)

-- the logical lines of a text without a lexical fault are in order
abbrev pub LinesStandInOrder : Type 0
LinesStandInOrder = (text : List ℕ) (ls : List LogicalLine) → HasLines text (map Ok ls) → AreInOrder ls

-- a fault of lines within a text of some length is at a byte from 0 to that length
abbrev pub FaultsWithin : Type 0
FaultsWithin = (len : ℕ) (ls : List LogicalLine) (code : RefusalCode) (byte : ℕ) → LinesWithin len ls
    → HasFault len [] ls code byte → byte ≤ len

-- the layout of lines within a text lies within the text
abbrev pub LayoutsWithin : Type 0
LayoutsWithin = (text : List ℕ) (ls : List LogicalLine) (tokens : List Lexeme) → LinesWithin (length text) ls
    → IsLayout text ls tokens → AreWithin (length text) tokens
