-- The tokens of lines, line by line.
use Rattle.std.specs.Prelude.{ℕ, Bool, true, false, if◌then◌else◌, List, [], ◌∷◌, length, replicate, Option, Some, None}
use Rattle.std.specs.Prelude.{Result, Ok, Err}
use Rattle.pc_source.specs.declared.fault.Refusal.{Refusal}
use Rattle.pc_source.specs.declared.fault.RefusalCode.{RefusalCode}
use Rattle.pc_source.specs.declared.fault.Fault.{Fault}
use Rattle.pc_source.specs.declared.fault.Fault.TheVariants.{Refused}
use Rattle.pc_token.specs.declared.token.Keyword.TheVariants.{Def}
use Rattle.pc_token.specs.declared.token.Operator.TheVariants.{Colon}
use Rattle.pc_token.specs.declared.token.TokenKind.{TokenKind}
use Rattle.pc_token.specs.declared.token.TokenKind.TheVariants as k
use Rattle.pc_token.specs.Lexeme.{Lexeme, LogicalLine}
use Rattle.pc_layout.specs.Spelling.{first_byte, first_kind, last_kind}
use Rattle.pc_layout.specs.Flat.{empty_token, newline}
use Rattle.pc_layout.specs.Placing.{LayoutContext, Placement, placement, word_fault, in_def_of}

-- the kind is `:`
abbrev pub is_colon : Option TokenKind → Bool
is_colon (Some (k.Operator Colon)) = true
is_colon _ = false

-- the kind is `def`
abbrev pub is_def : Option TokenKind → Bool
is_def (Some (k.Keyword Def)) = true
is_def _ = false

-- the context before the first line
abbrev pub start : LayoutContext
start = record { levels = []; after_colon = false; after_def = false }

-- the context after a line with this placement
abbrev pub after : Placement → List Lexeme → LayoutContext
after p xs = record { levels = p.levels; after_colon = is_colon (last_kind xs); after_def = is_def (first_kind xs) }

-- these tokens before the other items
abbrev pub give : List Lexeme → List (Result Lexeme Fault) → List (Result Lexeme Fault)
give [] others = others
give (x ∷ xs) others = Ok x ∷ give xs others

-- an INDENT at the byte, if there is one
abbrev pub indents : Bool → ℕ → List Lexeme
indents b byte = if b then empty_token k.Indent byte ∷ [] else []

-- n DEDENTs at the byte
abbrev pub dedents : ℕ → ℕ → List Lexeme
dedents n byte = replicate n (empty_token k.Dedent byte)

-- the tokens of a line and its end, before the other items
abbrev pub given_line : List Lexeme → Lexeme → List (Result Lexeme Fault) → List (Result Lexeme Fault)
given_line xs end others = give xs (Ok end ∷ others)

-- the tokens of a line with this placement, with the DEDENTs and INDENT before it, before the other items
abbrev pub placed_line : List ℕ → Placement → List Lexeme → List (Result Lexeme Fault) → List (Result Lexeme Fault)
placed_line text p xs others =
    give (dedents p.dedents (first_byte (length text) xs))
    (give (indents p.indent (first_byte (length text) xs)) (given_line xs (newline text xs) others))

-- the fault that is reported for a refusal: the first fault among the later lines, otherwise the refusal
abbrev pub outrank : Refusal → List (Result LogicalLine Fault) → Fault
outrank r [] = Refused r
outrank r (Ok l ∷ ls) = outrank r ls
outrank r (Err e ∷ ls) = e

-- the placement, or the refusal if there is one
abbrev pub unless_refused : Option Refusal → Placement → Result Placement Refusal
unless_refused None p = Ok p
unless_refused (Some r) p = Err r

-- the placement of a line, or its refusal: that of its placement, otherwise that of its words
abbrev pub checked_placement : ℕ → ℕ → List Lexeme → Result Placement RefusalCode → Result Placement Refusal
checked_placement len column xs (Ok p) = unless_refused (word_fault len (in_def_of p.levels) column xs) p
checked_placement len column xs (Err code) = Err (record { code = code; byte = first_byte len xs })

-- the placement of a line after this context, or its refusal
abbrev pub step : ℕ → LayoutContext → LogicalLine → Result Placement Refusal
step len x l = checked_placement len l.column l.lexemes (placement x l.column)

-- the DEDENTs of all open suites, and END
abbrev pub closed_all : ℕ → LayoutContext → List (Result Lexeme Fault)
closed_all len x = give (dedents (length x.levels) len) (Ok (empty_token k.End len) ∷ [])

-- the tokens of a line with this placement and of the lines after it, or the fault if it is refused
abbrev pub layout_lexemes_by : Result Placement Refusal → List ℕ → List Lexeme → List (Result LogicalLine Fault)
    → (LayoutContext → List (Result Lexeme Fault)) → List (Result Lexeme Fault)
layout_lexemes_by (Ok p) text xs ls others = placed_line text p xs (others (after p xs))
layout_lexemes_by (Err r) text xs ls others = Err (outrank r ls) ∷ []

-- the tokens of these lines from this context on, or the fault after some of them
unfoldable pub layout_lexemes : List ℕ → LayoutContext → List (Result LogicalLine Fault) → List (Result Lexeme Fault)
layout_lexemes text x [] = closed_all (length text) x
layout_lexemes text x (Err e ∷ ls) = Err e ∷ []
layout_lexemes text x (Ok l ∷ ls) =
    layout_lexemes_by (step (length text) x l) text l.lexemes ls (λ y. layout_lexemes text y ls)
