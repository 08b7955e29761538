-- Results of the functions of the reader. A refusal is the machine's if it is the answer to which the tokens lead.
use Rattle.std.specs.declared.convert.AsStr.{Ghosts as TextOf}
use Rattle.std.specs.declared.iter.Iterator.{Ghosts as TokensOf}
use Rattle.std.specs.Prelude.{ℕ, ◌≡◌, ◌+◌, ◌<◌, Bool, false, List, [], ◌∷◌, Option, Some, None, Result, Ok, Err}
use Rattle.std.specs.Iterator.{Count, size, IsFinite}
use Rattle.pc_source.specs.declared.fault.Fault.{Fault}
use Rattle.pc_source.specs.declared.fault.Fault.TheVariants as fault
use Rattle.pc_source.specs.declared.fault.Refusal.{Refusal}
use Rattle.pc_source.specs.declared.fault.RefusalCode.TheVariants as code
use Rattle.pc_source.specs.declared.place.Place.{Place}
use Rattle.pc_source.specs.Stream as stream
use Rattle.pc_token.specs.declared.token.Token.{Token}
use Rattle.pc_token.specs.declared.token.TokenKind.{TokenKind}
use Rattle.pc_token.specs.Lexeme.{Lexeme, form_of}
use Rattle.pc_tree.specs.Tree.{Module}
use Rattle.pc_grammar.specs.Machine.{Reading, ReadOutcome, reads, refuses, short, step, stop, stop_at, transition}
use Rattle.pc_grammar.specs.Machine.Kinds.{same_kind}
use Rattle.pc_grammar.specs.Machine.States.{State, stuck}
use Rattle.pc_reader.specs.declared.reader.Reader.{Reader}

-- the answer for an outcome of tokens that end at this byte
abbrev pub answer_for : ℕ → ReadOutcome → Result Module Fault
answer_for end (reads m) = Ok m
answer_for end (refuses byte) = Err (fault.Refused (record { code = code.G1; byte = byte }))
answer_for end short = Err (fault.Refused (record { code = code.G1; byte = end }))

-- the answer for a token after which no module can follow: the refusal G1 at its byte
abbrev pub misfit_at : ℕ → Result Module Fault
misfit_at byte = Err (fault.Refused (record { code = code.G1; byte = byte }))

-- P holds of the fault as an answer, unless an allocation failed
pub record Blames (e : Fault) (P : Result Module Fault → Type 0) : Type 0 where
  pub said : (r : Refusal) → e ≡ fault.Refused r → P (Err e)

-- whether the token ahead is of this kind
abbrev pub IsAhead : {X : Type 0} → TokenKind → Option (Token X) → Bool
IsAhead kind None = false
IsAhead kind (Some t) = same_kind t.kind kind

-- the kind of the token ahead
abbrev pub kind_ahead : {X : Type 0} → Option (Token X) → Option TokenKind
kind_ahead None = None
kind_ahead (Some t) = Some t.kind

-- the place of the token ahead
abbrev pub place_ahead : {X : Type 0} → Option (Token X) → Option Place
place_ahead None = None
place_ahead (Some t) = Some t.place

module _ {X : Type 0} (text : X → List ℕ) where
  -- a token as a lexeme, with the bytes of its text
  abbrev pub lexeme : Token X → Lexeme
  lexeme t = record { kind = t.kind; place = t.place; text = text t.text; form = form_of (text t.text) t.form }

  -- the answer of a reading over these items, after tokens that end at this byte; a fault among the items decides
  unfoldable pub run_items : ℕ → Reading → List (Result (Token X) Fault) → Result Module Fault
  run_items end r [] = answer_for end (stop r)
  run_items end r (Ok t ∷ rest) = run_items t.place.end (step r (lexeme t)) rest
  run_items end r (Err e ∷ rest) = Err e

module _ {X I : Type 0} (text : X → List ℕ) (steps : I → Option (Result (Token X) Fault) → I → Type 0) where
  -- the items of the iterator lead from the reading to this answer
  abbrev pub ComesToAnswer : I → ℕ → Reading → Result Module Fault → Type 0
  ComesToAnswer it end r o = (xs : List (Result (Token X) Fault)) × stream.Yields steps it xs
      × (run_items text end r xs ≡ o)

  -- the token ahead, if there is one, and the items after it lead from the reading to this answer
  abbrev pub came : Option (Token X) → I → ℕ → Reading → Result Module Fault → Type 0
  came None it end r o = run_items text end r [] ≡ o
  came (Some t) it end r o = (xs : List (Result (Token X) Fault)) × stream.Yields steps it xs
      × (run_items text end r (Ok t ∷ xs) ≡ o)

  -- the token ahead and the items of the iterator lead from the reading to this answer; without a token ahead the items
  -- have ended
  abbrev pub Came : Reader X I → Reading → Result Module Fault → Type 0
  Came a r o = came a.ahead a.tokens a.end r o

  -- every answer of the second reading at b is one of the first reading at a
  abbrev pub Onward : Reader X I → Reader X I → Reading → Reading → Type 0
  Onward a b r r' = (o : Result Module Fault) → Came b r' o → Came a r o

module _ {X I : Type 0} (can : I → Type 0) (left : I → Count) where
  -- if there is a token ahead, the iterator after it may be called, and is finite
  abbrev pub ready : Option (Token X) → I → Type 0
  ready None it = Unit {0}
  ready (Some t) it = can it × IsFinite (left it)

  -- while a token is ahead, the iterator may be called, and is finite
  abbrev pub IsReady : Reader X I → Type 0
  IsReady a = ready a.ahead a.tokens

module _ {X I : Type 0} (left : I → Count) where
  -- an upper bound on the tokens left: the one ahead and those after it; 0 if none is ahead
  abbrev pub left_behind : Option (Token X) → I → ℕ
  left_behind None it = 0
  left_behind (Some t) it = size (left it) + 1

  -- an upper bound on the tokens left to the reader
  abbrev pub left_in : Reader X I → ℕ
  left_in a = left_behind a.ahead a.tokens

-- the token ahead, if any, does not fit the state
pub record Rejects {X I : Type 0} (text : X → List ℕ) (st : State) (a : Reader X I) : Type 0 where
  pub unfinished : stop_at st ≡ short
  pub stuck_at : (t : Token X) → a.ahead ≡ Some t → transition st (lexeme text t) t.kind ≡ stuck

-- only a token of this kind fits the state
pub record NeedsKind {X I : Type 0} (text : X → List ℕ) (kind : TokenKind) (st : State) (a : Reader X I) : Type 0 where
  pub unfinished : stop_at st ≡ short
  pub stuck_at : (t : Token X) → a.ahead ≡ Some t → same_kind t.kind kind ≡ false
      → transition st (lexeme text t) t.kind ≡ stuck

module _ {X I : Type 0} (texts : TextOf X) (source : TokensOf I (Result (Token X) Fault)) where
  -- the token ahead was taken
  pub record Takes (a b : Reader X I) (t : Token X) : Type 0 where
    pub here : a.ahead ≡ Some t
    pub ready : IsReady source.can_next source.remaining b
    pub later : left_in source.remaining b < left_in source.remaining a
    pub leads : (r : Reading) → Onward texts.text source.next_gives a b r (step r (lexeme texts.text t))

  -- the token ahead was skipped
  pub record Skips (a b : Reader X I) : Type 0 where
    pub token : Token X
    pub takes : Takes a b token
