-- Reading of sequences of tokens, and their first tokens.
use Rattle.std.proofs.Common.{◌≡◌, List, [], ◌∷◌, ◌++◌, refl, ap, sym, ◌∙◌, append_assoc}
use Rattle.pc_token.specs.declared.token.TokenKind.{TokenKind}
use Rattle.pc_token.specs.Lexeme.{Lexeme}
use Rattle.pc_grammar.specs.Grammar.{Spelling, Sequence, ◌⟫◌, Nothing, Just}
use Rattle.pc_grammar.specs.Machine.States.{State, go}
use Rattle.pc_grammar.specs.Machine.{transition, at, read_tokens}
use Rattle.pc_grammar.proofs.Runs.{run_go}

-- ---- reading

-- A part of the grammar is read from one state to the next, whatever follows of which G holds.
pub record Reads (G A : Spelling) (s next : State) : Type 0 where
  pub over : (ts : List Lexeme) → A ts → (rest : List Lexeme) → G rest → read_tokens (at s) (ts ++ rest) ≡ read_tokens (at next) rest

abbrev pub Any : Spelling
Any ts = Unit {0}

pub reads_then : {G H A B : Spelling} {s between next : State} → Reads G A s between → Reads H B between next
    → ((ts : List Lexeme) → B ts → (rest : List Lexeme) → H rest → G (ts ++ rest)) → Reads H (A ⟫ B) s next
reads_then {s = s} r q fits = record {
  over = λ ts h rest g. ap (λ x. read_tokens (at s) (x ++ rest)) h.all ∙ ap (read_tokens (at s)) (append_assoc h.front h.back rest)
      ∙ r.over h.front h.left (h.back ++ rest) (fits h.back h.right rest g) ∙ q.over h.back h.right rest g;
}

-- where the first needs nothing of what follows
pub reads_and : {H A B : Spelling} {s between next : State} → Reads Any A s between → Reads H B between next
    → Reads H (A ⟫ B) s next
reads_and r q = reads_then r q (λ ts h rest g. tt)

-- where neither does
pub reads_any : {G A : Spelling} {s next : State} → Reads Any A s next → Reads G A s next
reads_any r = record { over = λ ts h rest g. r.over ts h rest tt }

pub reads_nothing : {G : Spelling} {s : State} → Reads G Nothing s s
reads_nothing {s = s} = record { over = λ ts h rest g. ap (λ x. read_tokens (at s) (x ++ rest)) h }

-- from a state that is as good
pub reads_from : {G A : Spelling} {s t next : State} → ((rest : List Lexeme) → G rest
    → read_tokens (at s) rest ≡ read_tokens (at t) rest)
    → ((ts : List Lexeme) → A ts → (rest : List Lexeme) → G rest → read_tokens (at s) (ts ++ rest) ≡ read_tokens (at t) (ts ++ rest))
    → Reads G A t next → Reads G A s next
reads_from same first r = record { over = λ ts h rest g. first ts h rest g ∙ r.over ts h rest g }

pub reads_just : (k : TokenKind) {s next : State} → ((t : Lexeme) → transition s t k ≡ go next) → Reads Any (Just k) s next
reads_just k {s} {next} e = record {
  over = λ ts h rest g. ap (λ x. read_tokens (at s) (x ++ rest)) h.2
      ∙ run_go s next h.0 rest (ap (transition s h.0) h.1 ∙ e h.0);
}

-- one token of a kind, where the next state keeps it
pub token_run : (k : TokenKind) (s : State) (next : List Lexeme → State)
    → ((t : Lexeme) → transition s t k ≡ go (next (t ∷ [])))
    → (ts : List Lexeme) → Just k ts → (rest : List Lexeme) → read_tokens (at s) (ts ++ rest) ≡ read_tokens (at (next ts)) rest
token_run k s next e ts (t, tk, is) rest =
    ap (λ x. read_tokens (at s) (x ++ rest)) is ∙ run_go s (next (t ∷ [])) t rest (ap (transition s t) tk ∙ e t)
    ∙ ap (λ x. read_tokens (at (next x)) rest) (sym is)

-- ---- the parts of a sequence

pub all_two : {A B : Spelling} {ts : List Lexeme} (h : Sequence A B ts) → ts ≡ h.front ++ h.back
all_two h = h.all

pub all_three : {A B C : Spelling} {ts : List Lexeme} (h : Sequence A (B ⟫ C) ts)
    → ts ≡ h.front ++ (h.right.front ++ h.right.back)
all_three h = h.all ∙ ap (λ x. h.front ++ x) h.right.all

pub all_four : {A B C D : Spelling} {ts : List Lexeme} (h : Sequence A (B ⟫ C ⟫ D) ts)
    → ts ≡ h.front ++ (h.right.front ++ (h.right.right.front ++ h.right.right.back))
all_four h = h.all ∙ ap (λ x. h.front ++ x) (all_three h.right)

-- the first of three belongs to the second
pub to_right : {A B C : Spelling} {ts : List Lexeme} → Sequence (A ⟫ B) C ts → Sequence A (B ⟫ C) ts
to_right h = record {
  front = h.left.front;
  back = h.left.back ++ h.back;
  all = h.all ∙ ap (λ x. x ++ h.back) h.left.all ∙ append_assoc h.left.front h.left.back h.back;
  left = h.left.left;
  right = record { front = h.left.back; back = h.back; all = refl; left = h.left.right; right = h.right };
}

pub map_left : {A B C : Spelling} {ts : List Lexeme} → ((us : List Lexeme) → A us → B us) → Sequence A C ts
    → Sequence B C ts
map_left f h = record { front = h.front; back = h.back; all = h.all; left = f h.front h.left; right = h.right }

pub map_right : {A B C : Spelling} {ts : List Lexeme} → ((us : List Lexeme) → B us → C us) → Sequence A B ts
    → Sequence A C ts
map_right f h = record { front = h.front; back = h.back; all = h.all; left = h.left; right = f h.back h.right }

-- the last of three belongs to the second
pub to_left : {A B C : Spelling} {ts : List Lexeme} → Sequence A (B ⟫ C) ts → Sequence (A ⟫ B) C ts
to_left h = record {
  front = h.front ++ h.right.front;
  back = h.right.back;
  all = h.all ∙ ap (λ x. h.front ++ x) h.right.all ∙ sym (append_assoc h.front h.right.front h.right.back);
  left = record { front = h.front; back = h.right.front; all = refl; left = h.left; right = h.right.left };
  right = h.right.right;
}
