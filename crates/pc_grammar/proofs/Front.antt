-- A run that refuses, refuses at the first token after which no module can follow.
use Rattle.std.proofs.Common.{◌≡◌, ℕ, List, [], ◌∷◌, ◌++◌, refl, ap, sym, ◌∙◌, subst, append_assoc, append-nil}
use Rattle.pc_token.specs.Lexeme.{Lexeme}
use Rattle.pc_tree.specs.Tree.{Module}
use Rattle.pc_grammar.specs.Grammar.{last_place}
use Rattle.pc_grammar.specs.Grammar.Modules.{IsFront}
use Rattle.pc_grammar.specs.Faults.{IsMisfit, EndsEarly}
use Rattle.pc_grammar.specs.Machine.States.{State, ended, Transition, stuck, go}
use Rattle.pc_grammar.specs.Machine.Lines.{start}
use Rattle.pc_grammar.specs.Machine.{transition, at, lost, arrive, reads, refuses, short, stop_at, read_tokens, outcome_of}
use Rattle.pc_grammar.specs.Fronts.{LedTo, IsFrontByCases, FrontsAgree}
use Rattle.pc_grammar.proofs.Runs.{run_go, run_stuck, run_lost}
use Rattle.pc_grammar.proofs.CompleteModules.{spelled_reads}
use Rattle.pc_grammar.proofs.Stood.{Stood}
use Rattle.pc_grammar.proofs.Sound.{stood, run_spells, start_stands, reads_spells}
use Rattle.pc_grammar.proofs.Ending.{can_end}

-- where a run refuses: it could have gone on before that token, and with no continuation after it
pub record Refusal (s : State) (ts : List Lexeme) (byte : ℕ) : Type 0 where
  pub before : List Lexeme
  pub token : Lexeme
  pub after : List Lexeme
  pub all : ts ≡ before ++ (token ∷ after)
  pub start : byte ≡ token.place.start
  pub front : (more : List Lexeme) × (m : Module) × (read_tokens (at s) (before ++ more) ≡ reads m)
  pub refused : (more : List Lexeme) (m : Module) → read_tokens (at s) (before ++ (token ∷ more)) ≡ reads m → ⊥

stop_refuses : (s : State) (byte : ℕ) → stop_at s ≡ refuses byte → ⊥
stop_refuses (ended m) byte e = cc
stop_refuses _ byte e = cc

turn_refusal : (s : State) (t : Lexeme) (ts : List Lexeme) (byte : ℕ)
    → ((next : State) → read_tokens (at next) ts ≡ refuses byte → Refusal next ts byte)
    → (x : Transition) → transition s t t.kind ≡ x → read_tokens (arrive x t) ts ≡ refuses byte → Refusal s (t ∷ ts) byte
turn_refusal s t ts byte onward stuck is e = record {
  before = [];
  token = t;
  after = ts;
  all = refl;
  start = let here : read_tokens (lost t.place.start) ts ≡ refuses t.place.start = run_lost t.place.start ts in cc;
  front = can_end s;
  refused = λ more m r. let gone : read_tokens (at s) (t ∷ more) ≡ refuses t.place.start = run_stuck s t more is
      ∙ run_lost t.place.start more in cc;
}
turn_refusal s t ts byte onward (go next) is e = let f = onward next e in record {
  before = t ∷ f.before;
  token = f.token;
  after = f.after;
  all = ap (λ x. t ∷ x) f.all;
  start = f.start;
  front = (f.front.0, f.front.1, run_go s next t (f.before ++ f.front.0) is ∙ f.front.2);
  refused = λ more m r. f.refused more m (sym (run_go s next t (f.before ++ (f.token ∷ more)) is) ∙ r);
}

refusal : (ts : List Lexeme) (s : State) (byte : ℕ) → read_tokens (at s) ts ≡ refuses byte → Refusal s ts byte
unfolding read_tokens
refusal [] s byte e = absurd (stop_refuses s byte e)
refusal (t ∷ ts) s byte e = turn_refusal s t ts byte (λ next e'. refusal ts next byte e') (transition s t t.kind) refl e

-- The fault is exact.
pub misfit : (ts : List Lexeme) (byte : ℕ) → outcome_of ts ≡ refuses byte → IsMisfit ts byte
misfit ts byte e = let f = refusal ts start byte e in record {
  before = f.before;
  token = f.token;
  after = f.after;
  all = f.all;
  start = f.start;
  front = (f.front.0, f.front.1, reads_spells (f.before ++ f.front.0) f.front.1 f.front.2);
  refused = λ h. f.refused h.0 h.1 (ap (read_tokens (at start)) (sym (append_assoc f.before (f.token ∷ []) h.0))
      ∙ spelled_reads h.1 ((f.before ++ (f.token ∷ [])) ++ h.0) h.2);
}

-- ---- tokens that end too early

turn_short : (s : State) (t : Lexeme) (ts : List Lexeme) → ((next : State) → read_tokens (at next) ts ≡ short
    → (more : List Lexeme) × (m : Module) × (read_tokens (at next) (ts ++ more) ≡ reads m))
    → (x : Transition) → transition s t t.kind ≡ x → read_tokens (arrive x t) ts ≡ short → (more : List Lexeme) × (m : Module)
    × (read_tokens (at s) (t ∷ (ts ++ more)) ≡ reads m)
turn_short s t ts onward stuck is e = let gone : read_tokens (lost t.place.start) ts ≡ refuses t.place.start =
    run_lost t.place.start ts in cc
turn_short s t ts onward (go next) is e = let f = onward next e in (f.0, f.1, run_go s next t (ts ++ f.0) is ∙ f.2)

short_ends : (ts : List Lexeme) (s : State) → read_tokens (at s) ts ≡ short → (more : List Lexeme) × (m : Module)
    × (read_tokens (at s) (ts ++ more) ≡ reads m)
unfolding read_tokens
short_ends [] s e = can_end s
short_ends (t ∷ ts) s e = turn_short s t ts (λ next e'. short_ends ts next e') (transition s t t.kind) refl e

pub ends_early : (ts : List Lexeme) → outcome_of ts ≡ short → EndsEarly ts (last_place ts).end
ends_early ts e = let f = short_ends ts start e in record {
  front = (f.0, f.1, reads_spells (ts ++ f.0) f.1 f.2);
  unspelled = λ m h. let r = spelled_reads m ts h in cc;
  end = refl;
}

-- ---- fronts by cases

turn_reaches : (ts rest : List Lexeme) (t : Lexeme) (past : List Lexeme) (m : Module)
    → ((next : State) → LedTo next past → read_tokens (at next) (ts ++ rest) ≡ reads m → IsFrontByCases (past ++ ts))
    → (x : Transition) → Stood x past → read_tokens (arrive x t) (ts ++ rest) ≡ reads m → IsFrontByCases (past ++ ts)
turn_reaches ts rest t past m onward stuck h e = let gone : read_tokens (lost t.place.start) (ts ++ rest)
    ≡ refuses t.place.start = run_lost t.place.start (ts ++ rest) in cc
turn_reaches ts rest t past m onward (go next) h e = onward next h e

reaches : (ts rest past : List Lexeme) (s : State) (m : Module) → LedTo s past → read_tokens (at s) (ts ++ rest) ≡ reads m
    → IsFrontByCases (past ++ ts)
unfolding read_tokens
reaches [] rest past s m h e = (s, subst (λ z. LedTo s z) (sym (append-nil past)) h)
reaches (t ∷ ts) rest past s m h e = subst IsFrontByCases (append_assoc past (t ∷ []) ts)
    (turn_reaches ts rest t (past ++ (t ∷ [])) m (λ next h' e'. reaches ts rest (past ++ (t ∷ [])) next m h' e')
    (transition s t t.kind) (stood s t past h) e)

front_reached : (ts : List Lexeme) → IsFront ts → IsFrontByCases ts
front_reached ts h = reaches ts h.0 [] start h.1 start_stands (spelled_reads h.1 (ts ++ h.0) h.2)

reached_front : (ts : List Lexeme) → IsFrontByCases ts → IsFront ts
reached_front ts h = let r = can_end h.0 in (r.0, r.1, run_spells r.0 ts h.0 r.1 h.1 r.2)

-- The fronts by cases are the tokens that some module begins with.
pub fronts_agree : FrontsAgree
fronts_agree = λ ts. (front_reached ts, reached_front ts)
