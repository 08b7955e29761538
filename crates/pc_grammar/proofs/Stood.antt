-- One more token after the tokens that led to a state.
use Rattle.std.proofs.Common.{◌≡◌, ℕ, ◌≤◌, nat_le, ◌&&◌, Bool, true, false, if◌then◌else◌, List, [], ◌∷◌, ◌++◌, refl}
use Rattle.std.proofs.Common.{ap₂, sym, ◌∙◌, append-nil, leb-true}
use Rattle.pc_token.specs.declared.token.TokenKind.{TokenKind}
use Rattle.pc_token.specs.declared.token.TokenKind.TheVariants as kind
use Rattle.pc_token.specs.Lexeme.{Lexeme}
use Rattle.pc_grammar.specs.Grammar.{Spelling, Sequence, ◌⟫◌, Just, IsName, Nothing, name_of_token}
use Rattle.pc_grammar.specs.Machine.Kinds.{same_kind}
use Rattle.pc_grammar.specs.Machine.States.{State, Transition, stuck, go, on}
use Rattle.pc_grammar.specs.Machine.Expressions.{if_tight}
use Rattle.pc_grammar.specs.Fronts.{LedTo}
use Rattle.pc_grammar.specs.Fronts.Lines.{Kept, JustAt}
use Rattle.pc_grammar.proofs.SameKind.{same_kind_is}
use Rattle.pc_grammar.proofs.Sequences.{to_right, map_right}

abbrev pub Stood : Transition → Spelling
Stood stuck ts = Unit {0}
Stood (go s) ts = LedTo s ts

-- one more token
pub grow : {A B : Spelling} (ts : List Lexeme) (t : Lexeme) → A ts → B (t ∷ []) → Sequence A B (ts ++ (t ∷ []))
grow ts t a b = record { front = ts; back = t ∷ []; all = refl; left = a; right = b }

pub just : (t : Lexeme) (k : TokenKind) → t.kind ≡ k → Just k (t ∷ [])
just t k e = (t, e, refl)

pub just_at : (t : Lexeme) (k : TokenKind) → t.kind ≡ k → JustAt k t.place (t ∷ [])
just_at t k e = (t, e, refl, refl)

pub is_name : (t : Lexeme) → t.kind ≡ kind.Name → IsName (name_of_token t) (t ∷ [])
is_name t e = (t, e, refl, refl)

-- ---- choices

pub stood_on : (b : Bool) (s : State) (other : Transition) (ts : List Lexeme) → (b ≡ true → LedTo s ts) → Stood other ts
    → Stood (on b s other) ts
stood_on true s other ts holds otherwise = holds refl
stood_on false s other ts holds otherwise = otherwise

pub on_kind : (t : Lexeme) (k : TokenKind) (s : State) (other : Transition) (ts : List Lexeme) → (t.kind ≡ k → LedTo s ts)
    → Stood other ts → Stood (on (same_kind t.kind k) s other) ts
on_kind t k s other ts holds otherwise = stood_on (same_kind t.kind k) s other ts (λ e. holds (same_kind_is t.kind k e))
    otherwise

pub on_both : (t : Lexeme) (k : TokenKind) (b : Bool) (s : State) (other : Transition) (ts : List Lexeme)
    → (t.kind ≡ k → b ≡ true → LedTo s ts) → Stood other ts → Stood (on (same_kind t.kind k && b) s other) ts
on_both t k b s other ts holds otherwise = by_test (same_kind t.kind k) refl b refl
  where
    by_test : (x : Bool) → same_kind t.kind k ≡ x → (y : Bool) → b ≡ y → Stood (on (x && y) s other) ts
    by_test true e true f = holds (same_kind_is t.kind k e) f
    by_test true e false f = otherwise
    by_test false e y f = otherwise

pub on_tight : (low level : ℕ) (turn : Transition) (ts : List Lexeme) → (low ≤ level → Stood turn ts)
    → Stood (if_tight low level turn) ts
on_tight low level turn ts holds = by_test (nat_le low level) refl
  where
    by_test : (b : Bool) → nat_le low level ≡ b → Stood (if b then turn else stuck) ts
    by_test true e = holds (leb-true low level e)
    by_test false e = tt

pub on_le : (low high : ℕ) (s : State) (ts : List Lexeme) → (low ≤ high → LedTo s ts)
    → Stood (on (nat_le low high) s stuck) ts
on_le low high s ts holds = stood_on (nat_le low high) s stuck ts (λ e. holds (leb-true low high e)) tt

-- ---- kept tokens

pub kept_join : {A B : Spelling} (a b us : List Lexeme) → Sequence (Kept a A) (Kept b B) us → Kept (a ++ b) (A ⟫ B) us
kept_join a b us w = (
  ap₂ (λ x y. x ++ y) w.left.0 w.right.0 ∙ sym w.all,
  record { front = w.front; back = w.back; all = w.all; left = w.left.1; right = w.right.1 },
)

pub kept_map : {A B : Spelling} (a us : List Lexeme) → ((ts : List Lexeme) → A ts → B ts) → Kept a A us → Kept a B us
kept_map a us f h = (h.0, f us h.1)

pub end_nothing : {A : Spelling} (ts : List Lexeme) → A ts → Sequence A Nothing ts
end_nothing ts h = record { front = ts; back = []; all = sym (append-nil ts); left = h; right = refl }

pub start_nothing : {A : Spelling} (ts : List Lexeme) → A ts → Sequence Nothing A ts
start_nothing ts h = record { front = []; back = ts; all = refl; left = refl; right = h }

-- a part, what is before it, and one more token
pub behind : {S A B : Spelling} {ts : List Lexeme} → Sequence (S ⟫ A) B ts → Sequence S (A ⟫ B) ts
behind w = to_right w

-- with one part more
pub far_behind : {S A B C : Spelling} {ts : List Lexeme} → Sequence ((S ⟫ A) ⟫ B) C ts → Sequence S (A ⟫ B ⟫ C) ts
far_behind w = map_right (λ us v. v) (to_right (to_right w))
