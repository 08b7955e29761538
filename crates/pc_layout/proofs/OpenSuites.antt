-- The suites that are held open are those that are open after the lines before.
use Rattle.std.proofs.Common.{◌≡◌, ◌⊎◌, ℕ, ◌<◌, ◌≤◌, min, Bool, true, nat_lt, List, [], ◌∷◌, length, map, refl, inl}
use Rattle.std.proofs.Common.{inr, arith}
use Rattle.std.specs.List.{All}
use Rattle.std.proofs.lemmas.Bool.{ltb-true, ltb-false}
use Rattle.std.proofs.lemmas.List.Elements.{All-nil, All-cons, All-head, All-tail, All-weaker}
use Rattle.pc_token.specs.declared.token.Keyword.TheVariants.{Def}
use Rattle.pc_token.specs.declared.token.TokenKind.TheVariants as k
use Rattle.pc_token.specs.Lexeme.{LogicalLine}
use Rattle.pc_layout.specs.Spelling.{BeginsWith}
use Rattle.pc_layout.specs.Faults.{IsInside, IsFalling}
use Rattle.pc_layout.specs.declared.levels.Level.{Level}
use Rattle.pc_layout.specs.Placing.{column_of, in_def_of, levels_up_to}
use Rattle.pc_layout.proofs.Forests.{by_bool}

-- a suite of the column is held open
abbrev pub HasLevel : ℕ → List Level → Type 0
HasLevel c [] = ⊥
HasLevel c (v ∷ vs) = (v.column ≡ c) ⊎ HasLevel c vs

-- each is deeper than the one around it
abbrev pub Falls : List Level → Type 0
Falls [] = Unit {0}
Falls (v ∷ vs) = (column_of vs < v.column) × Falls vs

-- the line begins with `def`
abbrev pub Defines : LogicalLine → Type 0
Defines = BeginsWith (k.Keyword Def)

abbrev pub InDef : ℕ → List LogicalLine → Type 0
InDef c before = IsInside Defines c before

-- a test tells a fact
pub record Tells (b : Bool) (P : Type 0) : Type 0 where
  pub yes : b ≡ true → P
  pub back : P → b ≡ true

-- each knows whether it lies inside the suite of a line that begins with `def`
abbrev pub Knows : List LogicalLine → List Level → Type 0
Knows before [] = Unit {0}
Knows before (v ∷ vs) = Tells v.in_def (InDef v.column before) × Knows before vs

pub has_le : (c : ℕ) (vs : List Level) → Falls vs → HasLevel c vs → c ≤ column_of vs
has_le c [] f h = absurd h
has_le c (v ∷ vs) f (inl e) = omega arith
has_le c (v ∷ vs) f (inr h) = omega (arith, has_le c vs f.1 h, f.0)

pub top_has : (vs : List Level) → 0 < column_of vs → HasLevel (column_of vs) vs
top_has [] p = absurd (omega arith)
top_has (v ∷ vs) p = inl refl

pub closing_falls : (c : ℕ) (vs : List Level) → Falls vs → Falls (levels_up_to c vs)
closing_falls c [] f = f
closing_falls c (v ∷ vs) f = elim (by_bool (nat_lt c v.column)) [
  | inl t ↦ rw t (closing_falls c vs f.1)
  | inr t ↦ rw t f
]

pub closing_has : (c d : ℕ) (vs : List Level) → HasLevel d (levels_up_to c vs) → HasLevel d vs
closing_has c d [] h = h
closing_has c d (v ∷ vs) h = elim (by_bool (nat_lt c v.column)) [
  | inl t ↦ let g = rw t at h in inr (closing_has c d vs g)
  | inr t ↦ let g = rw t at h in g
]

pub has_closing : (c d : ℕ) (vs : List Level) → d ≤ c → HasLevel d vs → HasLevel d (levels_up_to c vs)
has_closing c d [] le h = h
has_closing c d (v ∷ vs) le h = elim (by_bool (nat_lt c v.column)) [
  | inl t ↦ rw t (elim h [ inl e ↦ absurd (omega (arith, ltb-true c v.column t)) | inr g ↦ has_closing c d vs le g ])
  | inr t ↦ rw t h
]

pub closing_knows : (c : ℕ) (before : List LogicalLine) (vs : List Level) → Knows before vs
    → Knows before (levels_up_to c vs)
closing_knows c before [] h = h
closing_knows c before (v ∷ vs) h = elim (by_bool (nat_lt c v.column)) [
  | inl t ↦ rw t (closing_knows c before vs h.1)
  | inr t ↦ rw t h
]

-- a column that a suite has is returned to
pub closing_there : (c : ℕ) (vs : List Level) → Falls vs → HasLevel c vs → column_of (levels_up_to c vs) ≡ c
closing_there c [] f h = absurd h
closing_there c (v ∷ vs) f h = elim (by_bool (nat_lt c v.column)) [
  | inl t ↦ rw t (elim h [ inl e ↦ absurd (omega (arith, ltb-true c v.column t)) | inr g ↦ closing_there c vs f.1 g ])
  | inr t ↦ rw t (elim h [ inl e ↦ e | inr g ↦ absurd (omega (arith, ltb-false c v.column t, has_le c vs f.1 g, f.0)) ])
]

-- and so is column 0
pub closing_zero : (vs : List Level) → Falls vs → column_of (levels_up_to 0 vs) ≡ 0
closing_zero [] f = refl
closing_zero (v ∷ vs) f = let t : nat_lt 0 v.column ≡ true = elim (by_bool (nat_lt 0 v.column))
    [ inl t ↦ t | inr u ↦ absurd (omega (arith, ltb-false 0 v.column u, f.0)) ] in rw t (closing_zero vs f.1)

pub closing_same : (vs : List Level) → levels_up_to (column_of vs) vs ≡ vs
closing_same [] = refl
closing_same (v ∷ vs) = elim (by_bool (nat_lt v.column v.column)) [
  | inl t ↦ absurd (omega (arith, ltb-true v.column v.column t))
  | inr t ↦ rw t refl
]

-- a line that is not less deep changes nothing
pub inside_more : (P : LogicalLine → Type 0) (c : ℕ) (l : LogicalLine) (ls : List LogicalLine) → c ≤ l.column
    → IsInside P c ls → IsInside P c (l ∷ ls)
inside_more P c l ls le h = let e : min c l.column ≡ c = omega arith in inr (rw e h)

pub inside_less : (P : LogicalLine → Type 0) (c : ℕ) (l : LogicalLine) (ls : List LogicalLine) → c ≤ l.column
    → IsInside P c (l ∷ ls) → IsInside P c ls
inside_less P c l ls le (inl h) = absurd (omega (arith, h.0))
inside_less P c l ls le (inr h) = let e : min c l.column ≡ c = omega arith in rw e at h

pub inside_zero : (P : LogicalLine → Type 0) (ls : List LogicalLine) → IsInside P 0 ls → ⊥
inside_zero P [] h = h
inside_zero P (l ∷ ls) h = inside_zero P ls (inside_less P 0 l ls (omega arith) h)

pub knows_more : (l : LogicalLine) (before : List LogicalLine) (vs : List Level) → Falls vs → column_of vs ≤ l.column
    → Knows before vs → Knows (l ∷ before) vs
knows_more l before [] f le h = h
knows_more l before (v ∷ vs) f le h = (
  record {
    yes = λ e. inside_more Defines v.column l before le (h.0.yes e);
    back = λ g. h.0.back (inside_less Defines v.column l before le g);
  },
  knows_more l before vs f.1 (omega (arith, f.0)) h.1,
)

-- the innermost suite knows it too
pub knows_top : (before : List LogicalLine) (vs : List Level) → Knows before vs
    → Tells (in_def_of vs) (InDef (column_of vs) before)
knows_top before [] h = record { yes = λ e. absurd (cc); back = λ g. absurd (inside_zero Defines before g) }
knows_top before (v ∷ vs) h = h.0

falling_tail : (c : ℕ) (cs : List ℕ) → IsFalling (c ∷ cs) → IsFalling cs
falling_tail c [] p = tt
falling_tail c (d ∷ ds) p = p.1

falling_below : (c : ℕ) (cs : List ℕ) → IsFalling (c ∷ cs) → All (λ d. d < c) cs
falling_below c [] p = All-nil (λ d. d < c)
falling_below c (d ∷ ds) p = All-cons (λ e. e < c) d ds p.0 (All-weaker (λ e. e < d) (λ e. e < c)
    (λ e h. omega (arith, h, p.0)) ds (falling_below d ds p.1))

-- no more columns than suites
pub fewer : (cs : List ℕ) (vs : List Level) → IsFalling cs → Falls vs → All (λ c. HasLevel c vs) cs
    → length cs ≤ length vs
fewer [] vs p f a = omega arith
fewer (c ∷ cs) [] p f a = absurd (All-head (λ c. HasLevel c []) c cs a)
fewer (c ∷ cs) (v ∷ vs) p f a =
    let top : c ≤ v.column = has_le c (v ∷ vs) f (All-head (λ c. HasLevel c (v ∷ vs)) c cs a) in
    let rest : All (λ d. HasLevel d vs) cs = λ n d lt. elim (All-tail (λ c. HasLevel c (v ∷ vs)) c cs a n d lt) [
      | inl e ↦ absurd (omega (arith, falling_below c cs p n d lt))
      | inr h ↦ h
    ] in
    omega (arith, fewer cs vs (falling_tail c cs p) f.1 rest)

-- the columns of the suites that are held open
pub falling_columns : (c : ℕ) (vs : List Level) → column_of vs < c → Falls vs
    → IsFalling (c ∷ map (λ (v : Level). v.column) vs)
falling_columns c [] lt f = lt
falling_columns c (v ∷ vs) lt f = (lt, falling_columns v.column vs f.0 f.1)

pub columns_held : (vs : List Level) → All (λ c. HasLevel c vs) (map (λ (v : Level). v.column) vs)
columns_held [] = All-nil (λ c. HasLevel c [])
columns_held (v ∷ vs) = All-cons (λ c. HasLevel c (v ∷ vs)) v.column (map (λ (v : Level). v.column) vs) (inl refl)
    (All-weaker (λ c. HasLevel c vs) (λ c. HasLevel c (v ∷ vs)) (λ c h. inr h) (map (λ (v : Level). v.column) vs)
    (columns_held vs))
