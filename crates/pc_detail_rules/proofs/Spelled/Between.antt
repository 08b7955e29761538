-- Tokens in order between two bytes, and what stands among them: at most one thing at each place.
use Rattle.std.proofs.Common.{◌≡◌, ◌≤◌, ◌<◌, ◌+◌, ℕ, zero, suc, List, [], ◌∷◌, ◌++◌, Bool as Test, true, false, refl}
use Rattle.std.proofs.Common.{sym, subst, inl, inr, arith}
use Rattle.std.specs.Prelude.{◌⊎◌}
use Rattle.pc_source.specs.declared.place.Place.{Place}
use Rattle.pc_token.specs.declared.token.TokenKind.{TokenKind}
use Rattle.pc_token.specs.declared.token.TokenKind.TheVariants.{Newline, Indent, Dedent, End}
use Rattle.pc_token.specs.Lexeme.{Lexeme}
use Rattle.pc_grammar.specs.Grammar.{Spelling, Sequence, Just, last_place, span}

-- ---- tokens between two bytes

-- whether a token stands in a line, unlike the end of one, the start and the end of a suite, and the end of the module
abbrev pub is_of_line : TokenKind → Test
is_of_line Newline = false
is_of_line Indent = false
is_of_line Dedent = false
is_of_line End = false
is_of_line k = true

-- each token begins at or after this byte and where the one before ends, and is not empty if it stands in a line
abbrev pub AreInOrder : ℕ → List Lexeme → Type 0
AreInOrder from [] = Unit {0}
AreInOrder from (t ∷ ts) = (from ≤ t.place.start) × (t.place.start ≤ t.place.end)
    × (is_of_line t.kind ≡ true → t.place.start < t.place.end) × AreInOrder t.place.end ts

-- the tokens are in order between these bytes
abbrev pub Between : (low : ℕ) → List Lexeme → (high : ℕ) → Type 0
Between low [] high = low ≤ high
Between low (t ∷ ts) high = (low ≤ t.place.start) × (t.place.start ≤ t.place.end)
    × (is_of_line t.kind ≡ true → t.place.start < t.place.end) × Between t.place.end ts high

-- the last byte of tokens in order
pub record Ended (low : ℕ) (ts : List Lexeme) : Type 0 where
  pub high : ℕ
  pub between : Between low ts high

pub ended : (low : ℕ) (ts : List Lexeme) → AreInOrder low ts → Ended low ts
ended low [] h = record { high = low; between = omega arith }
ended low (t ∷ ts) h = let r = ended t.place.end ts h.3 in
    record { high = r.high; between = (h.0, h.1, h.2, r.between) }

pub in_between : (low : ℕ) (ts : List Lexeme) (high : ℕ) → Between low ts high → low ≤ high
in_between low [] high h = h
in_between low (t ∷ ts) high h = let r = in_between t.place.end ts high h.3 in let a = h.0 in let b = h.1 in
    omega (arith, r, a, b)

-- a byte between two lists of tokens
pub record Cut (low : ℕ) (xs ys : List Lexeme) (high : ℕ) : Type 0 where
  pub at : ℕ
  pub left : Between low xs at
  pub right : Between at ys high

pub cut : (low : ℕ) (xs ys : List Lexeme) (high : ℕ) → Between low (xs ++ ys) high → Cut low xs ys high
cut low [] ys high h = record { at = low; left = omega arith; right = h }
cut low (t ∷ xs) ys high h = let r = cut t.place.end xs ys high h.3 in
    record { at = r.at; left = (h.0, h.1, h.2, r.left); right = r.right }

-- of a sequence
pub cut_sequence : {A B : Spelling} (low : ℕ) (ts : List Lexeme) (high : ℕ) → Between low ts high
    → (s : Sequence A B ts) → Cut low s.front s.back high
cut_sequence low ts high h s = cut low s.front s.back high (subst (λ (xs : List Lexeme). Between low xs high) s.all h)

-- one token of a line is not empty
pub one_token : (t : Lexeme) (low high : ℕ) → Between low (t ∷ []) high → is_of_line t.kind ≡ true
    → (low ≤ t.place.start) × (t.place.start < t.place.end) × (t.place.end ≤ high)
one_token t low high h solid = (h.0, h.2 solid, h.3)

pub solid : (k : TokenKind) → is_of_line k ≡ true → (low : ℕ) (ts : List Lexeme) (high : ℕ) → Between low ts high
    → Just k ts → low < high
solid k line low ts high h j =
    let b : Between low (j.0 ∷ []) high = subst (λ (xs : List Lexeme). Between low xs high) j.2 h in
    let o = one_token j.0 low high b (subst (λ (x : TokenKind). is_of_line x ≡ true) (sym j.1) line) in
    let x = o.0 in let y = o.1 in let z = o.2 in omega (arith, x, y, z)

-- ---- the place of tokens

ends_at : (low : ℕ) (t : Lexeme) (ts : List Lexeme) (high : ℕ) → Between low (t ∷ ts) high
    → Between low (t ∷ ts) (last_place (t ∷ ts)).end × ((last_place (t ∷ ts)).end ≤ high)
ends_at low t [] high h = ((h.0, h.1, h.2, omega arith), h.3)
ends_at low t (u ∷ ts) high h = let r = ends_at t.place.end u ts high h.3 in ((h.0, h.1, h.2, r.0), r.1)

-- tokens stand between the ends of their place, which is between the bytes, if there are any
pub record Placed (low : ℕ) (ts : List Lexeme) (high : ℕ) : Type 0 where
  pub low_end : low ≤ (span ts).start
  pub between : Between (span ts).start ts (span ts).end
  pub high_end : (span ts).end ≤ high

pub placed : (low : ℕ) (ts : List Lexeme) (high : ℕ) → Between low ts high
    → ((l h : ℕ) → Between l ts h → l < h) → Placed low ts high
placed low [] high h some = let none : 0 ≤ 0 = omega arith in let bad = some 0 0 none in absurd (omega (arith, bad))
placed low (t ∷ ts) high h some =
    let r = ends_at low t ts high h in
    let start : t.place.start ≤ t.place.start = omega arith in
    record { low_end = h.0; between = (start, r.0.1, r.0.2, r.0.3); high_end = r.1 }

-- ---- things at places

-- there is one thing, at a place between these bytes that is not empty
pub record IsBetween (a b : ℕ) (p : Place) (n : ℕ) : Type 0 where
  pub one : n ≡ 1
  pub low : a ≤ p.start
  pub some : p.start < p.end
  pub high : p.end ≤ b

-- there is at most one thing, and only where the place is between these bytes and not empty
abbrev pub Fact : (a b : ℕ) → Place → ℕ → Type 0
Fact a b p n = (n ≡ 0) ⊎ IsBetween a b p n

-- at each place there is at most one of some things, between these bytes
abbrev pub Apart : (low high : ℕ) → (Place → ℕ) → Type 0
Apart low high n = (p : Place) → Fact low high p (n p)

pub at_most_one : (a b : ℕ) (p : Place) (n : ℕ) → Fact a b p n → n ≤ 1
at_most_one a b p n h = elim h [
  | inl e ↦ omega (arith, e)
  | inr k ↦ let e = k.one in omega (arith, e)
]

pub not_before : (a b : ℕ) (p : Place) (n : ℕ) → Fact a b p n → p.start < a → n ≡ 0
not_before a b p n h x = elim h [
  | inl e ↦ e
  | inr k ↦ let y = k.low in absurd (omega (arith, x, y))
]

pub not_behind : (a b : ℕ) (p : Place) (n : ℕ) → Fact a b p n → b < p.end → n ≡ 0
not_behind a b p n h x = elim h [
  | inl e ↦ e
  | inr k ↦ let y = k.high in absurd (omega (arith, x, y))
]

pub none_apart : (low high : ℕ) → Apart low high (λ p. 0)
none_apart low high p = inl refl

wider_fact : (a b c d : ℕ) (p : Place) (n : ℕ) → Fact b c p n → a ≤ b → c ≤ d → Fact a d p n
wider_fact a b c d p n h x y = elim h [
  | inl e ↦ inl e
  | inr k ↦ let low = k.low in let high = k.high in
      inr (record { one = k.one; low = omega (arith, x, low); some = k.some; high = omega (arith, y, high) })
]

pub wider : {a b c d : ℕ} (n : Place → ℕ) → Apart b c n → a ≤ b → c ≤ d → Apart a d n
wider {a} {b} {c} {d} n h x y p = wider_fact a b c d p (n p) (h p) x y

first_of : (a d : ℕ) (p : Place) (n k : ℕ) → Fact a d p n → k ≡ 0 → Fact a d p (n + k)
first_of a d p n k h e = subst (Fact a d p) (let i : n ≡ n + k = omega (arith, e) in i) h

second_of : (a d : ℕ) (p : Place) (n k : ℕ) → n ≡ 0 → Fact a d p k → Fact a d p (n + k)
second_of a d p n k e h = subst (Fact a d p) (let i : k ≡ n + k = omega (arith, e) in i) h

beside_fact : (a b c d : ℕ) (p : Place) (n k : ℕ) → Fact a b p n → Fact c d p k → a ≤ b → b ≤ c → c ≤ d
    → Fact a d p (n + k)
beside_fact a b c d p n k h g x y z = elim h [
  | inl e ↦ let w : a ≤ c = omega (arith, x, y) in let v : d ≤ d = omega arith in
      second_of a d p n k e (wider_fact a c d d p k g w v)
  | inr i ↦ let some = i.some in let high = i.high in let w : a ≤ a = omega arith in
      let v : b ≤ d = omega (arith, y, z) in let before : p.start < c = omega (arith, some, high, y) in
      first_of a d p n k (wider_fact a a b d p n (inr i) w v) (not_before c d p k g before)
]

pub beside : {a b c d : ℕ} (n k : Place → ℕ) → Apart a b n → Apart c d k → a ≤ b → b ≤ c → c ≤ d
    → Apart a d (λ p. n p + k p)
beside {a} {b} {c} {d} n k h g x y z p = beside_fact a b c d p (n p) (k p) (h p) (g p) x y z

-- fewer things
pub fewer : {a b : ℕ} (n k : Place → ℕ) → ((p : Place) → k p ≤ n p) → Apart a b n → Apart a b k
fewer {a} {b} n k e h p = go (k p) (e p) (h p)
  where
    go : (i : ℕ) → i ≤ n p → Fact a b p (n p) → Fact a b p i
    go zero less f = inl refl
    go (suc i) less f = elim f [
      | inl z ↦ absurd (omega (arith, less, z))
      | inr j ↦ let one = j.one in
          inr (record { one = omega (arith, less, one); low = j.low; some = j.some; high = j.high })
    ]

pub same_apart : {a b : ℕ} (n k : Place → ℕ) → ((p : Place) → n p ≡ k p) → Apart a b n → Apart a b k
same_apart {a} {b} n k e h p = subst (Fact a b p) (e p) (h p)
