-- The placement of a line, case by case.
use Rattle.std.proofs.Common.{◌≡◌, ◌≢◌, ◌⊎◌, ℕ, ◌<◌, ◌≤◌, ◌-◌, Bool, true, false, ◌==◌, ◌||◌, nat_lt, if◌then◌else◌}
use Rattle.std.proofs.Common.{List, ◌∷◌, Option, Some, None, Result, Ok, Err, length, refl, ap, sym, ◌∙◌, inl, inr}
use Rattle.std.proofs.lemmas.Bool.{ltb-true, ltb-false, eqb-true, eqb-false}
use Rattle.pc_source.specs.declared.fault.Refusal.{Refusal}
use Rattle.pc_source.specs.declared.fault.RefusalCode.{RefusalCode}
use Rattle.pc_source.specs.declared.fault.RefusalCode.TheVariants.{I1, I2, I3}
use Rattle.pc_token.specs.Lexeme.{Lexeme, LogicalLine}
use Rattle.pc_layout.specs.Spelling.{first_byte}
use Rattle.pc_layout.specs.Placing.{LayoutContext, Placement, column_of, in_def_of, levels_up_to, opening_placement}
use Rattle.pc_layout.specs.Placing.{closing_placement, placement, word_fault}
use Rattle.pc_layout.specs.Stepping.{step, unless_refused, checked_placement}

by_test : {A : Type 0} (b : Bool) (x y z : A) → (if b then x else y) ≡ z → ((b ≡ true) × (x ≡ z))
    ⊎ ((b ≡ false) × (y ≡ z))
by_test true x y z e = inl (refl, e)
by_test false x y z e = inr (refl, e)

abbrev pub pushed : LayoutContext → ℕ → Placement
pushed x c = record {
  levels = record { column = c; in_def = in_def_of x.levels || x.after_def } ∷ x.levels;
  dedents =
      0;
  indent = true;
}

abbrev pub popped : LayoutContext → ℕ → Placement
popped x c = record {
  levels = levels_up_to c x.levels;
  dedents = length x.levels - length (levels_up_to c x.levels);
  indent = false;
}

-- the line opens a suite

pub record Opens (x : LayoutContext) (c : ℕ) (p : Placement) : Type 0 where
  pub deeper : column_of x.levels < c
  pub colon : x.after_colon ≡ true
  pub room : length x.levels < 50
  pub placed : p ≡ pushed x c

-- the line stands in an open suite, or in column 0
pub record Returns (x : LayoutContext) (c : ℕ) (p : Placement) : Type 0 where
  pub within : c ≤ column_of x.levels
  pub there : column_of (levels_up_to c x.levels) ≡ c
  pub placed : p ≡ popped x c

data IsPlaced (x : LayoutContext) (c : ℕ) (p : Placement) : Type 0 where
  opens : Opens x c p → IsPlaced x c p
  returns : Returns x c p → IsPlaced x c p

opened_cases : (x : LayoutContext) (c : ℕ) (p : Placement) → column_of x.levels < c → opening_placement x c ≡ Ok p
    → Opens x c p
opened_cases x c p d e = elim (by_test x.after_colon _ _ _ e) [
  | inr (f, q) ↦ absurd (cc)
  | inl (t, q) ↦ elim (by_test (nat_lt (length x.levels) 50) _ _ _ q) [
    | inr (g, r) ↦ absurd (cc)
    | inl (u, r) ↦ record {
      deeper = d;
      colon = t;
      room = ltb-true _ _ u;
      placed = let s : Ok p ≡ Ok (pushed x c) =
          sym r in cc;
    }
  ]
]

closed_cases : (x : LayoutContext) (c : ℕ) (p : Placement) → c ≤ column_of x.levels → closing_placement x c ≡ Ok p
    → Returns x c p
closed_cases x c p d e = elim (by_test (column_of (levels_up_to c x.levels) == c) _ _ _ e) [
  | inr (f, q) ↦ absurd (cc)
  | inl (t, q) ↦ record { within = d; there = eqb-true _ _ t; placed = let s : Ok p ≡ Ok (popped x c) = sym q in cc }
]

pub placed_cases : (x : LayoutContext) (c : ℕ) (p : Placement) → placement x c ≡ Ok p → Opens x c p ⊎ Returns x c p
placed_cases x c p e = elim (by_test (nat_lt (column_of x.levels) c) _ _ _ e) [
  | inl (t, q) ↦ inl (opened_cases x c p (ltb-true _ _ t) q)
  | inr (f, q) ↦ inr (closed_cases x c p (ltb-false _ _ f) q)
]

-- why a line stands nowhere
pub record NoSuite (x : LayoutContext) (c : ℕ) (code : RefusalCode) : Type 0 where
  pub within : c ≤ column_of x.levels
  pub nowhere : column_of (levels_up_to c x.levels) ≢ c
  pub code_is : code ≡ I1

pub record NoColon (x : LayoutContext) (c : ℕ) (code : RefusalCode) : Type 0 where
  pub deeper : column_of x.levels < c
  pub no_colon : x.after_colon ≡ false
  pub code_is : code ≡ I2

pub record NoRoom (x : LayoutContext) (c : ℕ) (code : RefusalCode) : Type 0 where
  pub deeper : column_of x.levels < c
  pub colon : x.after_colon ≡ true
  pub full : 50 ≤ length x.levels
  pub code_is : code ≡ I3

pub placed_faults : (x : LayoutContext) (c : ℕ) (code : RefusalCode) → placement x c ≡ Err code → NoSuite x c code
    ⊎ (NoColon x c code ⊎ NoRoom x c code)
placed_faults x c code e = elim (by_test (nat_lt (column_of x.levels) c) _ _ _ e) [
  | inl (t, q) ↦ elim (by_test x.after_colon _ _ _ q) [
    | inr (f, r) ↦ inr (inl (record { deeper = ltb-true _ _ t; no_colon = f; code_is = cc }))
    | inl (u, r) ↦ elim (by_test (nat_lt (length x.levels) 50) _ _ _ r) [
      | inl (w, s) ↦ absurd (cc)
      | inr (w, s) ↦ inr (inr (record { deeper = ltb-true _ _ t; colon = u; full = ltb-false _ _ w; code_is = cc }))
    ]
  ]
  | inr (f, q) ↦ elim (by_test (column_of (levels_up_to c x.levels) == c) _ _ _ q) [
    | inl (u, r) ↦ absurd (cc)
    | inr (u, r) ↦ inl (record { within = ltb-false _ _ f; nowhere = eqb-false _ _ u; code_is = cc })
  ]
]

stepped_ok : (o : Option Refusal) (q p : Placement) → unless_refused o q ≡ Ok p → (o ≡ None) × (q ≡ p)
stepped_ok None q p e = (refl, cc)
stepped_ok (Some r) q p e = absurd (cc)

stepped_err : (o : Option Refusal) (q : Placement) (r : Refusal) → unless_refused o q ≡ Err r → o ≡ Some r
stepped_err None q r e = absurd (cc)
stepped_err (Some s) q r e = cc

worded_ok : (len c : ℕ) (xs : List Lexeme) (o : Result Placement RefusalCode) (p : Placement)
    → checked_placement len c xs o ≡ Ok p → (o ≡ Ok p) × (word_fault len (in_def_of p.levels) c xs ≡ None)
worded_ok len c xs (Err code) p e = absurd (cc)
worded_ok len c xs (Ok q) p e = let h : (word_fault len (in_def_of q.levels) c xs ≡ None)
    × (q ≡ p) = stepped_ok _ q p e in (ap Ok h.1, rw (sym h.1) h.0)

-- a line that is placed so has no fault in its words
pub step_ok : (len : ℕ) (x : LayoutContext) (l : LogicalLine) (p : Placement) → step len x l ≡ Ok p
    → (placement x l.column ≡ Ok p) × (word_fault len (in_def_of p.levels) l.column l.lexemes ≡ None)
step_ok len x l p e = worded_ok len l.column l.lexemes (placement x l.column) p e

-- why a line is refused
pub data WordsRefused (len : ℕ) (x : LayoutContext) (l : LogicalLine) (r : Refusal) : Type 0 where
  words_refused : (p : Placement) → placement x l.column ≡ Ok p → word_fault len (in_def_of p.levels) l.column l.lexemes
      ≡ Some r → WordsRefused len x l r

worded_err : (len : ℕ) (x : LayoutContext) (l : LogicalLine) (o : Result Placement RefusalCode) (r : Refusal)
    → placement x l.column ≡ o → checked_placement len l.column l.lexemes o ≡ Err r →
    ((placement x l.column ≡ Err r.code) × (r.byte ≡ first_byte len l.lexemes)) ⊎ WordsRefused len x l r
worded_err len x l (Err code) r h e = let q : record { code = code; byte = first_byte len l.lexemes } ≡ r = cc in
    inl (h ∙ ap (λ z. Err z.code) q, sym (ap (λ z. z.byte) q))
worded_err len x l (Ok p) r h e = inr (words_refused p h (stepped_err _ p r e))

pub step_err : (len : ℕ) (x : LayoutContext) (l : LogicalLine) (r : Refusal) → step len x l ≡ Err r →
    ((placement x l.column ≡ Err r.code) × (r.byte ≡ first_byte len l.lexemes)) ⊎ WordsRefused len x l r
step_err len x l r e = worded_err len x l (placement x l.column) r refl e
