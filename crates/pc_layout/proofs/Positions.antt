-- The placement of a line, and the refusals of the indentation.
use Rattle.std.proofs.Common.{◌≡◌, ◌≢◌, ◌⊎◌, ℕ, ◌<◌, ◌≤◌, true, false, List, [], ◌∷◌, length, map, refl, ap, sym, ◌∙◌}
use Rattle.std.proofs.Common.{inl, inr, arith}
use Rattle.std.specs.List.{All}
use Rattle.std.proofs.lemmas.Bool.{cases_lt}
use Rattle.std.proofs.lemmas.List.Elements.{All-nil, All-cons, All-weaker}
use Rattle.std.proofs.lemmas.List.{length-map}
use Rattle.pc_source.specs.declared.fault.RefusalCode.{RefusalCode}
use Rattle.pc_token.specs.Lexeme.{LogicalLine}
use Rattle.pc_layout.specs.Spelling.{last_kind}
use Rattle.pc_layout.specs.Faults.{IsOpen, ReturnsNowhere, IsMisplaced, IsFalling, AreOpen, deepest}
use Rattle.pc_layout.specs.Stepping.{after}
use Rattle.pc_layout.specs.declared.levels.Level.{Level}
use Rattle.pc_layout.specs.Placing.{LayoutContext, Placement, column_of, levels_up_to}
use Rattle.pc_layout.proofs.Placings.{Opens, Returns, NoSuite, NoColon, NoRoom}
use Rattle.pc_layout.proofs.OpenSuites.{HasLevel, top_has, closing_has, closing_there, closing_zero, closing_same}
use Rattle.pc_layout.proofs.OpenSuites.{fewer, falling_columns, columns_held, has_le}
use Rattle.pc_layout.proofs.Following.{Follows, follows, column_before, colon_before, is_colon_yes, is_colon_back}

-- a line that is deeper than the line before returns nowhere else
pub deeper_returns : (before : List LogicalLine) (l : LogicalLine) → column_before before < l.column
    → ReturnsNowhere l before → ⊥
deeper_returns [] l lt h = h
deeper_returns (b ∷ bs) l lt h = omega (arith, h.0)

-- a line after a colon is not misplaced
pub colon_misplaced : (before : List LogicalLine) (l : LogicalLine) → colon_before before ≡ true → IsMisplaced l before
    → ⊥
colon_misplaced [] l t h = absurd (cc)
colon_misplaced (b ∷ bs) l t h = h.1 (is_colon_yes (last_kind b.lexemes) t)

-- nor is one that is not deeper
level_misplaced : (before : List LogicalLine) (l : LogicalLine) → l.column ≤ column_before before → IsMisplaced l before
    → ⊥
level_misplaced [] l le h = h (omega arith)
level_misplaced (b ∷ bs) l le h = omega (arith, h.0)

returned_open : (before : List LogicalLine) (l : LogicalLine) → IsOpen l.column before → ReturnsNowhere l before → ⊥
returned_open [] l o h = h
returned_open (b ∷ bs) l o h = h.1 o

not_nowhere : (before : List LogicalLine) (l : LogicalLine) → ReturnsNowhere l before → before ≡ [] → ⊥
not_nowhere [] l h e = h
not_nowhere (b ∷ bs) l h e = cc

falling_positive : (cs : List ℕ) → IsFalling cs → All (λ c. 0 < c) cs
falling_positive [] h = All-nil (λ c. 0 < c)
falling_positive (c ∷ []) h = All-cons (λ c. 0 < c) c [] h (All-nil (λ c. 0 < c))
falling_positive (c ∷ d ∷ cs) h = All-cons (λ c. 0 < c) c (d ∷ cs) (omega (arith, h.0)) (falling_positive (d ∷ cs) h.1)

-- columns that are open are held open
held : (ls : List LogicalLine) (y : LayoutContext) → Follows ls y → (cs : List ℕ) → IsFalling cs
    → All (λ c. IsOpen c ls) cs → All (λ c. HasLevel c y.levels) cs
held ls y g cs fall each = λ n d lt. g.open_held _ (falling_positive cs fall n d lt) (each n d lt)

module _ (before : List LogicalLine) (x : LayoutContext) (l : LogicalLine) (f : Follows before x) where
  -- a line that was placed returns to an open suite
  pub placed_returns : (p : Placement) → Opens x l.column p ⊎ Returns x l.column p → ReturnsNowhere l before → ⊥
  placed_returns p (inl o) h = deeper_returns before l (omega (arith, o.deeper, f.inner)) h
  placed_returns p (inr o) h = elim (cases_lt 0 l.column) [
    | inl lt ↦ returned_open before l (f.held_open l.column (closing_has l.column l.column x.levels
        (let r = top_has (levels_up_to l.column x.levels) (omega (arith, o.there, lt)) in rw o.there at r))) h
    | inr ge ↦ let z : l.column ≡ 0 = omega arith in elim f.base [
      | inl e ↦ not_nowhere before l h e
      | inr b ↦
          returned_open before l (rw z b) h
    ]
  ]

  -- and is not misplaced
  pub placed_misplaced : (p : Placement) → Opens x l.column p ⊎ Returns x l.column p → IsMisplaced l before → ⊥
  placed_misplaced p (inl o) h = colon_misplaced before l (sym f.colon ∙ o.colon) h
  placed_misplaced p (inr o) h = level_misplaced before l (omega (arith, o.within, f.inner)) h

  -- and is in no more than 50 suites
  pub placed_open : (p : Placement) → Opens x l.column p ⊎ Returns x l.column p → AreOpen deepest (l ∷ before) → ⊥
  placed_open p s (cs, long, fall, each) = let g : Follows (l ∷ before) (after p l.lexemes) =
      follows before x l p f s in
      let n : length cs ≤ length p.levels = fewer cs p.levels fall g.falls
      (held (l ∷ before) (after p l.lexemes) g cs fall each) in omega (arith, n, long, g.few)

  nowhere_open : l.column ≤ column_of x.levels → column_of (levels_up_to l.column x.levels) ≢ l.column
      → IsOpen l.column before → ⊥
  nowhere_open le nowhere h = elim (cases_lt 0 l.column) [
    | inl lt ↦ nowhere (closing_there l.column x.levels f.falls (f.open_held l.column lt h))
    | inr ge ↦ let z : l.column ≡ 0 = omega arith in nowhere (rw z (closing_zero x.levels f.falls))
  ]

  nowhere_less : l.column ≤ column_of x.levels → column_of (levels_up_to l.column x.levels) ≢ l.column
      → l.column < column_of x.levels
  nowhere_less le nowhere = elim (cases_lt l.column (column_of x.levels)) [
    | inl lt ↦ lt
    | inr ge ↦ let e : l.column ≡ column_of x.levels = omega arith in
        absurd (nowhere (ap (λ c. column_of (levels_up_to c x.levels)) e ∙ ap column_of (closing_same x.levels)
        ∙ sym e))
  ]

returns_nowhere : (before : List LogicalLine) (l : LogicalLine) → l.column < column_before before
    → (IsOpen l.column before → ⊥) → ReturnsNowhere l before
returns_nowhere [] l lt h = omega arith
returns_nowhere (b ∷ bs) l lt h = (lt, h)

is_misplaced : (before : List LogicalLine) (l : LogicalLine) → column_before before < l.column
    → colon_before before ≡ false → IsMisplaced l before
is_misplaced [] l lt e = λ z. omega arith
is_misplaced (b ∷ bs) l lt e = (lt, λ h. let q : true ≡ false = sym (is_colon_back (last_kind b.lexemes) h) ∙ e in cc)

module _ (before : List LogicalLine) (x : LayoutContext) (l : LogicalLine) (code : RefusalCode)
    (f : Follows before x) where
  pub no_suite : NoSuite x l.column code → ReturnsNowhere l before
  no_suite n = returns_nowhere before l (omega (arith, nowhere_less before x l f n.within n.nowhere, f.inner))
      (nowhere_open before x l f n.within n.nowhere)

  pub no_colon : NoColon x l.column code → IsMisplaced l before
  no_colon n = is_misplaced before l (omega (arith, n.deeper, f.inner)) (sym f.colon ∙ n.no_colon)

  pub no_colon_returns : NoColon x l.column code → ReturnsNowhere l before → ⊥
  no_colon_returns n h = deeper_returns before l (omega (arith, n.deeper, f.inner)) h

  pub no_room : NoRoom x l.column code → AreOpen deepest (l ∷ before)
  no_room n = let cs : List ℕ = map (λ (v : Level). v.column) x.levels in (
    l.column ∷ cs,
    omega (arith, n.full, length-map x.levels (λ (v : Level). v.column)),
    falling_columns l.column x.levels n.deeper f.falls,
    All-cons (λ c. IsOpen c (l ∷ before)) l.column cs (inl refl)
        (All-weaker (λ c. HasLevel c x.levels) (λ c. IsOpen c (l ∷ before))
        (λ c h. inr (omega (arith, has_le c x.levels f.falls h, n.deeper), f.held_open c h)) cs
        (columns_held x.levels)),
  )

  pub no_room_returns : NoRoom x l.column code → ReturnsNowhere l before → ⊥
  no_room_returns n h = deeper_returns before l (omega (arith, n.deeper, f.inner)) h

  pub no_room_misplaced : NoRoom x l.column code → IsMisplaced l before → ⊥
  no_room_misplaced n h = colon_misplaced before l (sym f.colon ∙ n.colon) h
