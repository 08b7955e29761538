-- The context between two lines follows from the lines before.
use Rattle.std.proofs.Common.{◌≡◌, ◌⊎◌, ℕ, ◌<◌, ◌≤◌, min, Bool, true, false, ◌||◌, List, [], ◌∷◌, Option, Some, length}
use Rattle.std.proofs.Common.{refl, ap, sym, ◌∙◌, inl, inr, arith}
use Rattle.std.proofs.lemmas.Bool.{cases_lt}
use Rattle.pc_token.specs.declared.token.Keyword.TheVariants.{Def}
use Rattle.pc_token.specs.declared.token.Operator.TheVariants.{Colon}
use Rattle.pc_token.specs.declared.token.TokenKind.{TokenKind}
use Rattle.pc_token.specs.declared.token.TokenKind.TheVariants as k
use Rattle.pc_token.specs.Lexeme.{LogicalLine}
use Rattle.pc_layout.specs.Spelling.{first_kind, last_kind}
use Rattle.pc_layout.specs.Faults.{IsOpen}
use Rattle.pc_layout.specs.Stepping.{is_colon, is_def, after, start}
use Rattle.pc_layout.specs.Placing.{LayoutContext, Placement, column_of, in_def_of, levels_up_to}
use Rattle.pc_layout.proofs.Placings.{Opens, Returns, pushed, popped}
use Rattle.pc_layout.proofs.Forests.{closing_shorter}
use Rattle.pc_layout.proofs.OpenSuites.{HasLevel, Falls, Defines, InDef, Tells, Knows, has_le, top_has, closing_falls}
use Rattle.pc_layout.proofs.OpenSuites.{closing_has, has_closing, closing_knows, inside_more, inside_less, knows_more}
use Rattle.pc_layout.proofs.OpenSuites.{knows_top}

-- the column of the latest line, 0 before the first
abbrev pub column_before : List LogicalLine → ℕ
column_before [] = 0
column_before (l ∷ ls) = l.column

abbrev pub colon_before : List LogicalLine → Bool
colon_before [] = false
colon_before (l ∷ ls) = is_colon (last_kind l.lexemes)

abbrev pub def_before : List LogicalLine → Bool
def_before [] = false
def_before (l ∷ ls) = is_def (first_kind l.lexemes)

pub record Follows (before : List LogicalLine) (x : LayoutContext) : Type 0 where
  pub falls : Falls x.levels
  pub few : length x.levels ≤ 50
  pub inner : column_of x.levels ≡ column_before before
  pub held_open : (c : ℕ) → HasLevel c x.levels → IsOpen c before
  pub open_held : (c : ℕ) → 0 < c → IsOpen c before → HasLevel c x.levels
  pub base : (before ≡ []) ⊎ IsOpen 0 before
  pub knows : Knows before x.levels
  pub colon : x.after_colon ≡ colon_before before
  pub defines : x.after_def ≡ def_before before

pub follows_start : Follows [] start
follows_start = record {
  falls = tt;
  few = omega arith;
  inner = refl;
  held_open = λ c h. h;
  open_held = λ c p h. h;
  base = inl refl;
  knows = tt;
  colon = refl;
  defines = refl;
}

is_def_yes : (o : Option TokenKind) → is_def o ≡ true → o ≡ Some (k.Keyword Def)
is_def_yes (Some (k.Keyword Def)) e = refl
is_def_yes _ e = absurd (cc)

is_def_back : (o : Option TokenKind) → o ≡ Some (k.Keyword Def) → is_def o ≡ true
is_def_back o e = ap is_def e

pub is_colon_yes : (o : Option TokenKind) → is_colon o ≡ true → o ≡ Some (k.Operator Colon)
is_colon_yes (Some (k.Operator Colon)) e = refl
is_colon_yes _ e = absurd (cc)

pub is_colon_back : (o : Option TokenKind) → o ≡ Some (k.Operator Colon) → is_colon o ≡ true
is_colon_back o e = ap is_colon e

or_cases : (a b : Bool) → (a || b) ≡ true → (a ≡ true) ⊎ (b ≡ true)
or_cases true b e = inl refl
or_cases false b e = inr e

or_left : (a b : Bool) → a ≡ true → (a || b) ≡ true
or_left a b e = rw e refl

or_right : (a b : Bool) → b ≡ true → (a || b) ≡ true
or_right true b e = refl
or_right false b e = e

-- a deeper line lies inside the suite of a `def` where the line before begins with it, or lies inside one
deeper_inside : (before : List LogicalLine) (c : ℕ) (a d : Bool) → column_before before < c
    → Tells a (InDef (column_before before) before) → d ≡ def_before before →
    Tells (a || d) (InDef c before)
deeper_inside [] c a d lt t e = record {
  yes = λ h. elim (or_cases a d h) [ inl f ↦ t.yes f | inr f ↦ absurd (let q : false ≡ true = sym e ∙ f in cc) ];
  back = λ h. absurd h;
}
deeper_inside (b ∷ bs) c a d lt t e = let m : min c b.column ≡ b.column = omega arith in record {
  yes = λ h. elim (or_cases a d h) [
    | inl f ↦ inr (rw m (inside_less Defines b.column b bs (omega arith) (t.yes f)))
    | inr f ↦ inl (lt, is_def_yes (first_kind b.lexemes) (sym e ∙ f))
  ];
  back = λ h. elim h [
    | inl g ↦ or_right a d (e ∙ is_def_back (first_kind b.lexemes) g.1)
    | inr g ↦ or_left a d (t.back (inside_more Defines b.column b bs (omega arith) (let i = rw m at g in i)))
  ];
}

not_first : (before : List LogicalLine) (b : Bool) → b ≡ colon_before before → b ≡ true → before ≡ [] → ⊥
not_first [] b e t h = let q : false ≡ true = sym e ∙ t in cc
not_first (l ∷ ls) b e t h = cc

pushed_follows : (before : List LogicalLine) (x : LayoutContext) (l : LogicalLine) → Follows before x
    → column_of x.levels < l.column → x.after_colon ≡ true → length x.levels < 50 →
    Follows (l ∷ before) (after (pushed x l.column) l.lexemes)
pushed_follows before x l f lt colon room = record {
  falls = (lt, f.falls);
  few = omega (arith, room);
  inner = refl;
  held_open = λ c h. elim h [
    | inl e ↦ inl e
    | inr g ↦ inr (omega (arith, has_le c x.levels f.falls g, lt), f.held_open c g)
  ];
  open_held = λ c p h. elim h [ inl e ↦ inl e | inr g ↦ inr (f.open_held c p g.1) ];
  base = inr (inr (
    omega (arith, lt),
    elim f.base [
      | inl e ↦ absurd (not_first before x.after_colon f.colon colon e)
      | inr h ↦ h
    ],
  ));
  knows =
      let t : Tells (in_def_of x.levels) (InDef (column_before before) before) = let r =
      knows_top before x.levels f.knows in rw f.inner at r in
      let d : Tells (in_def_of x.levels || x.after_def) (InDef l.column before) = deeper_inside before l.column
      (in_def_of x.levels) x.after_def (omega (arith, lt, f.inner)) t f.defines in (
        record {
          yes = λ e. inside_more Defines l.column l before (omega arith) (d.yes e);
          back = λ g. d.back (inside_less Defines l.column l before (omega arith) g);
        },
        knows_more l before x.levels f.falls (omega (arith, lt)) f.knows,
      );
  colon = refl;
  defines = refl;
}

popped_follows : (before : List LogicalLine) (x : LayoutContext) (l : LogicalLine) → Follows before x
    → l.column ≤ column_of x.levels → column_of (levels_up_to l.column x.levels) ≡ l.column →
    Follows (l ∷ before) (after (popped x l.column) l.lexemes)
popped_follows before x l f le there = record {
  falls = closing_falls l.column x.levels f.falls;
  few = omega (arith, closing_shorter l.column x.levels, f.few);
  inner = there;
  held_open = λ c h.
      let low : c ≤ l.column = omega (
        arith,
        has_le c (levels_up_to l.column x.levels)
            (closing_falls l.column x.levels f.falls) h,
        there,
      ) in
      elim (cases_lt c l.column) [
        | inl lt ↦ inr (lt, f.held_open c (closing_has l.column c x.levels h))
        | inr ge ↦ inl (omega arith)
      ];
  open_held = λ c p h. elim h [
    | inl e ↦ let q : column_of (levels_up_to l.column x.levels) ≡ c = there ∙ e in let r =
        top_has (levels_up_to l.column x.levels) (omega (arith, q)) in rw q at r
    | inr g ↦ has_closing l.column c x.levels (omega (arith, g.0)) (f.open_held c p g.1)
  ];
  base = inr (elim (cases_lt 0 l.column) [
    | inl lt ↦ inr (lt, elim f.base [ inl e ↦ absurd (omega (arith, le, f.inner, ap column_before e)) | inr h ↦ h ])
    | inr ge ↦ inl (omega arith)
  ]);
  knows = knows_more l before (levels_up_to l.column x.levels) (closing_falls l.column x.levels f.falls)
      (omega (arith, there)) (closing_knows l.column before x.levels f.knows);
  colon = refl;
  defines = refl;
}

-- a line that was placed keeps it so
pub follows : (before : List LogicalLine) (x : LayoutContext) (l : LogicalLine) (p : Placement) → Follows before x
    → Opens x l.column p ⊎ Returns x l.column p → Follows (l ∷ before) (after p l.lexemes)
follows before x l p f (inl o) = rw o.placed (pushed_follows before x l f o.deeper o.colon o.room)
follows before x l p f (inr o) = rw o.placed (popped_follows before x l f o.within o.there)
