-- A line is refused exactly where it has a fault, and with the fault that counts first.
use Rattle.std.proofs.Common.{◌≡◌, ◌⊎◌, ℕ, ◌<◌, ◌≤◌, Bool, true, false, nat_lt, List, [], ◌∷◌, Ok, Err, refl, ap, sym}
use Rattle.std.proofs.Common.{◌∙◌, inl, inr, arith}
use Rattle.std.specs.List.{Contains}
use Rattle.std.proofs.lemmas.Bool.{ltb-false, cases_lt}
use Rattle.pc_source.specs.declared.fault.Refusal.{Refusal}
use Rattle.pc_source.specs.declared.fault.RefusalCode.{RefusalCode}
use Rattle.pc_source.specs.declared.fault.RefusalCode.TheVariants.{I1, I2, I3, N1, N2, N3, N4, N5}
use Rattle.pc_token.specs.Lexeme.{Lexeme, LogicalLine}
use Rattle.pc_layout.specs.Spelling.{first_kind, first_byte, dataclass_decorator}
use Rattle.pc_layout.specs.Faults.{ReturnsNowhere, IsMisplaced, AreOpen, deepest, IsFault, code_rank}
use Rattle.pc_layout.specs.Layouts.{StandInOrder}
use Rattle.pc_layout.specs.Stepping.{step, after}
use Rattle.pc_layout.specs.Placing.{LayoutContext, Placement, in_def_of, placement, is_header, is_spelled}
use Rattle.pc_layout.proofs.Forests.{by_bool}
use Rattle.pc_layout.proofs.Placings.{Opens, Returns, placed_cases, placed_faults, step_ok, step_err, words_refused}
use Rattle.pc_layout.proofs.OpenSuites.{InDef, Defines, Tells, knows_top, inside_less, inside_more}
use Rattle.pc_layout.proofs.Following.{Follows, follows}
use Rattle.pc_layout.proofs.Positions.{placed_returns, placed_misplaced, placed_open, no_suite, no_colon}
use Rattle.pc_layout.proofs.Positions.{no_colon_returns, no_room, no_room_returns, no_room_misplaced}
use Rattle.pc_layout.proofs.WordFaults.{spelled_tells, header_tells, nested, inside, decorated, begins_wrong, keyword}
use Rattle.pc_layout.proofs.WordFaults.{operator, left_out, keyword_left, operator_left, IsWordFault, at_opening}
use Rattle.pc_layout.proofs.WordFaults.{at_token, found, none_found, found_least, CountsFirst, behind, contains_none}

-- a line that was placed knows whether it lies inside the suite of a `def`
knows_place : (before : List LogicalLine) (x : LayoutContext) (l : LogicalLine) (p : Placement) → Follows before x
    → Opens x l.column p ⊎ Returns x l.column p → Tells (in_def_of p.levels) (InDef l.column before)
knows_place before x l p f s = let g : Follows (l ∷ before) (after p l.lexemes) = follows before x l p f s in
    let t : Tells (in_def_of p.levels) (InDef l.column (l ∷ before)) = let r = knows_top (l ∷ before) p.levels
    g.knows in rw g.inner at r in
    record {
      yes = λ e. inside_less Defines l.column l before (omega arith) (t.yes e);
      back =
          λ h. t.back (inside_more Defines l.column l before (omega arith) h);
    }

-- a fault, by what is wrong
pub data FaultIs (len : ℕ) (before : List LogicalLine) (l : LogicalLine) (in_def : Bool) (code : RefusalCode)
    (byte : ℕ) : Type 0 where
  nowhere : ReturnsNowhere l before → FaultIs len before l in_def code byte
  misplaced : IsMisplaced l before → FaultIs len before l in_def code byte
  deep : AreOpen deepest (l ∷ before) → FaultIs len before l in_def code byte
  words : IsWordFault len in_def l.column l.lexemes code byte → FaultIs len before l in_def code byte

not_test : (b : Bool) (P : Type 0) → (b ≡ true → P) → (P → ⊥) → b ≡ false
not_test true P t n = absurd (n (t refl))
not_test false P t n = refl

module _ (len : ℕ) (before : List LogicalLine) (l : LogicalLine) (in_def : Bool)
    (t : Tells in_def (InDef l.column before)) where
  fault_is : (code : RefusalCode) (byte : ℕ) → IsFault len before l code byte → FaultIs len before l in_def code byte
  fault_is I1 byte h = nowhere h.0
  fault_is I2 byte h = misplaced h.0
  fault_is I3 byte h = deep h.0
  fault_is N1 byte (x, w, among, kind, left, not_header, at) = words (at_token (record {
    token = x;
    among = among;
    out = keyword_left (is_header l.column l.lexemes) x.kind w kind left (not_test _ _ (header_tells l).0 not_header);
    at = at;
  }))
  fault_is N2 byte (x, o, among, kind, left, at) = words (at_token (record {
    token = x;
    among = among;
    out = operator_left (is_header l.column l.lexemes) x.kind o kind left;
    at = at;
  }))
  fault_is N3 byte h = let e = h.0 in let d = t.back h.1 in words (at_opening (rw (e, d) refl) h.2)
  fault_is N4 byte h = let e = h.0 in let d : nat_lt 0 l.column ≡ true = elim (by_bool (nat_lt 0 l.column))
      [ inl u ↦ u | inr u ↦ absurd (omega (arith, ltb-false 0 l.column u, h.1)) ] in
      words (at_opening (rw (e, d) refl) h.2)
  fault_is N5 byte h = let e = h.0 in let d : is_spelled l.lexemes dataclass_decorator ≡ false =
      not_test _ _ (spelled_tells l.lexemes dataclass_decorator).0 h.1 in words (at_opening (rw (e, d) refl) h.2)
  fault_is _ byte h = absurd h

  word_fault_is : (code : RefusalCode) (byte : ℕ) → IsWordFault len in_def l.column l.lexemes code byte
      → IsFault len before l code byte
  word_fault_is code byte (at_opening e b) = elim (begins_wrong in_def l.column l.lexemes (first_kind l.lexemes) code e) [
    | nested o d q ↦ rw q (o, t.yes d, b)
    | inside o d q ↦ rw q (o, d, b)
    | decorated o d q ↦ rw q (
      o,
      (λ h. let u : is_spelled l.lexemes dataclass_decorator ≡ true =
          (spelled_tells l.lexemes dataclass_decorator).1 h in let v : true ≡ false = sym u ∙ d in cc),
      b,
    )
  ]
  word_fault_is code byte (at_token g) = elim (left_out (is_header l.column l.lexemes) g.token.kind code g.out) [
    | keyword w e s h q ↦ rw q (
      g.token,
      w,
      g.among,
      e,
      s,
      (λ i. let u : is_header l.column l.lexemes ≡ true =
          (header_tells l).1 i in let v : true ≡ false = sym u ∙ h in cc),
      g.at,
    )
    | operator o e s q ↦ rw q (g.token, o, g.among, e, s, g.at)
  ]

-- a fault counts before another, or beside it with a code that is no later
abbrev pub CountsBefore : Refusal → RefusalCode → ℕ → Type 0
CountsBefore r code byte = (r.byte < byte) ⊎ ((r.byte ≡ byte) × (code_rank r.code ≤ code_rank code))

counts_before : (r : Refusal) (code : RefusalCode) (byte : ℕ) → CountsFirst r code byte → CountsBefore r code byte
counts_before r code byte (inl h) = inl h
counts_before r code byte (inr h) = inr (h.0, omega (arith, ap code_rank h.1))

first_behind : (len from : ℕ) (xs : List Lexeme) (x : Lexeme) (byte : ℕ) → StandInOrder from xs → Contains xs x
    → byte ≡ x.place.start → first_byte len xs ≤ byte
first_behind len from [] x byte o h e = absurd (contains_none x h)
first_behind len from (y ∷ ys) x byte o h e = omega (
  arith,
  e,
  behind y.place.start (y ∷ ys) x (omega arith, o.1, o.2)
      h,
)

-- no fault of a line stands before its first token
fault_behind : (len from : ℕ) (before : List LogicalLine) (l : LogicalLine) (code : RefusalCode) (byte : ℕ)
    → StandInOrder from l.lexemes → IsFault len before l code byte → first_byte len l.lexemes ≤ byte
fault_behind len from before l I1 byte o h = omega (arith, h.1)
fault_behind len from before l I2 byte o h = omega (arith, h.1)
fault_behind len from before l I3 byte o h = omega (arith, h.1)
fault_behind len from before l N1 byte o (x, w, among, kind, left, not_header, at) = first_behind len from l.lexemes x
    byte o among at
fault_behind len from before l N2 byte o (x, w, among, kind, left, at) = first_behind len from l.lexemes x byte o among
    at
fault_behind len from before l N3 byte o h = omega (arith, h.2)
fault_behind len from before l N4 byte o h = omega (arith, h.2)
fault_behind len from before l N5 byte o h = omega (arith, h.2)
fault_behind len from before l _ byte o h = absurd h

-- the codes of a fault, from the lowest on
pub any_rank : (len : ℕ) (before : List LogicalLine) (l : LogicalLine) (code : RefusalCode) (byte : ℕ)
    → IsFault len before l code byte → 1 ≤ code_rank code
any_rank len before l I1 byte h = omega arith
any_rank len before l I2 byte h = omega arith
any_rank len before l I3 byte h = omega arith
any_rank len before l N1 byte h = omega arith
any_rank len before l N2 byte h = omega arith
any_rank len before l N3 byte h = omega arith
any_rank len before l N4 byte h = omega arith
any_rank len before l N5 byte h = omega arith
any_rank len before l _ byte h = absurd h

second_rank : (len : ℕ) (before : List LogicalLine) (l : LogicalLine) (code : RefusalCode) (byte : ℕ)
    → (ReturnsNowhere l before → ⊥) → IsFault len before l code byte → 2 ≤ code_rank code
second_rank len before l I1 byte n h = absurd (n h.0)
second_rank len before l I2 byte n h = omega arith
second_rank len before l I3 byte n h = omega arith
second_rank len before l N1 byte n h = omega arith
second_rank len before l N2 byte n h = omega arith
second_rank len before l N3 byte n h = omega arith
second_rank len before l N4 byte n h = omega arith
second_rank len before l N5 byte n h = omega arith
second_rank len before l _ byte n h = absurd h

third_rank : (len : ℕ) (before : List LogicalLine) (l : LogicalLine) (code : RefusalCode) (byte : ℕ)
    → (ReturnsNowhere l before → ⊥) → (IsMisplaced l before → ⊥) → IsFault len before l code byte → 3 ≤ code_rank code
third_rank len before l I1 byte n m h = absurd (n h.0)
third_rank len before l I2 byte n m h = absurd (m h.0)
third_rank len before l I3 byte n m h = omega arith
third_rank len before l N1 byte n m h = omega arith
third_rank len before l N2 byte n m h = omega arith
third_rank len before l N3 byte n m h = omega arith
third_rank len before l N4 byte n m h = omega arith
third_rank len before l N5 byte n m h = omega arith
third_rank len before l _ byte n m h = absurd h

by_order : (r : Refusal) (code : RefusalCode) (byte : ℕ) → r.byte ≤ byte → code_rank r.code ≤ code_rank code
    → CountsBefore r code byte
by_order r code byte le k = elim (cases_lt r.byte byte) [ inl lt ↦ inl lt | inr ge ↦ inr (omega arith, k) ]

module _ (len : ℕ) (before : List LogicalLine) (x : LayoutContext) (l : LogicalLine) (f : Follows before x) where
  -- a line that was placed, with words that are fine, has no fault
  pub line_clean : (p : Placement) → step len x l ≡ Ok p → (code : RefusalCode) (byte : ℕ)
      → IsFault len before l code byte → ⊥
  line_clean p e code byte h =
      let g = step_ok len x l p e in
      let s : Opens x l.column p ⊎ Returns x l.column p = placed_cases x l.column p g.0 in
      elim (fault_is len before l (in_def_of p.levels) (knows_place before x l p f s) code byte h) [
        | nowhere n ↦ placed_returns before x l f p s n
        | misplaced m ↦ placed_misplaced before x l f p s m
        | deep d ↦ placed_open before x l f p s d
        | words w ↦ none_found len (in_def_of p.levels) l.column l.lexemes code byte g.1 w
      ]

  position_refused : (r : Refusal) → placement x l.column ≡ Err r.code → r.byte ≡ first_byte len l.lexemes
      → IsFault len before l r.code r.byte
  position_refused r e b = elim (placed_faults x l.column r.code e) [
    | inl n ↦ rw n.code_is (no_suite before x l r.code f n, b)
    | inr o ↦ elim o [
      | inl n ↦ rw n.code_is (no_colon before x l r.code f n, b)
      | inr n ↦ rw n.code_is (no_room before x l r.code f n, b)
    ]
  ]

  position_least : (r : Refusal) → placement x l.column ≡ Err r.code → r.byte ≡ first_byte len l.lexemes →
      (from : ℕ) → StandInOrder from l.lexemes → (code : RefusalCode) (byte : ℕ) → IsFault len before l code byte
      → CountsBefore r code byte
  position_least r e b from o code byte h = by_order r code byte
      (omega (arith, b, fault_behind len from before l code byte o h)) (elim (placed_faults x l.column r.code e) [
        | inl n ↦ omega (arith, ap code_rank n.code_is, any_rank len before l code byte h)
        | inr q ↦ elim q [
          | inl n ↦ omega (
            arith,
            ap code_rank n.code_is,
            second_rank len before l code byte
                (no_colon_returns before x l r.code f n) h,
          )
          | inr n ↦ omega (
            arith,
            ap code_rank n.code_is,
            third_rank len before l code byte
                (no_room_returns before x l r.code f n) (no_room_misplaced before x l r.code f n) h,
          )
        ]
      ])

  -- a line that is refused has that fault
  pub line_refused : (r : Refusal) → step len x l ≡ Err r → IsFault len before l r.code r.byte
  line_refused r e = elim (step_err len x l r e) [
    | inl h ↦ position_refused r h.0 h.1
    | inr w ↦ elim w [
      | words_refused p g u ↦ word_fault_is len before l (in_def_of p.levels)
          (knows_place before x l p f (placed_cases x l.column p g)) r.code r.byte
          (found len (in_def_of p.levels) l.column l.lexemes r u)
    ]
  ]

  -- and none of its faults counts before it
  pub line_least : (r : Refusal) → step len x l ≡ Err r → (from : ℕ) → StandInOrder from l.lexemes
      → (code : RefusalCode) (byte : ℕ) → IsFault len before l code byte → CountsBefore r code byte
  line_least r e from o code byte h = elim (step_err len x l r e) [
    | inl g ↦ position_least r g.0 g.1 from o code byte h
    | inr w ↦ elim w [
      | words_refused p g u ↦
          let s : Opens x l.column p ⊎ Returns x l.column p = placed_cases x l.column p g in
          elim (fault_is len before l (in_def_of p.levels) (knows_place before x l p f s) code byte h) [
            | nowhere n ↦ absurd (placed_returns before x l f p s n)
            | misplaced m ↦ absurd (placed_misplaced before x l f p s m)
            | deep d ↦ absurd (placed_open before x l f p s d)
            | words w ↦ counts_before r code byte (found_least len (in_def_of p.levels) l.column from l.lexemes r code
                byte o u w)
          ]
    ]
  ]
