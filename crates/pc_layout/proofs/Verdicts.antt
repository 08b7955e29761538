-- Lines are refused exactly where they have a fault, and with the fault that counts first; else they are laid out.
use Rattle.std.proofs.Common.{◌≡◌, ◌⊎◌, ℕ, ◌<◌, List, [], ◌∷◌, ◌++◌, Ok, Err, length, refl, ap, sym, ◌∙◌, inl, inr}
use Rattle.std.proofs.Common.{arith}
use Rattle.std.specs.List.{Contains}
use Rattle.std.proofs.lemmas.List.Elements.{Contains-append_left, Contains-append_right}
use Rattle.pc_source.specs.declared.fault.Refusal.{Refusal}
use Rattle.pc_source.specs.declared.fault.RefusalCode.{RefusalCode}
use Rattle.pc_source.specs.declared.fault.RefusalCode.TheVariants.{I1, I2, I3, N1, N2, N3, N4, N5}
use Rattle.pc_source.specs.declared.fault.Fault.{Fault}
use Rattle.pc_source.specs.declared.fault.Fault.TheVariants.{Refused}
use Rattle.pc_token.specs.Lexeme.{Lexeme, LogicalLine}
use Rattle.pc_layout.specs.Spelling.{first_byte}
use Rattle.pc_layout.specs.Faults.{IsFault, HasFault, IsLayoutRefusal}
use Rattle.pc_layout.specs.Flat.{flat, written_line}
use Rattle.pc_layout.specs.Layouts.{IsLayout, StandInOrder, all_lexemes, HaveTokens, AreInOrder}
use Rattle.pc_layout.specs.Stepping.{step, after, start, give, layout_lexemes, outrank, placed_line, dedents, indents}
use Rattle.pc_layout.specs.Placing.{LayoutContext, Placement}
use Rattle.pc_layout.proofs.Laying.{laid_line, laid_refused}
use Rattle.pc_layout.proofs.Placings.{placed_cases, step_ok}
use Rattle.pc_layout.proofs.Forests.{Walks, came, planted, Planted, given_is}
use Rattle.pc_layout.proofs.Following.{Follows, follows, follows_start}
use Rattle.pc_layout.proofs.LineVerdicts.{CountsBefore, line_clean, line_refused, line_least}
use Rattle.pc_layout.proofs.WordFaults.{contains_none, contains_first, contains_cases, behind}

-- the first line that is not placed is refused so
abbrev pub RefusedAt : ℕ → LayoutContext → List LogicalLine → Refusal → Type 0
RefusedAt len x [] r = ⊥
RefusedAt len x (l ∷ ls) r = (step len x l ≡ Err r) ⊎ ((p : Placement) × (step len x l ≡ Ok p)
    × RefusedAt len (after p l.lexemes) ls r)

-- every line is placed, or one is refused
pub verdict : (len : ℕ) (x : LayoutContext) (ls : List LogicalLine) → Walks len x ls
    ⊎ ((r : Refusal) × RefusedAt len x ls r)
verdict len x [] = inl tt
verdict len x (l ∷ ls) = elim (step len x l) as (λ o. step len x l ≡ o → Walks len x (l ∷ ls)
    ⊎ ((r : Refusal) × RefusedAt len x (l ∷ ls) r)) [
      | Ok p ↦ λ e. elim (verdict len (after p l.lexemes) ls) [
        | inl w ↦ inl (p, e, w)
        | inr w ↦ inr (w.0, inr (p, e, w.1))
      ]
      | Err r ↦ λ e. inr (r, inl e)
    ] refl

refused_fault : (len : ℕ) (before : List LogicalLine) (x : LayoutContext) (ls : List LogicalLine) (r : Refusal)
    → Follows before x → RefusedAt len x ls r → HasFault len before ls r.code r.byte
refused_fault len before x [] r f h = absurd h
refused_fault len before x (l ∷ ls) r f (inl e) = inl (line_refused len before x l f r e)
refused_fault len before x (l ∷ ls) r f (inr (p, e, h)) = inr
    (refused_fault len (l ∷ before) (after p l.lexemes) ls r (follows before x l p f
    (placed_cases x l.column p (step_ok len x l p e).0)) h)

walked_clean : (len : ℕ) (before : List LogicalLine) (x : LayoutContext) (ls : List LogicalLine) → Follows before x
    → Walks len x ls → (code : RefusalCode) (byte : ℕ) → HasFault len before ls code byte → ⊥
walked_clean len before x [] f w code byte h = h
walked_clean len before x (l ∷ ls) f (p, e, w) code byte (inl h) = line_clean len before x l f p e code byte h
walked_clean len before x (l ∷ ls) f (p, e, w) code byte (inr h) = walked_clean len (l ∷ before) (after p l.lexemes) ls
    (follows before x l p f (placed_cases x l.column p (step_ok len x l p e).0)) w code byte h

-- a token at which a fault stands
abbrev pub TokenAt : List Lexeme → ℕ → Type 0
TokenAt xs byte = (x : Lexeme) × Contains xs x × (byte ≡ x.place.start)

first_token : (len : ℕ) (xs : List Lexeme) (byte : ℕ) → 0 < length xs → byte ≡ first_byte len xs → TokenAt xs byte
first_token len [] byte n e = absurd (omega arith)
first_token len (x ∷ xs) byte n e = (x, contains_first x xs, e)

fault_token : (len : ℕ) (before : List LogicalLine) (l : LogicalLine) (code : RefusalCode) (byte : ℕ)
    → 0 < length l.lexemes → IsFault len before l code byte → TokenAt l.lexemes byte
fault_token len before l I1 byte n h = first_token len l.lexemes byte n h.1
fault_token len before l I2 byte n h = first_token len l.lexemes byte n h.1
fault_token len before l I3 byte n h = first_token len l.lexemes byte n h.1
fault_token len before l N1 byte n (x, w, among, kind, left, not_header, at) = (x, among, at)
fault_token len before l N2 byte n (x, w, among, kind, left, at) = (x, among, at)
fault_token len before l N3 byte n h = first_token len l.lexemes byte n h.2
fault_token len before l N4 byte n h = first_token len l.lexemes byte n h.2
fault_token len before l N5 byte n h = first_token len l.lexemes byte n h.2
fault_token len before l _ byte n h = absurd h

pub later_token : (len : ℕ) (before : List LogicalLine) (ls : List LogicalLine) (code : RefusalCode) (byte : ℕ)
    → HaveTokens ls → HasFault len before ls code byte → TokenAt (all_lexemes ls) byte
later_token len before [] code byte n h = absurd h
later_token len before (l ∷ ls) code byte n (inl h) = let t : TokenAt l.lexemes byte = fault_token len before l code
    byte n.0 h in (t.0, Contains-append_left l.lexemes (all_lexemes ls) t.0 t.1, t.2)
later_token len before (l ∷ ls) code byte n (inr h) = let t : TokenAt (all_lexemes ls) byte =
    later_token len (l ∷ before) ls code byte n.1 h in (
      t.0,
      Contains-append_right l.lexemes (all_lexemes ls) t.0 t.1,
      t.2,
    )

order_left : (from : ℕ) (xs ys : List Lexeme) → StandInOrder from (xs ++ ys) → StandInOrder from xs
order_left from [] ys o = tt
order_left from (x ∷ xs) ys o = (o.0, o.1, order_left x.place.end xs ys o.2)

order_right : (from : ℕ) (xs ys : List Lexeme) → StandInOrder from (xs ++ ys) → (m : ℕ) × StandInOrder m ys
order_right from [] ys o = (from, o)
order_right from (x ∷ xs) ys o = order_right x.place.end xs ys o.2

order_apart : (from : ℕ) (xs ys : List Lexeme) (x y : Lexeme) → StandInOrder from (xs ++ ys) → Contains xs x
    → Contains ys y → x.place.start < y.place.start
order_apart from [] ys x y o h i = absurd (contains_none x h)
order_apart from (z ∷ zs) ys x y o h i = elim (contains_cases z zs x h) [
  | inl e ↦ omega (
    arith,
    ap (λ (z : Lexeme). z.place.start) e,
    o.1,
    behind z.place.end (zs ++ ys) y o.2
        (Contains-append_right zs ys y i),
  )
  | inr g ↦ order_apart z.place.end zs ys x y o.2 g i
]

refused_least : (len from : ℕ) (before : List LogicalLine) (x : LayoutContext) (ls : List LogicalLine) (r : Refusal)
    → Follows before x → RefusedAt len x ls r → HaveTokens ls → StandInOrder from (all_lexemes ls) →
    (code : RefusalCode) (byte : ℕ) → HasFault len before ls code byte → CountsBefore r code byte
refused_least len from before x [] r f h n o code byte g = absurd h
refused_least len from before x (l ∷ ls) r f (inl e) n o code byte (inl g) = line_least len before x l f r e from
    (order_left from l.lexemes (all_lexemes ls) o) code byte g
refused_least len from before x (l ∷ ls) r f (inl e) n o code byte (inr g) =
    let a : TokenAt l.lexemes r.byte = fault_token len before l r.code r.byte n.0 (line_refused len before x l f r e) in
    let b : TokenAt (all_lexemes ls) byte = later_token len (l ∷ before) ls code byte n.1 g in
    inl (omega (arith, a.2, b.2, order_apart from l.lexemes (all_lexemes ls) a.0 b.0 o a.1 b.1))
refused_least len from before x (l ∷ ls) r f (inr (p, e, h)) n o code byte (inl g) =
    absurd (line_clean len before x l f p e code byte g)
refused_least len from before x (l ∷ ls) r f (inr (p, e, h)) n o code byte (inr g) = let m : (m : ℕ)
    × StandInOrder m (all_lexemes ls) = order_right from l.lexemes (all_lexemes ls) o in
    refused_least len m.0 (l ∷ before) (after p l.lexemes) ls r
    (follows before x l p f (placed_cases x l.column p (step_ok len x l p e).0)) h n.1 m.1 code byte g

settle_came : (r : Refusal) (ls : List LogicalLine) → outrank r (came ls) ≡ Refused r
settle_came r [] = refl
settle_came r (l ∷ ls) = settle_came r ls

-- some tokens, and then the refusal
pub refused_given : (text : List ℕ) (x : LayoutContext) (ls : List LogicalLine) (r : Refusal)
    → RefusedAt (length text) x ls r → (front : List Lexeme)
    × (layout_lexemes text x (came ls) ≡ give front (Err (Refused r) ∷ []))
refused_given text x [] r h = absurd h
refused_given text x (l ∷ ls) r (inl e) = (
  [],
  laid_refused text x l r (came ls) e
      ∙ ap (λ z. Err z ∷ []) (settle_came r ls),
)
refused_given text x (l ∷ ls) r (inr (p, e, h)) = let g : (front : List Lexeme)
    × (layout_lexemes text (after p l.lexemes) (came ls) ≡ give front (Err (Refused r) ∷ [])) =
    refused_given text (after p l.lexemes) ls r h in (
      dedents p.dedents (first_byte (length text) l.lexemes) ++ (indents p.indent (first_byte (length text) l.lexemes)
          ++ (written_line text l.lexemes ++ g.0)),
      laid_line text x l p (came ls) e ∙ ap (placed_line text p l.lexemes) g.1
          ∙ given_is text p l.lexemes g.0 (Err (Refused r) ∷ []),
    )

give_same : (xs ys : List Lexeme) → give xs [] ≡ give ys [] → xs ≡ ys
give_same [] [] e = refl
give_same [] (y ∷ ys) e = absurd (cc)
give_same (x ∷ xs) [] e = absurd (cc)
give_same (x ∷ xs) (y ∷ ys) e = let a : x ≡ y = cc in let b : give xs [] ≡ give ys [] = cc in let c : xs ≡ ys =
    give_same xs ys b in cc

pub give_fault : (xs ys : List Lexeme) (e : Fault) → give xs [] ≡ give ys (Err e ∷ []) → ⊥
give_fault [] [] f e = cc
give_fault [] (y ∷ ys) f e = cc
give_fault (x ∷ xs) [] f e = cc
give_fault (x ∷ xs) (y ∷ ys) f e = give_fault xs ys f (cc)

pub same_fault : (xs ys : List Lexeme) (e f : Fault) → give xs (Err e ∷ []) ≡ give ys (Err f ∷ []) → e ≡ f
same_fault [] [] e f q = cc
same_fault [] (y ∷ ys) e f q = absurd (cc)
same_fault (x ∷ xs) [] e f q = absurd (cc)
same_fault (x ∷ xs) (y ∷ ys) e f q = same_fault xs ys e f (cc)

-- where all is given, it is the layout
pub laid_out : (text : List ℕ) (ls : List LogicalLine) (ts : List Lexeme) → layout_lexemes text start (came ls)
    ≡ give ts [] → IsLayout text ls ts
laid_out text ls ts e = elim (verdict (length text) start ls) [
  | inl w ↦ let g : Planted text ls = planted text ls w in record {
    forest = g.forest;
    its_lines = g.its_lines;
    suite = g.suite;
    faultless = λ code byte h. walked_clean (length text) [] start ls follows_start w code byte h;
    written = give_same ts (flat text g.forest) (sym e ∙ g.written);
  }
  | inr w ↦ let g : (front : List Lexeme) × (layout_lexemes text start (came ls)
      ≡ give front (Err (Refused w.0) ∷ [])) = refused_given text start ls w.0 w.1 in
      absurd (give_fault ts g.0 (Refused w.0) (sym e ∙ g.1))
]

-- the fault that is given
pub record IsGivenFault (text : List ℕ) (ls : List LogicalLine) (e : Fault) : Type 0 where
  pub refusal : Refusal
  pub fault : e ≡ Refused refusal
  pub stands : HasFault (length text) [] ls refusal.code refusal.byte
  pub least : AreInOrder ls → IsLayoutRefusal (length text) ls refusal

pub laid_wrong : (text : List ℕ) (ls : List LogicalLine) (ts : List Lexeme) (e : Fault)
    → layout_lexemes text start (came ls) ≡ give ts (Err e ∷ []) → IsGivenFault text ls e
laid_wrong text ls ts e q = elim (verdict (length text) start ls) [
  | inl w ↦ let g : Planted text ls = planted text ls w in absurd
      (give_fault (flat text g.forest) ts e (sym g.written ∙ q))
  | inr w ↦ let g : (front : List Lexeme) × (layout_lexemes text start (came ls)
      ≡ give front (Err (Refused w.0) ∷ [])) = refused_given text start ls w.0 w.1 in
      let h : HasFault (length text) [] ls (w.0).code (w.0).byte = refused_fault (length text) [] start ls w.0
      follows_start w.1 in
      record {
        refusal = w.0;
        fault = same_fault ts g.0 e (Refused w.0) (sym q ∙ g.1);
        stands = h;
        least = λ o. record {
          fault = h;
          least = λ code byte i. refused_least (length text) 0 [] start ls w.0
              follows_start w.1 o.tokens o.order code byte i;
        };
      }
]
