-- Lines placed in order are a forest, and their tokens are the forest written flat.
use Rattle.std.proofs.Common.{◌≡◌, ◌⊎◌, ℕ, ◌<◌, ◌≤◌, ◌-◌, Bool, true, false, nat_lt, if◌then◌else◌, suc, List, [], ◌∷◌}
use Rattle.std.proofs.Common.{◌++◌, Result, Ok, length, map, refl, ap, sym, ◌∙◌, arith, inl, inr}
use Rattle.std.proofs.lemmas.List.{append-nil, append_assoc}
use Rattle.pc_source.specs.declared.fault.Fault.{Fault}
use Rattle.pc_token.specs.declared.token.TokenKind.TheVariants.{Dedent, Indent, End}
use Rattle.pc_token.specs.Lexeme.{Lexeme, LogicalLine}
use Rattle.pc_layout.specs.Spelling.{first_byte}
use Rattle.pc_layout.specs.Forest.{Suite, nothing, line, lines_of, IsSuite}
use Rattle.pc_layout.specs.Flat.{empty_token, newline, flat_lexemes, written_line, indented_lexemes, starts_at, flat}
use Rattle.pc_layout.specs.Stepping.{start, give, dedents, indents, placed_line, layout_lexemes, after, step}
use Rattle.pc_layout.specs.declared.levels.Level.{Level}
use Rattle.pc_layout.specs.Placing.{LayoutContext, Placement, column_of, levels_up_to}
use Rattle.pc_layout.proofs.Laying.{laid_end, laid_line}
use Rattle.pc_layout.proofs.Placings.{Opens, Returns, pushed, popped, placed_cases, step_ok}

-- tokens before tokens
pub give_append : (xs ys : List Lexeme) (o : List (Result Lexeme Fault)) → give xs (give ys o) ≡ give (xs ++ ys) o
give_append [] ys o = refl
give_append (x ∷ xs) ys o = ap (λ z. Ok x ∷ z) (give_append xs ys o)

-- the lines of suites, the innermost first
abbrev pub spine_lines : List Suite → List LogicalLine
spine_lines [] = []
spine_lines (s ∷ ss) = lines_of s ++ spine_lines ss

-- the rest of the open suites, the innermost first, and finally of column 0
abbrev pub IsSpine : List Level → List Suite → Type 0
IsSpine [] [] = ⊥
IsSpine [] (s ∷ []) = IsSuite 0 s
IsSpine [] (s ∷ t ∷ ss) = ⊥
IsSpine (v ∷ vs) [] = ⊥
IsSpine (v ∷ vs) (s ∷ ss) = IsSuite v.column s × IsSpine vs ss

-- the byte at which they begin
abbrev pub spine_start : List ℕ → List Suite → ℕ
spine_start text ss = starts_at text (length text) (spine_lines ss)

-- the token after a suite: the DEDENT before the next one, or END
abbrev pub then_written : List ℕ → List Suite → List Lexeme → List Lexeme
then_written text [] others = empty_token End (length text) ∷ []
then_written text (s ∷ ss) others = empty_token Dedent (spine_start text (s ∷ ss)) ∷ others

-- the rest of the open suites written flat
abbrev pub spine_written : List ℕ → List Suite → List Lexeme
spine_written text [] = []
spine_written text (s ∷ ss) = flat_lexemes text s (spine_start text ss) ++ then_written text ss (spine_written text ss)

-- a suite of some greater column
abbrev pub IsDeeper : ℕ → Suite → Type 0
IsDeeper c s = (d : ℕ) × (c < d) × IsSuite d s

starts_append : (text : List ℕ) (n : ℕ) (ks bs : List LogicalLine) → starts_at text n (ks ++ bs) ≡ starts_at text
    (starts_at text n bs) ks
starts_append text n [] bs = refl
starts_append text n (a ∷ ks) bs = refl

-- a deeper suite and what is left of the open ones, written flat
abbrev pub written_from : List ℕ → Suite → List Suite → List Lexeme
written_from text inner ss = indented_lexemes text (lines_of inner) (spine_start text ss)
    (flat_lexemes text inner (spine_start text ss)) ++ spine_written text ss

-- a line, the deeper suite after it and the rest of its suite are a suite
grown_spine : (vs : List Level) (l : LogicalLine) (inner s : Suite) (ss : List Suite) → l.column ≡ column_of vs
    → IsDeeper (column_of vs) inner → IsSpine vs (s ∷ ss) → IsSpine vs (line l inner s ∷ ss)
grown_spine [] l inner s [] e d h = (e, d, h)
grown_spine [] l inner s (t ∷ ss) e d h = absurd h
grown_spine (v ∷ vs) l inner s ss e d h = ((e, d, h.0), h.1)

grown_lines : (l : LogicalLine) (inner s : Suite) (ss : List Suite) → spine_lines (line l inner s ∷ ss) ≡ l
    ∷ (lines_of inner ++ spine_lines (s ∷ ss))
grown_lines l inner s ss = ap (λ z. l ∷ z) (append_assoc (lines_of inner) (lines_of s) (spine_lines ss))

grown_written : (text : List ℕ) (l : LogicalLine) (inner s : Suite) (ss : List Suite) →
    spine_written text (line l inner s ∷ ss) ≡ written_line text l.lexemes ++ written_from text inner (s ∷ ss)
grown_written text l inner s ss =
    let a : spine_start text (s ∷ ss) ≡ starts_at text (spine_start text ss) (lines_of s) =
    starts_append text (length text) (lines_of s) (spine_lines ss) in
    append_assoc (written_line text l.lexemes) _ _
    ∙ ap (λ z. written_line text l.lexemes ++ z) (append_assoc _ (flat_lexemes text s (spine_start text ss)) _)
    ∙ ap (λ n. written_line text l.lexemes ++ (indented_lexemes text (lines_of inner) n (flat_lexemes text inner n)
    ++ spine_written text (s ∷ ss))) (sym a)

pub by_bool : (b : Bool) → (b ≡ true) ⊎ (b ≡ false)
by_bool true = inl refl
by_bool false = inr refl

pub closing_shorter : (c : ℕ) (vs : List Level) → length (levels_up_to c vs) ≤ length vs
closing_shorter c [] = omega arith
closing_shorter c (v ∷ vs) = elim (by_bool (nat_lt c v.column)) [
  | inl t ↦ rw t (omega (arith, closing_shorter c vs))
  | inr f ↦ rw f (omega arith)
]

-- suites of which the first lines are these, and which are written so
pub record Spined (text : List ℕ) (vs : List Level) (ls : List LogicalLine) (xs : List Lexeme) : Type 0 where
  pub spine : List Suite
  pub suites : IsSpine vs spine
  pub its_lines : spine_lines spine ≡ ls
  pub written : spine_written text spine ≡ xs

then_dedent : (text : List ℕ) (vs : List Level) (ss : List Suite) (o : List Lexeme) → IsSpine vs ss
    → then_written text ss o ≡ empty_token Dedent (spine_start text ss) ∷ o
then_dedent text [] [] o h = absurd h
then_dedent text (v ∷ vs) [] o h = absurd h
then_dedent text vs (s ∷ ss) o h = refl

spine_some : (vs : List Level) → IsSpine vs [] → ⊥
spine_some [] h = h
spine_some (v ∷ vs) h = h

module _ (text : List ℕ) (c : ℕ) (l : LogicalLine) (inner s : Suite) (ss : List Suite) where
  abbrev pub after_closed : List LogicalLine
  after_closed = l ∷ (lines_of inner ++ spine_lines (s ∷ ss))

  abbrev pub closed_written : ℕ → List Lexeme
  closed_written n = dedents n (first_byte (length text) l.lexemes)
      ++ (written_line text l.lexemes ++ written_from text inner (s ∷ ss))

  one_more : (vs : List Level) (n : ℕ) (r : Spined text vs after_closed (closed_written n)) (v : Level) (m : ℕ)
      → m ≡ suc n → Spined text (v ∷ vs) after_closed (closed_written m)
  one_more vs n r v m e = record {
    spine = nothing ∷ r.spine;
    suites = (tt, r.suites);
    its_lines = r.its_lines;
    written = then_dedent text vs r.spine (spine_written text r.spine) r.suites
        ∙ ap (λ z. empty_token Dedent (starts_at text (length text) z) ∷ spine_written text r.spine) r.its_lines
        ∙ ap (λ z. empty_token Dedent (first_byte (length text) l.lexemes) ∷ z) r.written ∙ ap closed_written (sym e);
  }

  here : (vs : List Level) (m : ℕ) → m ≡ 0 → l.column ≡ c → column_of vs ≡ c → IsDeeper c inner → IsSpine vs (s ∷ ss)
      → Spined text vs after_closed (closed_written m)
  here vs m z e k d h = record {
    spine = line l inner s ∷ ss;
    suites = grown_spine vs l inner s ss (e ∙ sym k) (rw k d) h;
    its_lines = grown_lines l inner s ss;
    written = grown_written text l inner s ss ∙ ap closed_written (sym z);
  }

  closes_step : (v : Level) (vs : List Level) (b : Bool) →
      (column_of (levels_up_to c vs) ≡ c → IsSpine (levels_up_to c vs) (s ∷ ss)
      → Spined text vs after_closed (closed_written (length vs - length (levels_up_to c vs)))) →
      l.column ≡ c → column_of (if b then levels_up_to c vs else v ∷ vs) ≡ c → IsDeeper c inner
      → IsSpine (if b then levels_up_to c vs else v ∷ vs) (s ∷ ss) →
      Spined text (v ∷ vs) after_closed
      (closed_written (suc (length vs) - length (if b then levels_up_to c vs else v ∷ vs)))
  closes_step v vs true i e k d h = one_more vs _ (i k h) v _ (omega (arith, closing_shorter c vs))
  closes_step v vs false i e k d h = here (v ∷ vs) _ (omega arith) e k d h

  -- a line after which these suites go on, after those that it closes
  pub closes : (vs : List Level) → l.column ≡ c → column_of (levels_up_to c vs) ≡ c → IsDeeper c inner
      → IsSpine (levels_up_to c vs) (s ∷ ss) →
      Spined text vs after_closed (closed_written (length vs - length (levels_up_to c vs)))
  closes [] e k d h = here [] _ refl e k d h
  closes (v ∷ vs) e k d h = closes_step v vs (nat_lt c v.column) (λ k h. closes vs e k d h) e k d h

-- each line was placed
abbrev pub Walks : ℕ → LayoutContext → List LogicalLine → Type 0
Walks len x [] = Unit {0}
Walks len x (l ∷ ls) = (p : Placement) × (step len x l ≡ Ok p) × Walks len (after p l.lexemes) ls

-- lines as they came
abbrev pub came : List LogicalLine → List (Result LogicalLine Fault)
came ls = map Ok ls

-- lines that go on after open suites: a suite deeper than the innermost, and what is left of the open ones
pub record Grown (text : List ℕ) (x : LayoutContext) (ls : List LogicalLine) : Type 0 where
  pub inner : Suite
  pub spine : List Suite
  pub deeper : IsDeeper (column_of x.levels) inner
  pub suites : IsSpine x.levels spine
  pub its_lines : lines_of inner ++ spine_lines spine ≡ ls
  pub alone : x.after_colon ≡ false → inner ≡ nothing
  pub written : layout_lexemes text x (came ls) ≡ give (written_from text inner spine) []

nothing_spine : List Level → List Suite
nothing_spine [] = nothing ∷ []
nothing_spine (v ∷ vs) = nothing ∷ nothing_spine vs

nothing_is : (text : List ℕ) (vs : List Level) → Spined text vs []
    (dedents (length vs) (length text) ++ empty_token End (length text) ∷ [])
nothing_is text [] = record { spine = nothing ∷ []; suites = tt; its_lines = refl; written = refl }
nothing_is text (v ∷ vs) = let r : Spined text vs [] (dedents (length vs) (length text) ++ empty_token End (length text)
    ∷ []) = nothing_is text vs in record {
      spine = nothing ∷ r.spine;
      suites = (tt, r.suites);
      its_lines = r.its_lines;
      written = then_dedent text vs r.spine (spine_written text r.spine) r.suites
          ∙ ap (λ z. empty_token Dedent (starts_at text (length text) z) ∷ spine_written text r.spine) r.its_lines
          ∙ ap (λ z. empty_token Dedent (length text) ∷ z) r.written;
    }

grown_end : (text : List ℕ) (x : LayoutContext) → Grown text x []
grown_end text x = let r : Spined text x.levels [] (dedents (length x.levels) (length text) ++ empty_token End (length text)
    ∷ []) = nothing_is text x.levels in record {
      inner = nothing;
      spine = r.spine;
      deeper = (suc (column_of x.levels), omega arith, tt);
      suites = r.suites;
      its_lines = r.its_lines;
      alone = λ _. refl;
      written = laid_end text x ∙ give_append (dedents (length x.levels) (length text)) (empty_token End (length text) ∷ []) []
          ∙ ap (λ z. give z []) (sym r.written);
    }

-- the tokens of a placed line, in order
pub given_is : (text : List ℕ) (p : Placement) (xs rest : List Lexeme) (o : List (Result Lexeme Fault)) →
    placed_line text p xs (give rest o)
    ≡ give (dedents p.dedents (first_byte (length text) xs) ++ (indents p.indent (first_byte (length text) xs)
    ++ (written_line text xs ++ rest))) o
given_is text p xs rest o = let b : ℕ = first_byte (length text) xs in
    ap (λ z. give (dedents p.dedents b) (give (indents p.indent b) z)) (give_append xs (newline text xs ∷ rest) o
    ∙ ap (λ z. give z o) (sym (append_assoc xs (newline text xs ∷ []) rest)))
    ∙ ap (give (dedents p.dedents b)) (give_append (indents p.indent b) (written_line text xs ++ rest) o)
    ∙ give_append (dedents p.dedents b) (indents p.indent b ++ (written_line text xs ++ rest)) o

opens_parts : (text : List ℕ) (x : LayoutContext) (l : LogicalLine) (ls : List LogicalLine) (inner : Suite)
    (spine : List Suite) → step (length text) x l ≡ Ok (pushed x l.column) →
    column_of x.levels < l.column → x.after_colon ≡ true → IsDeeper l.column inner
    → IsSpine (pushed x l.column).levels spine → lines_of inner ++ spine_lines spine ≡ ls →
    layout_lexemes text (after (pushed x l.column) l.lexemes) (came ls) ≡ give (written_from text inner spine) []
    → Grown text x (l ∷ ls)
opens_parts text x l ls inner [] e lt colon d h q w = absurd h
opens_parts text x l ls inner (s ∷ ss) e lt colon d h q w = record {
  inner = line l inner s;
  spine = ss;
  deeper = (l.column, lt, (refl, d, h.0));
  suites = h.1;
  its_lines = grown_lines l inner s ss ∙ ap (λ z. l ∷ z) q;
  alone = λ f. absurd (let t : true ≡ false = sym colon ∙ f in cc);
  written = laid_line text x l (pushed x l.column) (came ls) e ∙ ap (placed_line text (pushed x l.column) l.lexemes) w
      ∙ given_is text (pushed x l.column) l.lexemes (written_from text inner (s ∷ ss)) []
      ∙ ap (λ z. give (empty_token Indent (first_byte (length text) l.lexemes) ∷ z) [])
      (sym (grown_written text l inner s ss)
      ∙ ap (λ z. flat_lexemes text (line l inner s) (spine_start text ss) ++ z)
      (then_dedent text x.levels ss (spine_written text ss) h.1)
      ∙ sym (append_assoc (flat_lexemes text (line l inner s) (spine_start text ss))
      (empty_token Dedent (spine_start text ss) ∷ []) (spine_written text ss)));
}

grown_opens : (text : List ℕ) (x : LayoutContext) (l : LogicalLine) (ls : List LogicalLine) (p : Placement)
    → step (length text) x l ≡ Ok p → Opens x l.column p →
    Grown text (after p l.lexemes) ls → Grown text x (l ∷ ls)
grown_opens text x l ls p e o g = let f = rw o.placed at e in let h = rw o.placed at g in
    opens_parts text x l ls h.inner h.spine f o.deeper o.colon h.deeper h.suites h.its_lines h.written

returns_parts : (text : List ℕ) (x : LayoutContext) (l : LogicalLine) (ls : List LogicalLine) (inner : Suite)
    (spine : List Suite) → step (length text) x l ≡ Ok (popped x l.column) →
    column_of (levels_up_to l.column x.levels) ≡ l.column → IsDeeper (column_of (levels_up_to l.column x.levels)) inner
    → IsSpine (levels_up_to l.column x.levels) spine → lines_of inner ++ spine_lines spine ≡ ls →
    layout_lexemes text (after (popped x l.column) l.lexemes) (came ls) ≡ give (written_from text inner spine) []
    → Grown text x (l ∷ ls)
returns_parts text x l ls inner [] e k d h q w = absurd (spine_some _ h)
returns_parts text x l ls inner (s ∷ ss) e k d h q w =
    let r : Spined text x.levels (after_closed text l.column l inner s ss)
    (closed_written text l.column l inner s ss (length x.levels - length (levels_up_to l.column x.levels))) =
    closes text l.column l inner s ss x.levels refl k (rw k at d) h in
    record {
      inner = nothing;
      spine = r.spine;
      deeper = (suc (column_of x.levels), omega arith, tt);
      suites = r.suites;
      its_lines = r.its_lines ∙ ap (λ z. l ∷ z) q;
      alone = λ _. refl;
      written = laid_line text x l (popped x l.column) (came ls) e ∙ ap (placed_line text (popped x l.column) l.lexemes)
          w
          ∙ given_is text (popped x l.column) l.lexemes (written_from text inner (s ∷ ss)) []
          ∙ ap (λ z. give z []) (sym r.written);
    }

grown_returns : (text : List ℕ) (x : LayoutContext) (l : LogicalLine) (ls : List LogicalLine) (p : Placement)
    → step (length text) x l ≡ Ok p → Returns x l.column p →
    Grown text (after p l.lexemes) ls → Grown text x (l ∷ ls)
grown_returns text x l ls p e o g = let f = rw o.placed at e in let h = rw o.placed at g in
    returns_parts text x l ls h.inner h.spine f o.there h.deeper h.suites h.its_lines h.written

pub grown : (text : List ℕ) (x : LayoutContext) (ls : List LogicalLine) → Walks (length text) x ls → Grown text x ls
grown text x [] w = grown_end text x
grown text x (l ∷ ls) (p, e, w) = elim (placed_cases x l.column p (step_ok (length text) x l p e).0) [
  | inl o ↦ grown_opens text x l ls p e o (grown text (after p l.lexemes) ls w)
  | inr o ↦ grown_returns text x l ls p e o (grown text (after p l.lexemes) ls w)
]

-- from the first line on: one forest of column 0
pub record Planted (text : List ℕ) (ls : List LogicalLine) : Type 0 where
  pub forest : Suite
  pub its_lines : lines_of forest ≡ ls
  pub suite : IsSuite 0 forest
  pub written : layout_lexemes text start (came ls) ≡ give (flat text forest) []

planted_parts : (text : List ℕ) (ls : List LogicalLine) (inner : Suite) (spine : List Suite) → inner ≡ nothing
    → IsSpine [] spine → lines_of inner ++ spine_lines spine ≡ ls →
    layout_lexemes text start (came ls) ≡ give (written_from text inner spine) [] → Planted text ls
planted_parts text ls inner [] n h q w = absurd h
planted_parts text ls inner (s ∷ t ∷ ss) n h q w = absurd h
planted_parts text ls inner (s ∷ []) n h q w = let p = rw n at q in let v = rw n at w in
    record { forest = s; its_lines = sym (append-nil (lines_of s)) ∙ p; suite = h; written = v }

pub planted : (text : List ℕ) (ls : List LogicalLine) → Walks (length text) start ls → Planted text ls
planted text ls w = let g : Grown text start ls = grown text start ls w in planted_parts text ls g.inner g.spine
    (g.alone refl) g.suites g.its_lines g.written
