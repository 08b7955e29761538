-- At most one piece fits at a place.
use Rattle.std.proofs.Common.{◌≡◌, ℕ, List, [], ◌∷◌, ◌++◌, Bool, true, false, not, ◌⊎◌, length, take, get_or, refl, sym}
use Rattle.std.proofs.Common.{ap, ◌∙◌, inl, inr, arith}
use Rattle.std.specs.List.{prefix_len, list_all}
use Rattle.std.proofs.lemmas.Bool.{and_parts}
use Rattle.std.proofs.Math.Seq.{take-append_seam}
use Rattle.pc_token.specs.declared.token.TokenKind.{TokenKind}
use Rattle.pc_token.specs.declared.token.TokenKind.TheVariants as t
use Rattle.pc_token.specs.Context.{LexicalContext}
use Rattle.pc_token.specs.Gaps.{is_blank, is_line_byte, IsBlanks, IsLineEnd}
use Rattle.pc_token.specs.Splitting.{Sort, Blanks, Comment, LineEnd, Lexical, FitsBySort}
use Rattle.pc_token.proofs.OneLongest.{one_longest}
use Rattle.pc_token.proofs.Starts.{Start, Blank, Hash, Feed, start_of, start_of_kind, blank_start, hash_start}
use Rattle.pc_token.proofs.Starts.{feed_start, kind_start, some_token}

-- a run is all that passes at the front
pub run_is : (p : ℕ → Bool) (run rest : List ℕ) → list_all p run ≡ true → (length rest ≡ 0)
    ⊎ (p (get_or rest 0 0) ≡ false) → prefix_len p (run ++ rest) ≡ length run
run_is p [] [] all stop = refl
run_is p [] (c ∷ rest) all (inl none) = absurd (omega arith)
run_is p [] (c ∷ rest) all (inr stop) = rw stop
run_is p (c ∷ run) rest all stop =
    let (here, more) = and_parts (p c) (list_all p run) all in
    rw here (omega (arith, run_is p run rest more stop))

-- two runs at one place are one
one_run : (p : ℕ → Bool) (x y r s : List ℕ) → x ++ r ≡ y ++ s → list_all p x ≡ true → list_all p y ≡ true
    → (length r ≡ 0) ⊎ (p (get_or r 0 0) ≡ false) → (length s ≡ 0) ⊎ (p (get_or s 0 0) ≡ false) → x ≡ y
one_run p x y r s e all all' stop stop' =
    let len : length x ≡ length y = sym (run_is p x r all stop) ∙ ap (prefix_len p) e ∙ run_is p y s all' stop' in
    sym (take-append_seam x r) ∙ ap (take (length x)) e ∙ ap (λ n. take n (y ++ s)) len ∙ take-append_seam y s

line_byte_stops : (b : ℕ) → is_line_byte b ≡ true → not (is_line_byte b) ≡ false
line_byte_stops b h = rw h

comment_stops : (rest : List ℕ) → (length rest ≡ 0) ⊎ (is_line_byte (get_or rest 0 0) ≡ true) → (length rest ≡ 0)
    ⊎ (not (is_line_byte (get_or rest 0 0)) ≡ false)
comment_stops rest (inl none) = inl none
comment_stops rest (inr stop) = inr (line_byte_stops (get_or rest 0 0) stop)

pub first_blank : (bytes rest : List ℕ) → IsBlanks bytes rest → is_blank (get_or bytes 0 0) ≡ true
first_blank [] rest h = absurd (h.some refl)
first_blank (b ∷ bs) rest h = (and_parts (is_blank b) (list_all is_blank bs) h.blank).0

first_feed : (bytes : List ℕ) → IsLineEnd bytes → is_line_byte (get_or bytes 0 0) ≡ true
first_feed bytes (inl e) = ap (λ x. is_line_byte (get_or x 0 0)) e
first_feed bytes (inr e) = ap (λ x. is_line_byte (get_or x 0 0)) e

-- the start of a piece of this sort
abbrev pub start_of_sort : Sort → Start
start_of_sort Blanks = Blank
start_of_sort Comment = Hash
start_of_sort LineEnd = Feed
start_of_sort (Lexical kind) = start_of_kind kind

pub piece_start : (c : LexicalContext) (sort : Sort) (bytes rest : List ℕ) → FitsBySort c sort bytes rest
    → start_of (get_or bytes 0 0) ≡ start_of_sort sort
piece_start c Blanks bytes rest h = blank_start (get_or bytes 0 0) (first_blank bytes rest h.0)
piece_start c Comment bytes rest h = hash_start (get_or bytes 0 0) h.hash
piece_start c LineEnd bytes rest h = feed_start (get_or bytes 0 0) (first_feed bytes h)
piece_start c (Lexical kind) bytes rest h = kind_start kind bytes h.0.token

-- a piece has a byte
pub some_piece : (c : LexicalContext) (sort : Sort) (bytes rest : List ℕ) → FitsBySort c sort bytes rest
    → length bytes ≡ 0 → ⊥
some_piece c Blanks bytes rest h e = h.0.some e
some_piece c Comment [] rest h e = let hash = h.hash in cc
some_piece c Comment (b ∷ bs) rest h e = omega arith
some_piece c LineEnd bytes rest (inl is) e = omega (arith, ap length is)
some_piece c LineEnd bytes rest (inr is) e = omega (arith, ap length is)
some_piece c (Lexical kind) bytes rest h e = some_token kind bytes h.0.token e

pub first_of : (bytes rest : List ℕ) → (length bytes ≡ 0 → ⊥) → get_or (bytes ++ rest) 0 0 ≡ get_or bytes 0 0
first_of [] rest some = absurd (some refl)
first_of (b ∷ bs) rest some = refl

-- the start of the text is that of the sort of its first piece
pub text_start : (c : LexicalContext) (sort : Sort) (bytes rest : List ℕ) → FitsBySort c sort bytes rest
    → start_of (get_or (bytes ++ rest) 0 0) ≡ start_of_sort sort
text_start c sort bytes rest h = ap start_of (first_of bytes rest (some_piece c sort bytes rest h))
    ∙ piece_start c sort bytes rest h

one_line_end : (x y r s : List ℕ) → x ++ r ≡ y ++ s → IsLineEnd x → IsLineEnd y → x ≡ y
one_line_end x y r s e (inl h) (inl g) = h ∙ sym g
one_line_end x y r s e (inr h) (inr g) = h ∙ sym g
one_line_end x y r s e (inl h) (inr g) = let first : 10 ∷ r ≡ 13 ∷ 10 ∷ s = ap (λ z. z ++ r) (sym h) ∙ e
    ∙ ap (λ z. z ++ s) g in let no : ◌≡◌ {A = ℕ} 10 13 = ap (λ z. get_or z 0 0) first in absurd (omega (arith, no))
one_line_end x y r s e (inr h) (inl g) = let first : 13 ∷ 10 ∷ r ≡ 10 ∷ s = ap (λ z. z ++ r) (sym h) ∙ e
    ∙ ap (λ z. z ++ s) g in let no : ◌≡◌ {A = ℕ} 13 10 = ap (λ z. get_or z 0 0) first in absurd (omega (arith, no))

kind_blank : (kind : TokenKind) → start_of_kind kind ≡ Blank → ⊥
kind_blank t.Name e = cc
kind_blank t.Int e = cc
kind_blank t.Str e = cc
kind_blank (t.Keyword _) e = cc
kind_blank (t.Operator _) e = cc
kind_blank t.Newline e = cc
kind_blank t.Indent e = cc
kind_blank t.Dedent e = cc
kind_blank t.End e = cc

kind_hash : (kind : TokenKind) → start_of_kind kind ≡ Hash → ⊥
kind_hash t.Name e = cc
kind_hash t.Int e = cc
kind_hash t.Str e = cc
kind_hash (t.Keyword _) e = cc
kind_hash (t.Operator _) e = cc
kind_hash t.Newline e = cc
kind_hash t.Indent e = cc
kind_hash t.Dedent e = cc
kind_hash t.End e = cc

kind_feed : (kind : TokenKind) → start_of_kind kind ≡ Feed → ⊥
kind_feed t.Name e = cc
kind_feed t.Int e = cc
kind_feed t.Str e = cc
kind_feed (t.Keyword _) e = cc
kind_feed (t.Operator _) e = cc
kind_feed t.Newline e = cc
kind_feed t.Indent e = cc
kind_feed t.Dedent e = cc
kind_feed t.End e = cc

pub kind_no_gap : (kind : TokenKind) → (start_of_kind kind ≡ Blank → ⊥) × (start_of_kind kind ≡ Hash → ⊥)
    × (start_of_kind kind ≡ Feed → ⊥)
kind_no_gap kind = (kind_blank kind, kind_hash kind, kind_feed kind)

module _ (c : LexicalContext) (x y r s : List ℕ) (e : x ++ r ≡ y ++ s) where
  starts : (a b : Sort) → FitsBySort c a x r → FitsBySort c b y s → start_of_sort a ≡ start_of_sort b
  starts a b h g = sym (text_start c a x r h) ∙ ap (λ z. start_of (get_or z 0 0)) e ∙ text_start c b y s g

  -- two pieces at one place are one
  pub one_piece : (a b : Sort) → FitsBySort c a x r → FitsBySort c b y s → (a ≡ b) × (x ≡ y)
  one_piece Blanks Blanks h g = (refl, one_run is_blank x y r s e h.0.blank g.0.blank (inr h.0.all) (inr g.0.all))
  one_piece Comment Comment h g = (
    refl,
    one_run (λ b. not (is_line_byte b)) x y r s e h.inside g.inside
        (comment_stops r h.all) (comment_stops s g.all),
  )
  one_piece LineEnd LineEnd h g = (refl, one_line_end x y r s e h g)
  one_piece (Lexical k) (Lexical l) h g = let (same, bytes) = one_longest k l x y r s e h.0 g.0 in
      (ap (λ z. Lexical z) same, bytes)
  one_piece Blanks Comment h g = let same = starts Blanks Comment h g in let no : ⊥ = cc in absurd no
  one_piece Blanks LineEnd h g = let same = starts Blanks LineEnd h g in let no : ⊥ = cc in absurd no
  one_piece Comment Blanks h g = let same = starts Comment Blanks h g in let no : ⊥ = cc in absurd no
  one_piece Comment LineEnd h g = let same = starts Comment LineEnd h g in let no : ⊥ = cc in absurd no
  one_piece LineEnd Blanks h g = let same = starts LineEnd Blanks h g in let no : ⊥ = cc in absurd no
  one_piece LineEnd Comment h g = let same = starts LineEnd Comment h g in let no : ⊥ = cc in absurd no
  one_piece Blanks (Lexical l) h g = absurd ((kind_no_gap l).0 (sym (starts Blanks (Lexical l) h g)))
  one_piece Comment (Lexical l) h g = absurd ((kind_no_gap l).1 (sym (starts Comment (Lexical l) h g)))
  one_piece LineEnd (Lexical l) h g = absurd ((kind_no_gap l).2 (sym (starts LineEnd (Lexical l) h g)))
  one_piece (Lexical k) Blanks h g = absurd ((kind_no_gap k).0 (starts (Lexical k) Blanks h g))
  one_piece (Lexical k) Comment h g = absurd ((kind_no_gap k).1 (starts (Lexical k) Comment h g))
  one_piece (Lexical k) LineEnd h g = absurd ((kind_no_gap k).2 (starts (Lexical k) LineEnd h g))
