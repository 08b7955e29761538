-- The layout of lines within a text, and their refusal, lie within it.
use Rattle.std.proofs.Common.{◌≡◌, ℕ, zero, suc, ◌+◌, ◌-◌, ◌<◌, ◌≤◌, ◌⊎◌, Bool, true, false, if◌then◌else◌, List, []}
use Rattle.std.proofs.Common.{◌∷◌, ◌++◌, length, map, drop, Option, Some, None, Result, Ok, Err, refl, sym, ap, ◌∙◌}
use Rattle.std.proofs.Common.{subst, inl, inr, arith}
use Rattle.std.specs.Prelude.{nat_lt, ◌==◌, ◌&&◌, slice_index, position, MatchOption, IfErr, Contains}
use Rattle.std.specs.List.{slice_get}
use Rattle.std.specs.Borrow.{Bor}
use Rattle.std.specs.Option.{option_map_or}
use Rattle.std.proofs.lemmas.Bool.Decides.{leb_tells}
use Rattle.pc_source.specs.declared.place.Place.{Place}
use Rattle.pc_source.specs.declared.fault.Refusal.{Refusal}
use Rattle.pc_source.specs.declared.fault.RefusalCode.{RefusalCode}
use Rattle.pc_source.specs.declared.fault.RefusalCode.TheVariants.{I1, I2, I3, N1, N2, N3, N4, N5}
use Rattle.pc_source.specs.declared.fault.Fault.{Fault}
use Rattle.pc_source.specs.declared.fault.Fault.TheVariants.{Refused, OutOfMemory}
use Rattle.pc_source.specs.Answers.{OnRefusal}
use Rattle.pc_source.specs.Stream.{Yields, ComesAs, RefusesWithin}
use Rattle.pc_source.specs.Within.{StandsWithin, IsWithin}
use Rattle.pc_token.specs.declared.token.Line.{Line}
use Rattle.pc_token.specs.declared.token.Token.{Token}
use Rattle.pc_token.specs.declared.token.TokenKind.TheVariants.{Dedent}
use Rattle.pc_token.specs.Lexeme.{Lexeme, LogicalLine, logical_line_of}
use Rattle.pc_token.specs.Within.{AreWithin, LinesWithin}
use Rattle.pc_layout.specs.Spelling.{first_byte, last_byte}
use Rattle.pc_layout.specs.Faults.{IsFault, HasFault}
use Rattle.pc_layout.specs.Flat.{line_feed_from, line_end_at, line_end, newline, empty_token, starts_at, indented_lexemes}
use Rattle.pc_layout.specs.Flat.{flat_lexemes, flat}
use Rattle.pc_layout.specs.Forest.{Suite, nothing, line, lines_of}
use Rattle.pc_layout.specs.Layouts.{IsLayout}
use Rattle.pc_layout.specs.TokenIterator.Items.{line_item_of, token_item_of}
use Rattle.pc_layout.specs.Answering.{lines_came, fault_came, Refuses, ComesWhole, ComesFaulty, ComesRefused}
use Rattle.pc_layout.specs.Answering.{AnswersLines, LaysOut}
use Rattle.pc_layout.proofs.LineEnds.{stands}
use Rattle.pc_layout.proofs.WordFaults.{contains_none, contains_cases}

-- ---- tokens of lists

pub append : (len : ℕ) (xs ys : List Lexeme) → AreWithin len xs → AreWithin len ys → AreWithin len (xs ++ ys)
append len [] ys h g = g
append len (x ∷ xs) ys h g = (h.0, append len xs ys h.1 g)

join_lines : (len : ℕ) (ls ms : List LogicalLine) → LinesWithin len (ls ++ ms) → LinesWithin len ls × LinesWithin len ms
join_lines len [] ms h = (tt, h)
join_lines len (l ∷ ls) ms h = let r = join_lines len ls ms h.1 in ((h.0, r.0), r.1)

one_within : (len : ℕ) (xs : List Lexeme) (x : Lexeme) → AreWithin len xs → Contains xs x → StandsWithin len x.place
one_within len [] x h c = absurd (contains_none x c)
one_within len (y ∷ ys) x h c = elim (contains_cases y ys x c) [
  | inl e ↦ subst (λ (z : Lexeme). StandsWithin len z.place) e h.0
  | inr g ↦ one_within len ys x h.1 g
]

got_within : (len : ℕ) (xs : List Lexeme) (i : ℕ) (d : ℕ) → d ≤ len → AreWithin len xs
    → option_map_or (λ (x : Lexeme). x.place.end) (slice_get xs i) d ≤ len
got_within len [] i d le h = le
got_within len (x ∷ xs) zero d le h = h.0.1
got_within len (x ∷ xs) (suc i) d le h = got_within len xs i d le h.1

first_within : (len : ℕ) (xs : List Lexeme) → AreWithin len xs → first_byte len xs ≤ len
first_within len [] h = omega arith
first_within len (x ∷ xs) h = omega (arith, h.0.0, h.0.1)

last_within : (len : ℕ) (xs : List Lexeme) → AreWithin len xs → last_byte len xs ≤ len
last_within len xs h = got_within len xs (length xs - 1) len (omega arith) h

-- ---- the faults of lines

fault_within : (len : ℕ) (before : List LogicalLine) (l : LogicalLine) (code : RefusalCode) (byte : ℕ)
    → AreWithin len l.lexemes → IsFault len before l code byte → byte ≤ len
fault_within len before l I1 byte h f = omega (arith, f.1, first_within len l.lexemes h)
fault_within len before l I2 byte h f = omega (arith, f.1, first_within len l.lexemes h)
fault_within len before l I3 byte h f = omega (arith, f.1, first_within len l.lexemes h)
fault_within len before l N1 byte h (x, word, has, is, excluded, no_header, at) = let s = one_within len l.lexemes x h
    has in omega (arith, s.0, s.1, at)
fault_within len before l N2 byte h (x, operator, has, is, excluded, at) = let s = one_within len l.lexemes x h has in
    omega (arith, s.0, s.1, at)
fault_within len before l N3 byte h f = omega (arith, f.2, first_within len l.lexemes h)
fault_within len before l N4 byte h f = omega (arith, f.2, first_within len l.lexemes h)
fault_within len before l N5 byte h f = omega (arith, f.2, first_within len l.lexemes h)
fault_within len before l _ byte h f = absurd f

later_within : (len : ℕ) (before ls : List LogicalLine) (code : RefusalCode) (byte : ℕ) → LinesWithin len ls
    → HasFault len before ls code byte → byte ≤ len
later_within len before [] code byte h f = absurd f
later_within len before (l ∷ ls) code byte h (inl f) = fault_within len before l code byte h.0 f
later_within len before (l ∷ ls) code byte h (inr f) = later_within len (l ∷ before) ls code byte h.1 f

pub faults_within : (len : ℕ) (ls : List LogicalLine) (code : RefusalCode) (byte : ℕ) → LinesWithin len ls
    → HasFault len [] ls code byte → byte ≤ len
faults_within len ls code byte h f = later_within len [] ls code byte h f

-- ---- the tokens of a layout

feed_within : (text : List ℕ) (from : ℕ) → from ≤ length text → line_feed_from text from ≤ length text
feed_within text from le = by_found (position (λ b. b == 10) (drop from text)) refl
  where
    by_found : (o : Option ℕ) → o ≡ position (λ b. b == 10) (drop from text) → line_feed_from text from ≤ length text
    by_found None e = subst (λ z. option_map_or (λ n. from + n) z (length text) ≤ length text) e (omega arith)
    by_found (Some n) e = subst (λ z. option_map_or (λ n. from + n) z (length text) ≤ length text) e
        (omega (arith, (stands text from n le e).0))

shorter : (b c : Bool) (feed : ℕ) → (if b && c then feed - 1 else feed) ≤ (if b then feed + 1 else feed)
shorter true true feed = omega arith
shorter true false feed = omega arith
shorter false c feed = omega arith

longer : (b : Bool) (len feed : ℕ) → (b ≡ true → feed < len) → feed ≤ len → (if b then feed + 1 else feed) ≤ len
longer true len feed h le = omega (arith, h refl)
longer false len feed h le = le

lt_means : (a b : ℕ) → nat_lt a b ≡ true → a < b
lt_means a b e = by_tells (leb_tells (suc a) b)
  where
    by_tells : ((nat_lt a b ≡ true) × (suc a ≤ b)) ⊎ ((nat_lt a b ≡ false) × (b < suc a)) → a < b
    by_tells (inl x) = omega (arith, x.1)
    by_tells (inr x) = let other = x.0 in cc

line_end_within : (text : List ℕ) (from : ℕ) → from ≤ length text → StandsWithin (length text) (line_end text from)
line_end_within text from le =
    let feed = line_feed_from text from in (
      shorter (nat_lt feed (length text)) (nat_lt from feed && slice_index text (feed - 1) == 13) feed,
      longer (nat_lt feed (length text)) (length text) feed (lt_means feed (length text)) (feed_within text from le),
    )

starts_within : (text : List ℕ) (next : ℕ) (ls : List LogicalLine) → next ≤ length text → LinesWithin (length text) ls
    → starts_at text next ls ≤ length text
starts_within text next [] le h = le
starts_within text next (l ∷ ls) le h = first_within (length text) l.lexemes h.0

enclosed_within : (text : List ℕ) (ls : List LogicalLine) (next : ℕ) (ws : List Lexeme) → next ≤ length text
    → LinesWithin (length text) ls → AreWithin (length text) ws
    → AreWithin (length text) (indented_lexemes text ls next ws)
enclosed_within text [] next ws le h g = tt
enclosed_within text (l ∷ ls) next ws le h g = (
  (omega arith, first_within (length text) l.lexemes h.0),
  append (length text) ws (empty_token Dedent next ∷ []) g
      ((omega arith, le), tt),
)

written_within : (text : List ℕ) (s : Suite) (next : ℕ) → next ≤ length text → LinesWithin (length text) (lines_of s)
    → AreWithin (length text) (flat_lexemes text s next)
written_within text nothing next le h = tt
written_within text (line l deeper others) next le h =
    let both = join_lines (length text) (lines_of deeper) (lines_of others) h.1 in
    let at = starts_within text next (lines_of others) le both.1 in
    append (length text) (l.lexemes ++ newline text l.lexemes ∷ []) _
    (append (length text) l.lexemes (newline text l.lexemes ∷ []) h.0
    (line_end_within text (last_byte (length text) l.lexemes) (last_within (length text) l.lexemes h.0), tt))
    (append (length text) (indented_lexemes text (lines_of deeper) (starts_at text next (lines_of others))
    (flat_lexemes text deeper (starts_at text next (lines_of others)))) (flat_lexemes text others next)
    (enclosed_within text (lines_of deeper) (starts_at text next (lines_of others)) _ at both.0
    (written_within text deeper (starts_at text next (lines_of others)) at both.0))
    (written_within text others next le both.1))

pub layout_within : (text : List ℕ) (ls : List LogicalLine) (tokens : List Lexeme) → LinesWithin (length text) ls
    → IsLayout text ls tokens → AreWithin (length text) tokens
layout_within text ls tokens h g =
    let le : length text ≤ length text = omega arith in
    subst (λ ts. AreWithin (length text) ts) (sym g.written)
    (append (length text) (flat_lexemes text g.forest (length text)) _
    (written_within text g.forest (length text) le (subst (λ ms. LinesWithin (length text) ms) (sym g.its_lines) h))
    ((omega arith, le), tt))

-- ---- the result for lines

pub answer_within : {T : Type 0} (text : List ℕ) (ls : List LogicalLine) (r : Result T Fault)
    → LinesWithin (length text) ls → IfErr r (OnRefusal (Refuses text ls)) → IfErr r (IsWithin (length text))
answer_within text ls (Ok v) h f = tt
answer_within text ls (Err (Refused q)) h f = faults_within (length text) ls q.code q.byte h f.stands
answer_within text ls (Err OutOfMemory) h f = tt

same_fault : (ts : List (Token (Bor (List ℕ)))) (us : List Lexeme) (e f : Fault)
    → map token_item_of (map Ok ts ++ Err e ∷ []) ≡ map Ok us ++ Err f ∷ [] → e ≡ f
same_fault [] [] e f h = cc
same_fault [] (u ∷ us) e f h = cc
same_fault (t ∷ ts) [] e f h = cc
same_fault (t ∷ ts) (u ∷ us) e f h = same_fault ts us e f (cc)

no_whole : (ts : List (Token (Bor (List ℕ)))) (us : List Lexeme) (e : Fault)
    → map token_item_of (map Ok ts ++ Err e ∷ []) ≡ map Ok us → ⊥
no_whole [] [] e h = cc
no_whole [] (u ∷ us) e h = cc
no_whole (t ∷ ts) [] e h = cc
no_whole (t ∷ ts) (u ∷ us) e h = no_whole ts us e (cc)

refusal_is : (r q : Refusal) → Refused r ≡ Refused q → r ≡ q
refusal_is r q e = cc

module _ {I : Type 0} (steps : I → Option (Result Line Fault) → I → Type 0) where
  -- lines that came without a fault
  record AllCame (it : I) (ks : List (Result Line Fault)) : Type 0 where
    lines : List Line
    came : Yields steps it (map Ok lines)
    are : lines_came (map line_item_of ks) ≡ map logical_line_of lines

  all_came : (it : I) (ks : List (Result Line Fault)) → Yields steps it ks → fault_came (map line_item_of ks) ≡ None
      → AllCame it ks
  all_came it [] h e = record { lines = []; came = h; are = refl }
  all_came it (Ok l ∷ ks) (t, g, more) e = let r = all_came t ks more e in
      record { lines = l ∷ r.lines; came = (t, g, r.came); are = ap (λ z. logical_line_of l ∷ z) r.are }
  all_came it (Err f ∷ ks) h e = cc

  -- lines, and then a refusal
  refusal_came : (it : I) (ks : List (Result Line Fault)) (r : Refusal) → Yields steps it ks
      → fault_came (map line_item_of ks) ≡ Some (Refused r) →
      (ls : List Line) × Yields steps it (map Ok ls ++ Err (Refused r) ∷ [])
  refusal_came it [] r h e = cc
  refusal_came it (Ok l ∷ ks) r (t, g, more) e = let m = refusal_came t ks r more e in (l ∷ m.0, (t, g, m.1))
  refusal_came it (Err f ∷ ks) r (none, t, g) e = let same : f ≡ Refused r = cc in
      ([], subst (λ x. Yields steps it (Err x ∷ [])) same (refl, t, g))

  module _ {T : Type 0} (gives : T → Option (Result (Token (Bor (List ℕ))) Fault) → T → Type 0) (text : List ℕ) (it : I)
      (iterator : T) (lays : LaysOut steps gives text it iterator)
      (within : RefusesWithin steps (length text) it) (stand : ComesAs steps
      (λ ls. LinesWithin (length text) (map logical_line_of ls)) it) where
    by_fault : (ts : List (Token (Bor (List ℕ)))) (r : Refusal) (ks : List (Result Line Fault)) → Yields steps it ks
        → (o : Option Fault) → fault_came (map line_item_of ks) ≡ o →
        MatchOption o (ComesWhole text (lines_came (map line_item_of ks))
        (map token_item_of (map Ok ts ++ Err (Refused r) ∷ []))
        ⊎ ComesRefused text (lines_came (map line_item_of ks)) (map token_item_of
        (map Ok ts ++ Err (Refused r) ∷ []))) (ComesFaulty (map token_item_of (map Ok ts ++ Err (Refused r) ∷ [])))
        →
        r.byte ≤ length text
    by_fault ts r ks come (Some e) is h =
        let same : Refused r ≡ e = same_fault ts h.tokens (Refused r) e h.all in
        let c = refusal_came it ks r come (is ∙ ap Some (sym same)) in within c.0 r c.1
    by_fault ts r ks come None is (inl h) = absurd (no_whole ts h.tokens (Refused r) h.all)
    by_fault ts r ks come None is (inr h) =
        let same : r ≡ h.refusal = refusal_is r h.refusal (same_fault ts h.fault.tokens (Refused r) (Refused h.refusal)
        h.fault.all) in
        let c = all_came it ks come is in
        subst (λ (q : Refusal). q.byte ≤ length text) (sym same)
        (faults_within (length text) (lines_came (map line_item_of ks)) h.refusal.code h.refusal.byte
        (subst (λ ls. LinesWithin (length text) ls) (sym c.are) (stand c.lines c.came)) h.refuses.stands)

    pub lays_within : RefusesWithin gives (length text) iterator
    lays_within ts r come = let l = lays (map Ok ts ++ Err (Refused r) ∷ []) come in
        by_fault ts r l.0 l.1 (fault_came (map line_item_of l.0)) refl l.2
