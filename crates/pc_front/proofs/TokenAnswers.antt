-- A text splits into pieces up to its end or to a fault. By contradiction: it is shown that there cannot be no split.
use Rattle.std.proofs.Common.{◌≡◌, ℕ, zero, suc, ◌<◌, ◌≤◌, ◌+◌, List, [], ◌∷◌, ◌++◌, Bool, true, false, not, ◌==◌, ◌⊎◌}
use Rattle.std.proofs.Common.{◌||◌, ◌&&◌, length, take, drop, get_or, refl, sym, ap, ◌∙◌, inl, inr, arith}
use Rattle.std.proofs.Common.{append_assoc, length-append}
use Rattle.std.specs.Prelude.{Some, None}
use Rattle.std.specs.Char.{is_ascii_digit}
use Rattle.std.specs.List.{list_all, prefix_len}
use Rattle.std.proofs.lemmas.Bool.{and_parts, eqb-false}
use Rattle.std.proofs.lemmas.List.{append-nil}
use Rattle.std.proofs.Math.Seq.{take-append_seam, drop-append_seam}
use Rattle.pc_source.specs.declared.fault.RefusalCode.{RefusalCode}
use Rattle.pc_source.specs.declared.fault.RefusalCode.TheVariants.{L1, L2, L3, L4, L5, L6, L7, L8}
use Rattle.pc_token.specs.declared.token.Operator.{Operator}
use Rattle.pc_token.specs.declared.token.Operator.TheVariants as sign
use Rattle.pc_token.specs.declared.token.TokenKind.{TokenKind}
use Rattle.pc_token.specs.declared.token.TokenKind.TheVariants as t
use Rattle.pc_token.specs.Context.{LexicalContext, touches_word}
use Rattle.pc_token.specs.Faults.{IsFault, innermost, bracket_limit}
use Rattle.pc_token.specs.Gaps.{is_blank, is_line_byte, starts_line_end, ends_line, after_blanks}
use Rattle.pc_token.specs.Names.{is_bad_name}
use Rattle.pc_token.specs.Numbers.{is_number_byte, number_run, is_bad_number, is_bad_point, digit_count, digit_limit}
use Rattle.pc_token.specs.Operators.{operator_text, role_of}
use Rattle.pc_token.specs.Spelling.{IsToken, IsLongest}
use Rattle.pc_token.specs.Splitting.{Sort, Blanks, Comment, LineEnd, Lexical, Piece, FitsBySort, after_sort, SplitEnd}
use Rattle.pc_token.specs.Splitting.{Whole, Faulty, Splits, MayOpenOrClose}
use Rattle.pc_token.specs.Strings.{is_quote, IsString, is_tripled}
use Rattle.pc_token.proofs.OneFault.{number_same}
use Rattle.pc_token.proofs.OnePiece.{run_is, some_piece}
use Rattle.pc_front.proofs.NumberRuns.{number_digit, number_bytes}
use Rattle.pc_front.proofs.Runs.{Run, run_at, passes, counted, at_seam}
use Rattle.pc_front.proofs.SourceAnswers.{cases, order}

-- a byte is blank and no space: it is a tab
tab_is : (b : ℕ) → is_blank b ≡ true → (b == 32) ≡ false → b ≡ 9
tab_is b h other = number_same b 9 (sym (ap (λ x. x || (b == 9)) other) ∙ h)

-- ---- the longest token at a place

-- a longer token
record Longer (bytes rest : List ℕ) : Type 0 where
  kind : TokenKind
  byte : ℕ
  more : List ℕ
  after : List ℕ
  is : rest ≡ (byte ∷ more) ++ after
  token : IsToken kind (bytes ++ byte ∷ more)

none_longer : (bytes rest : List ℕ) → ¬ (Longer bytes rest) → (other : TokenKind) (more after : List ℕ)
    → rest ≡ more ++ after → IsToken other (bytes ++ more) → more ≡ []
none_longer bytes rest h other [] after e k = refl
none_longer bytes rest h other (b ∷ more) after e k = absurd (h (record {
  kind = other;
  byte = b;
  more = more;
  after = after;
  is = e;
  token = k;
}))

module _ (text : List ℕ) (none : (kind : TokenKind) (bytes rest : List ℕ) → text ≡ bytes ++ rest
    → ¬ (IsLongest kind bytes rest)) where
  alone : (kind : TokenKind) (bytes rest : List ℕ) → text ≡ bytes ++ rest → IsToken kind bytes
      → ¬ (Longer bytes rest) → ⊥
  alone kind bytes rest is token h = none kind bytes rest is
      (record { token = token; longest = none_longer bytes rest h })

  -- a token cannot be without a longest one
  no_token : (n : ℕ) (kind : TokenKind) (bytes rest : List ℕ) → text ≡ bytes ++ rest → length rest ≤ n
      → IsToken kind bytes → ⊥
  no_token zero kind bytes rest is low token = cases {A = Longer bytes rest}
      (λ l. absurd (omega (arith, low, ap length l.is))) (alone kind bytes rest is token)
  no_token (suc n) kind bytes rest is low token = cases {A = Longer bytes rest}
      (λ l. no_token n l.kind (bytes ++ l.byte ∷ l.more) l.after
      (is ∙ ap (λ x. bytes ++ x) l.is ∙ sym (append_assoc bytes (l.byte ∷ l.more) l.after))
      (omega (arith, low, ap length l.is, length-append (l.byte ∷ l.more) l.after)) l.token)
      (alone kind bytes rest is token)

-- a byte inside a comment
abbrev is_inside : ℕ → Bool
is_inside b = not (is_line_byte b)

not_false : (v : Bool) → not v ≡ false → v ≡ true
not_false true e = refl
not_false false e = cc

stopped : (rest : List ℕ) → (length rest ≡ 0) ⊎ (is_inside (get_or rest 0 0) ≡ false)
    → (length rest ≡ 0) ⊎ (is_line_byte (get_or rest 0 0) ≡ true)
stopped rest (inl h) = inl h
stopped rest (inr h) = inr (not_false (is_line_byte (get_or rest 0 0)) h)

unblank : (rest : List ℕ) → (length rest ≡ 0) ⊎ (is_blank (get_or rest 0 0) ≡ false)
    → is_blank (get_or rest 0 0) ≡ false
unblank [] h = refl
unblank (b ∷ bs) (inl h) = absurd (omega (arith, h))
unblank (b ∷ bs) (inr h) = h

-- ---- pieces and faults at a place where there is no split

module _ (c : LexicalContext) (text : List ℕ) (most : ℕ) (short : length text ≤ suc most)
    (onward : (d : LexicalContext) (rest : List ℕ) → length rest ≤ most
    → ¬ ((ps : List Piece) (ending : SplitEnd) → ¬ (Splits d ps rest ending)))
    (none : (ps : List Piece) (ending : SplitEnd) → ¬ (Splits c ps text ending)) where
  -- no piece fits, since the rest after it splits
  piece : (sort : Sort) (bytes rest : List ℕ) → text ≡ bytes ++ rest → FitsBySort c sort bytes rest → ⊥
  piece sort bytes rest is fits =
      let some = some_piece c sort bytes rest fits in
      let shorter : length rest ≤ most = less (length bytes) some (ap length is ∙ length-append bytes rest) in
      onward (after_sort c sort bytes) rest shorter
      (λ ps ending h. none (record { sort = sort; bytes = bytes } ∷ ps) ending (rest, is, fits, h))
    where
      less : (n : ℕ) → (n ≡ 0 → ⊥) → length text ≡ n + length rest → length rest ≤ most
      less zero some e = absurd (some refl)
      less (suc n) some e = omega (arith, short, e)

  fault : (code : RefusalCode) (k : ℕ) → IsFault c text code k → ⊥
  fault code k h = none [] (Faulty code k) h

  -- ---- gaps

  tab : (bytes rest : List ℕ) → text ≡ bytes ++ rest → list_all is_blank bytes ≡ true
      → is_blank (get_or rest 0 0) ≡ false → c.last ≡ None → ends_line rest ≡ false
      → list_all (λ b. b == 32) bytes ≡ false → ⊥
  tab bytes rest is blank stop fresh ends uneven = found (run_at (λ b. b == 32) bytes)
    where
      all_blank : after_blanks text ≡ rest
      all_blank = ap (λ n. drop n text) (ap (prefix_len is_blank) is
          ∙ run_is is_blank bytes rest blank (inr stop)) ∙ ap (drop (length bytes)) is ∙ drop-append_seam bytes rest

      at_tab : (spaces : List ℕ) (b : ℕ) (others : List ℕ) → bytes ≡ spaces ++ b ∷ others
          → list_all (λ x. x == 32) spaces ≡ true → (b == 32) ≡ false → ⊥
      at_tab spaces b others e even other =
          let whole : text ≡ spaces ++ b ∷ (others ++ rest) = is ∙ ap (λ x. x ++ rest) e
          ∙ append_assoc spaces (b ∷ others) rest in
          let tabbed : b ≡ 9 = tab_is b (passes is_blank spaces b others (ap (list_all is_blank) (sym e) ∙ blank)) other in
          let size : length text ≡ length spaces + length (b ∷ (others ++ rest)) = ap length whole
          ∙ length-append spaces (b ∷ (others ++ rest)) in
          fault L7 (length spaces) (record {
            fresh = fresh;
            spaces = ap (list_all (λ x. x == 32)) (ap (take (length spaces)) whole
                ∙ take-append_seam spaces (b ∷ (others ++ rest))) ∙ even;
            within = omega (arith, size);
            tab = ap (λ x. get_or x (length spaces) 0) whole ∙ at_seam spaces b (others ++ rest) ∙ tabbed;
            more = ap ends_line all_blank ∙ ends;
          })

      found : Run (λ b. b == 32) bytes → ⊥
      found run = by_rest run.rest run.is run.stop
        where
          by_rest : (others : List ℕ) → bytes ≡ run.bytes ++ others → (length others ≡ 0)
              ⊎ ((get_or others 0 0 == 32) ≡ false) → ⊥
          by_rest [] e stop =
              let same : bytes ≡ run.bytes = e ∙ append-nil run.bytes in
              let even : true ≡ false = sym run.all ∙ ap (list_all (λ b. b == 32)) (sym same) ∙ uneven in cc
          by_rest (b ∷ others) e (inl nothing) = omega (arith, nothing)
          by_rest (b ∷ others) e (inr other) = at_tab run.bytes b others e run.all other

  blanks : (bytes rest : List ℕ) → text ≡ bytes ++ rest → (length bytes ≡ 0 → ⊥) → list_all is_blank bytes ≡ true
      → is_blank (get_or rest 0 0) ≡ false → ⊥
  blanks bytes rest is some blank stop = piece Blanks bytes rest is (
    record { some = some; blank = blank; all = stop },
    λ fresh ends. even (list_all (λ b. b == 32) bytes) refl fresh
        ends,
  )
    where
      even : (v : Bool) → list_all (λ b. b == 32) bytes ≡ v → c.last ≡ None → ends_line rest ≡ false
          → list_all (λ b. b == 32) bytes ≡ true
      even true e fresh ends = e
      even false e fresh ends = absurd (tab bytes rest is blank stop fresh ends e)

  -- ---- tokens

  name : (bytes rest : List ℕ) → text ≡ bytes ++ rest → IsLongest t.Name bytes rest → ⊥
  name bytes rest is longest = by_test (is_bad_name c.last bytes) refl
    where
      by_test : (v : Bool) → is_bad_name c.last bytes ≡ v → ⊥
      by_test true e = fault L4 0 (refl, (bytes, rest, is, longest, e))
      by_test false e = piece (Lexical t.Name) bytes rest is (longest, e)

  number : (bytes rest : List ℕ) → text ≡ bytes ++ rest → IsLongest t.Int bytes rest → ⊥
  number bytes rest is longest = by_test (is_bad_number (bytes ++ rest)) refl
    where
      digit : is_ascii_digit (get_or text 0 0) ≡ true
      digit = ap (λ x. is_ascii_digit (get_or x 0 0)) is ∙ number_digit bytes rest longest.token

      many : is_bad_number (bytes ++ rest) ≡ false → digit_limit < digit_count bytes → ⊥
      many good over = fault L8 0 (
        refl,
        (
          digit,
          ap is_bad_number is ∙ good,
          omega (
            arith,
            over,
            ap (λ x. digit_count (number_run x)) is,
            counted is_number_byte is_ascii_digit bytes rest (number_bytes bytes longest.token),
          ),
        ),
      )

      by_test : (v : Bool) → is_bad_number (bytes ++ rest) ≡ v → ⊥
      by_test true e = fault L3 0 (refl, inl (digit, ap is_bad_number is ∙ e))
      by_test false e = elim (order (digit_count bytes) digit_limit) [
        | inl few ↦ piece (Lexical t.Int) bytes rest is (longest, (e, few))
        | inr over ↦ many e over
      ]

  string : (bytes rest : List ℕ) → text ≡ bytes ++ rest → IsLongest t.Str bytes rest → ⊥
  string bytes rest is longest = by_touch (touches_word c) refl
    where
      quoted : IsString bytes → is_quote (get_or text 0 0) ≡ true
      quoted (quote, body, h, _, e) = ap (λ x. is_quote (get_or x 0 0)) (is ∙ ap (λ x. x ++ rest) e) ∙ h

      by_tripled : touches_word c ≡ false → (v : Bool) → is_tripled (bytes ++ rest) ≡ v → ⊥
      by_tripled free true e = fault L2 0 (refl, (quoted longest.token, inr (inr (ap is_tripled is ∙ e))))
      by_tripled free false e = piece (Lexical t.Str) bytes rest is (longest, (free, e))

      by_touch : (v : Bool) → touches_word c ≡ v → ⊥
      by_touch true e = fault L2 0 (refl, (quoted longest.token, inr (inl e)))
      by_touch false e = by_tripled e (is_tripled (bytes ++ rest)) refl

  -- an operator that opens a bracket, where there is room or none is left
  opener : (o : Operator) (bytes rest : List ℕ) → text ≡ bytes ++ rest → IsLongest (t.Operator o) bytes rest
      → is_bad_point (bytes ++ rest) ≡ false
      → (length c.brackets < bracket_limit → MayOpenOrClose (role_of o) c.brackets)
      → (bracket_limit ≤ length c.brackets → IsFault c text L6 0) → ⊥
  opener o bytes rest is longest good may full = elim (order bracket_limit (length c.brackets)) [
    | inl over ↦ fault L6 0 (full over)
    | inr room ↦ piece (Lexical (t.Operator o)) bytes rest is (longest, (may room, good))
  ]

  -- an operator that closes a bracket, which is the innermost open one or is not
  closer : (o first : Operator) (bytes rest : List ℕ) → text ≡ bytes ++ rest → IsLongest (t.Operator o) bytes rest
      → is_bad_point (bytes ++ rest) ≡ false
      → (innermost c.brackets ≡ Some first → MayOpenOrClose (role_of o) c.brackets)
      → ((innermost c.brackets ≡ Some first → ⊥) → IsFault c text L5 0) → ⊥
  closer o first bytes rest is longest good may wrong = cases {A = innermost c.brackets ≡ Some first}
      (λ same. piece (Lexical (t.Operator o)) bytes rest is (longest, (may same, good)))
      (λ other. fault L5 0 (wrong other))

  by_sign : (o : Operator) (bytes rest : List ℕ) → text ≡ bytes ++ rest → IsLongest (t.Operator o) bytes rest
      → is_bad_point (bytes ++ rest) ≡ false → text ≡ operator_text o ++ rest → ⊥
  by_sign sign.LeftParenthesis bytes rest is longest good e = opener sign.LeftParenthesis bytes rest is longest good
      (λ room. room) (λ full. (refl, (sign.LeftParenthesis, rest, e, refl, full)))
  by_sign sign.LeftBracket bytes rest is longest good e = opener sign.LeftBracket bytes rest is longest good
      (λ room. room) (λ full. (refl, (sign.LeftBracket, rest, e, refl, full)))
  by_sign sign.LeftBrace bytes rest is longest good e = opener sign.LeftBrace bytes rest is longest good
      (λ room. room) (λ full. (refl, (sign.LeftBrace, rest, e, refl, full)))
  by_sign sign.RightParenthesis bytes rest is longest good e = closer sign.RightParenthesis sign.LeftParenthesis
      bytes rest is longest good (λ same. same)
      (λ other. (refl, inr (sign.RightParenthesis, sign.LeftParenthesis, rest, e, refl, other)))
  by_sign sign.RightBracket bytes rest is longest good e = closer sign.RightBracket sign.LeftBracket
      bytes rest is longest good (λ same. same)
      (λ other. (refl, inr (sign.RightBracket, sign.LeftBracket, rest, e, refl, other)))
  by_sign sign.RightBrace bytes rest is longest good e = closer sign.RightBrace sign.LeftBrace
      bytes rest is longest good (λ same. same)
      (λ other. (refl, inr (sign.RightBrace, sign.LeftBrace, rest, e, refl, other)))
  by_sign other bytes rest is longest good e = piece (Lexical (t.Operator other)) bytes rest is (longest, (tt, good))

  operator : (o : Operator) (bytes rest : List ℕ) → text ≡ bytes ++ rest → IsLongest (t.Operator o) bytes rest → ⊥
  operator o bytes rest is longest = by_test (is_bad_point (bytes ++ rest)) refl
    where
      by_test : (v : Bool) → is_bad_point (bytes ++ rest) ≡ v → ⊥
      by_test true e = fault L3 0 (refl, inr (ap is_bad_point is ∙ e))
      by_test false e = by_sign o bytes rest is longest e (is ∙ ap (λ x. x ++ rest) (sym longest.token))

  -- no token is the longest here
  no_longest : (kind : TokenKind) (bytes rest : List ℕ) → text ≡ bytes ++ rest → ¬ (IsLongest kind bytes rest)
  no_longest t.Name bytes rest is h = name bytes rest is h
  no_longest t.Int bytes rest is h = number bytes rest is h
  no_longest t.Str bytes rest is h = string bytes rest is h
  no_longest (t.Keyword k) bytes rest is h = piece (Lexical (t.Keyword k)) bytes rest is (h, tt)
  no_longest (t.Operator o) bytes rest is h = operator o bytes rest is h
  no_longest t.Newline bytes rest is h = absurd h.token
  no_longest t.Indent bytes rest is h = absurd h.token
  no_longest t.Dedent bytes rest is h = absurd h.token
  no_longest t.End bytes rest is h = absurd h.token

  -- no token begins here
  none_here : (kind : TokenKind) (bytes rest : List ℕ) → text ≡ bytes ++ rest → IsToken kind bytes → ⊥
  none_here kind bytes rest is token = no_token text no_longest (length rest) kind bytes rest is (omega arith) token

  -- a byte that begins no gap and no line end
  no_gap : (length text ≡ 0 → ⊥) → is_blank (get_or text 0 0) ≡ false → (get_or text 0 0 ≡ 35 → ⊥)
      → starts_line_end text ≡ false → ⊥
  no_gap some blank hash feed = by_quote (is_quote (get_or text 0 0)) refl
    where
      by_quote : (v : Bool) → is_quote (get_or text 0 0) ≡ v → ⊥
      by_quote true e = fault L2 0 (refl, (e, inl (λ bytes rest is h. none_here t.Str bytes rest is h)))
      by_quote false e = fault L1 0 (
        refl,
        record {
          some = some;
          no_blank = blank;
          no_comment = hash;
          no_line_end = feed;
          no_quote = e;
          no_token = none_here;
        },
      )

  -- ---- the first byte decides

  comment : (b : ℕ) (bs : List ℕ) → text ≡ b ∷ bs → b ≡ 35 → ⊥
  comment b bs is hash =
      let run = run_at is_inside bs in
      let begins : is_inside b ≡ true = ap is_inside hash in
      piece Comment (b ∷ run.bytes) run.rest (is ∙ ap (λ x. b ∷ x) run.is) (record {
        hash = hash;
        inside = rw (begins, run.all) refl;
        all = stopped run.rest run.stop;
      })

  blank_run : (b : ℕ) (bs : List ℕ) → text ≡ b ∷ bs → is_blank b ≡ true → ⊥
  blank_run b bs is blank =
      let run = run_at is_blank bs in
      blanks (b ∷ run.bytes) run.rest (is ∙ ap (λ x. b ∷ x) run.is) (λ e. absurd (omega (arith, e)))
      (rw (blank, run.all) refl) (unblank run.rest run.stop)

  feed_at : (b : ℕ) (bs : List ℕ) → text ≡ b ∷ bs → starts_line_end (b ∷ bs) ≡ true → ⊥
  feed_at b bs is h = by_feed (b == 10) refl
    where
      returned : (cs : List ℕ) → bs ≡ cs → (b == 13) ≡ true → (get_or cs 0 0 == 10) ≡ true → ⊥
      returned [] e u v = cc
      returned (x ∷ xs) e u v = piece LineEnd (13 ∷ 10 ∷ []) xs
          (is ∙ ap (λ l. b ∷ l) e ∙ ap (λ y. y ∷ x ∷ xs) (number_same b 13 u)
          ∙ ap (λ y. 13 ∷ y ∷ xs) (number_same x 10 v)) (inr refl)

      by_feed : (v : Bool) → (b == 10) ≡ v → ⊥
      by_feed true e = piece LineEnd (10 ∷ []) bs (is ∙ ap (λ y. y ∷ bs) (number_same b 10 e)) (inl refl)
      by_feed false e =
          let both : ((b == 13) && (get_or bs 0 0 == 10)) ≡ true =
          ap (λ v. v || ((b == 13) && (get_or bs 0 0 == 10))) (sym e) ∙ h in
          let parts = and_parts (b == 13) (get_or bs 0 0 == 10) both in returned bs refl parts.0 parts.1

  first_byte : (b : ℕ) (bs : List ℕ) → text ≡ b ∷ bs → ⊥
  first_byte b bs is = by_blank (is_blank b) refl
    where
      by_line_end : is_blank b ≡ false → (b ≡ 35 → ⊥) → (v : Bool) → starts_line_end (b ∷ bs) ≡ v → ⊥
      by_line_end unlike hash true e = feed_at b bs is e
      by_line_end unlike hash false e = no_gap (λ z. absurd (omega (arith, z, ap length is)))
          (ap (λ x. is_blank (get_or x 0 0)) is ∙ unlike) (λ z. hash (sym (ap (λ x. get_or x 0 0) is) ∙ z))
          (ap starts_line_end is ∙ e)

      by_hash : is_blank b ≡ false → (v : Bool) → (b == 35) ≡ v → ⊥
      by_hash unlike true e = comment b bs is (number_same b 35 e)
      by_hash unlike false e = by_line_end unlike (eqb-false b 35 e) (starts_line_end (b ∷ bs)) refl

      by_blank : (v : Bool) → is_blank b ≡ v → ⊥
      by_blank true e = blank_run b bs is e
      by_blank false e = by_hash e (b == 35) refl

-- the end of the text is one, or a bracket is open there
at_end : (c : LexicalContext) (brackets : List Operator) → c.brackets ≡ brackets
    → ((ps : List Piece) (ending : SplitEnd) → ¬ (Splits c ps [] ending)) → ⊥
at_end c [] e none = none [] Whole (refl, e)
at_end c (o ∷ os) e none = none [] (Faulty L5 0) (refl, inl (refl, λ z. absurd (omega (arith, z, ap length e))))

-- each text splits into pieces, to its end or to a fault
pub splits : (most : ℕ) (c : LexicalContext) (text : List ℕ) → length text ≤ most
    → ¬ ((ps : List Piece) (ending : SplitEnd) → ¬ (Splits c ps text ending))
splits most c [] short none = at_end c c.brackets refl none
splits zero c (b ∷ bs) short none = absurd (omega (arith, short))
splits (suc most) c (b ∷ bs) short none = first_byte c (b ∷ bs) most short (λ d rest low. splits most d rest low) none b
    bs refl
