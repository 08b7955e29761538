-- A name or a keyword is the longest token at its place.
use Rattle.std.proofs.Common.{◌≡◌, ℕ, ◌<◌, List, [], ◌∷◌, ◌++◌, Bool, true, false, ◌&&◌, ◌||◌, ◌==◌, Some, None}
use Rattle.std.proofs.Common.{MatchOption, ◌⊎◌, length, get_or, refl, sym, ap, ◌∙◌, subst, inl, inr, arith, lit<}
use Rattle.std.proofs.Common.{append_assoc, IsUtf8, encode_utf8_all, chars}
use Rattle.std.specs.Prelude.{slice_get, encode_utf8, find, bytes_eq, nat_lt}
use Rattle.std.specs.List.{list_all}
use Rattle.std.specs.Char.{is_ascii_alphabetic, is_ascii_alphanumeric}
use Rattle.std.proofs.lemmas.Bool.{and_parts}
use Rattle.std.proofs.lemmas.Bool.Decides.{nat_tests}
use Rattle.std.proofs.lemmas.List.Folds.{list_all-append}
use Rattle.std.proofs.lemmas.Slice.Eq.{bytes_eq-Decides}
use Rattle.std.proofs.lemmas.Str.{encode_same, chars_past_char, encodes-IsAscii}
use Rattle.std.proofs.Math.ListN.{get_or-append}
use Rattle.unicode_ident.specs.Ident.{is_xid_start, is_xid_continue}
use Rattle.unicode_ident.proofs.IdentLemmas.{is_xid_start-ascii, is_xid_continue-ascii, is_xid_start-is_xid_continue}
use Rattle.pc_source.proofs.ListSearch.{found_passes, none_passes}
use Rattle.pc_token.specs.declared.token.Keyword.{Keyword}
use Rattle.pc_token.specs.declared.token.Keyword.TheVariants as k
use Rattle.pc_token.specs.declared.token.TokenKind.{TokenKind}
use Rattle.pc_token.specs.Keywords.{keyword_text, keywords}
use Rattle.pc_token.specs.Names.{begins_name, IsName}
use Rattle.pc_token.specs.Spelling.{IsToken, IsLongest}
use Rattle.pc_token.proofs.Leads.{is_letter, lead_name, letter_token, some_bytes}
use Rattle.pc_token.proofs.Names.{ascii_bytes}

-- the rest does not begin with a character that may continue a name
abbrev pub Stops : List ℕ → Type 0
Stops rest = (c : ℕ) (more : List ℕ) → rest ≡ encode_utf8 c ++ more → is_xid_continue c ≡ false

pub stops_there : (P : Type 0) (rest : List ℕ) → IsUtf8 rest → MatchOption (slice_get (chars rest) 0) P
    (λ c. is_xid_continue c ≡ false) → Stops rest
stops_there P rest utf8 h c more e =
    let here : slice_get (chars rest) 0 ≡ Some c = ap (λ x. slice_get x 0) (chars_past_char rest more c utf8 e) in
    rw here at h

underscore_continues : is_xid_continue 95 ≡ true
underscore_continues = is_xid_continue-ascii 95 (lit< tt)

either : (a b : Bool) → (a || b) ≡ true → (a ≡ true) ⊎ (b ≡ true)
either true b h = inl refl
either false b h = inr h

is_underscore : (c : ℕ) → (c == 95) ≡ true → c ≡ 95
is_underscore c h = grind (arith, nat_tests)

begins_continues : (c : ℕ) → begins_name c ≡ true → is_xid_continue c ≡ true
begins_continues c h = elim (either (is_xid_start c) (c == 95) h) [
  | inl starts ↦ is_xid_start-is_xid_continue c starts
  | inr under ↦ rw (is_underscore c under) underscore_continues
]

both : (a b : Bool) → a ≡ true → b ≡ true → (a && b) ≡ true
both a b e f = ap (λ x. x && b) e ∙ f

-- the run of characters from one that may begin a name is a name
pub name_is : (text run rest more cs : List ℕ) (c : ℕ) → text ≡ encode_utf8 c ++ more → begins_name c ≡ true
    → list_all is_xid_continue cs ≡ true
    → run ≡ encode_utf8_all cs → text ≡ run ++ rest → Stops rest → IsName run
name_is text run rest more [] c e begins all is whole stop =
    let same : rest ≡ encode_utf8 c ++ more = sym (ap (λ x. x ++ rest) is) ∙ sym whole ∙ e in
    let no = stop c more same in
    let continues = begins_continues c begins in
    let bad : ⊥ = cc in absurd bad
name_is text run rest more (d ∷ ds) c e begins all is whole stop =
    let moved : (encode_utf8 d ++ encode_utf8_all ds) ++ rest ≡ encode_utf8 d ++ (encode_utf8_all ds ++ rest) =
    rw append_assoc in
    let same = (encode_same c d more (encode_utf8_all ds ++ rest) (sym e ∙ whole ∙ ap (λ x. x ++ rest) is ∙ moved)).0 in
    (d, ds, rw (← same) begins, (and_parts (is_xid_continue d) (list_all is_xid_continue ds) all).1, is)

-- a front of some characters is some of them
front_of : (cs ds more : List ℕ) → encode_utf8_all cs ++ more ≡ encode_utf8_all ds → (es : List ℕ) × (ds ≡ cs ++ es)
    × (more ≡ encode_utf8_all es)
front_of [] ds more e = (ds, refl, e)
front_of (c ∷ cs) [] more e =
    let moved : (encode_utf8 c ++ encode_utf8_all cs) ++ more ≡ encode_utf8 c ++ (encode_utf8_all cs ++ more) =
    rw append_assoc in
    let len = some_bytes c [] (encode_utf8_all cs ++ more) (sym e ∙ moved) in absurd (omega arith)
front_of (c ∷ cs) (d ∷ ds) more e =
    let moved : (encode_utf8 c ++ encode_utf8_all cs) ++ more ≡ encode_utf8 c ++ (encode_utf8_all cs ++ more) =
    rw append_assoc in
    let (same, tails) = encode_same c d (encode_utf8_all cs ++ more) (encode_utf8_all ds) (sym moved ∙ e) in
    let (es, is, left) = front_of cs ds more tails in
    (es, (cc), left)

longer_name : (run rest more after cs es : List ℕ) → Stops rest → rest ≡ more ++ after → more ≡ encode_utf8_all es
    → list_all is_xid_continue es ≡ true → more ≡ []
longer_name run rest more after cs [] stop e is all = is
longer_name run rest more after cs (x ∷ xs) stop e is all =
    let moved : (encode_utf8 x ++ encode_utf8_all xs) ++ after ≡ encode_utf8 x ++ (encode_utf8_all xs ++ after) =
    rw append_assoc in
    let no = stop x (encode_utf8_all xs ++ after) (e ∙ ap (λ y. y ++ after) is ∙ moved) in
    let goes_on = (and_parts (is_xid_continue x) (list_all is_xid_continue xs) all).0 in
    let bad : ⊥ = cc in absurd bad

one_name : (run rest more after : List ℕ) → Stops rest → rest ≡ more ++ after → IsName run → IsName (run ++ more)
    → more ≡ []
one_name run rest more after stop e (c, cs, begins, goes, is) (d, ds, begins', goes', is') =
    let (es, whole, left) = front_of (c ∷ cs) (d ∷ ds) more (ap (λ x. x ++ more) (sym is) ∙ is') in
    let all : list_all is_xid_continue (d ∷ ds) ≡ true = both (is_xid_continue d) (list_all is_xid_continue ds)
    (begins_continues d begins') goes' in
    let parts = sym (list_all-append is_xid_continue (c ∷ cs) es) ∙ ap (list_all is_xid_continue) (sym whole) ∙ all in
    longer_name run rest more after cs es stop e left (and_parts (list_all is_xid_continue (c ∷ cs))
    (list_all is_xid_continue es) parts).1

-- an ASCII letter or underscore, then ASCII letters, digits and underscores
abbrev is_word_text : List ℕ → Bool
is_word_text bytes = (is_ascii_alphabetic (get_or bytes 0 0) || get_or bytes 0 0 == 95)
    && list_all (λ b. nat_lt b 128 && (is_ascii_alphanumeric b || b == 95)) bytes

keyword_word : (k : Keyword) → is_word_text (keyword_text k) ≡ true
keyword_word k.False = refl
keyword_word _ = refl

below : (b : ℕ) → nat_lt b 128 ≡ true → b < 128
below b h = grind (arith, nat_tests)

part_parts : (b : ℕ) (bs : List ℕ) → list_all (λ x. nat_lt x 128 && (is_ascii_alphanumeric x || x == 95)) (b ∷ bs)
    ≡ true
    → (nat_lt b 128 ≡ true) × ((is_ascii_alphanumeric b || b == 95) ≡ true)
    × (list_all (λ x. nat_lt x 128 && (is_ascii_alphanumeric x || x == 95)) bs ≡ true)
part_parts b bs h =
    let (here, later) = and_parts (nat_lt b 128 && (is_ascii_alphanumeric b || b == 95))
    (list_all (λ x. nat_lt x 128 && (is_ascii_alphanumeric x || x == 95)) bs) h in
    let (low, part) = and_parts (nat_lt b 128) (is_ascii_alphanumeric b || b == 95) here in (low, part, later)

part_goes : (bs : List ℕ) → list_all (λ b. nat_lt b 128 && (is_ascii_alphanumeric b || b == 95)) bs ≡ true
    → list_all is_xid_continue bs ≡ true
part_goes [] h = refl
part_goes (b ∷ bs) h = let (low, part, later) = part_parts b bs h in
    both (is_xid_continue b) (list_all is_xid_continue bs) (is_xid_continue-ascii b (below b low) ∙ part)
    (part_goes bs later)

part_ascii : (bs : List ℕ) → list_all (λ b. nat_lt b 128 && (is_ascii_alphanumeric b || b == 95)) bs ≡ true
    → list_all (λ b. nat_lt b 128) bs ≡ true
part_ascii [] h = refl
part_ascii (b ∷ bs) h = let (low, part, later) = part_parts b bs h in
    both (nat_lt b 128) (list_all (λ x. nat_lt x 128) bs) low (part_ascii bs later)

ascii_name : (bytes : List ℕ) → is_word_text bytes ≡ true → IsName bytes
ascii_name [] h = let no : ⊥ = cc in absurd no
ascii_name (b ∷ bs) h =
    let (starts, all) = and_parts (is_ascii_alphabetic b || b == 95)
    (list_all (λ x. nat_lt x 128 && (is_ascii_alphanumeric x || x == 95)) (b ∷ bs)) h in
    let (low, part, later) = part_parts b bs all in
    let same : is_xid_start b ≡ is_ascii_alphabetic b = is_xid_start-ascii b (below b low) in (
      b,
      bs,
      rw same starts,
      part_goes bs later,
      sym (encodes-IsAscii (b ∷ bs)
          (ascii_bytes (b ∷ bs) (part_ascii (b ∷ bs) all))),
    )

-- a keyword is spelled as a name
pub keyword_name : (k : Keyword) → IsName (keyword_text k)
keyword_name k = ascii_name (keyword_text k) (keyword_word k)

some : (bs : List ℕ) → is_letter (get_or bs 0 0) ≡ true → 0 < length bs
some [] h = let no : ⊥ = cc in absurd no
some (b ∷ bs) h = omega arith

any_name : (bytes : List ℕ) → IsName bytes ⊎ ((k : Keyword) × (keyword_text k ≡ bytes)) → IsName bytes
any_name bytes (inl name) = name
any_name bytes (inr (k, is)) = subst IsName is (keyword_name k)

-- no longer token begins
pub word_longest : (kind : TokenKind) (run rest : List ℕ) → IsName run → IsToken kind run → Stops rest
    → IsLongest kind run rest
word_longest kind run rest name token stop =
    let letter = lead_name run name in
    record {
      token = token;
      longest = λ other more after e longer.
          let lead : is_letter (get_or (run ++ more) 0 0) ≡ true = rw (get_or-append run more 0 0 (some run letter))
          letter in
          one_name run rest more after stop e name (any_name (run ++ more)
          (letter_token (run ++ more) other lead longer));
    }

place : (x : Keyword) → (i : ℕ) × (slice_get keywords i ≡ Some x)
place k.False = (0, refl)
place k.None = (1, refl)
place k.True = (2, refl)
place k.And = (3, refl)
place k.As = (4, refl)
place k.Assert = (5, refl)
place k.Async = (6, refl)
place k.Await = (7, refl)
place k.Break = (8, refl)
place k.Class = (9, refl)
place k.Continue = (10, refl)
place k.Def = (11, refl)
place k.Del = (12, refl)
place k.Elif = (13, refl)
place k.Else = (14, refl)
place k.Except = (15, refl)
place k.Finally = (16, refl)
place k.For = (17, refl)
place k.From = (18, refl)
place k.Global = (19, refl)
place k.If = (20, refl)
place k.Import = (21, refl)
place k.In = (22, refl)
place k.Is = (23, refl)
place k.Lambda = (24, refl)
place k.Nonlocal = (25, refl)
place k.Not = (26, refl)
place k.Or = (27, refl)
place k.Pass = (28, refl)
place k.Raise = (29, refl)
place k.Return = (30, refl)
place k.Try = (31, refl)
place k.While = (32, refl)
place k.With = (33, refl)
place k.Yield = (34, refl)

-- where no keyword is found the text is none
pub no_keyword : (name : List ℕ) → find (λ k. bytes_eq (keyword_text k) name) keywords ≡ None → (k : Keyword)
    → keyword_text k ≡ name → ⊥
no_keyword name f k e =
    let (i, here) = place k in
    let other = none_passes (λ x. bytes_eq (keyword_text x) name) keywords k i f here in
    let same = (bytes_eq-Decides (keyword_text k) name).1 e in cc

-- the keyword that is found
pub keyword_found : (name : List ℕ) (k : Keyword) → find (λ x. bytes_eq (keyword_text x) name) keywords ≡ Some k
    → keyword_text k ≡ name
keyword_found name k f = (bytes_eq-Decides (keyword_text k) name).0
    (found_passes (λ x. bytes_eq (keyword_text x) name) keywords k f)
