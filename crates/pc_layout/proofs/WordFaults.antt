-- Faults of the words of a line.
use Rattle.std.proofs.Common.{◌≡◌, ◌⊎◌, ℕ, zero, suc, ◌<◌, ◌≤◌, Bool, true, false, nat_lt, if◌then◌else◌, List, [], ◌∷◌}
use Rattle.std.proofs.Common.{Option, Some, None, refl, ap, sym, ◌∙◌, inl, inr, arith}
use Rattle.std.specs.Bool.{Decides}
use Rattle.std.specs.List.{Contains}
use Rattle.std.proofs.lemmas.Bool.{ltb-true}
use Rattle.std.proofs.lemmas.Bool.Decides.{Decides-eqb, Decides-and, Decides-or}
use Rattle.std.proofs.lemmas.Slice.Eq.{slice_eq-Decides, bytes_eq-Decides}
use Rattle.pc_source.specs.declared.fault.Refusal.{Refusal}
use Rattle.pc_source.specs.declared.fault.RefusalCode.{RefusalCode}
use Rattle.pc_source.specs.declared.fault.RefusalCode.TheVariants.{N1, N2, N3, N4, N5}
use Rattle.pc_token.specs.declared.token.Keyword.{Keyword}
use Rattle.pc_token.specs.declared.token.Keyword.TheVariants.{Def, Class}
use Rattle.pc_token.specs.declared.token.Operator.{Operator}
use Rattle.pc_token.specs.declared.token.Operator.TheVariants.{At}
use Rattle.pc_token.specs.declared.token.TokenKind.{TokenKind}
use Rattle.pc_token.specs.declared.token.TokenKind.TheVariants as k
use Rattle.pc_token.specs.Lexeme.{Lexeme, LogicalLine}
use Rattle.pc_layout.specs.Spelling.{first_kind, first_byte, forms, IsImportHeader, future_header, dataclass_header}
use Rattle.pc_layout.specs.Spelling.{any_header, dataclass_decorator, excludes_keyword, excludes_operator}
use Rattle.pc_layout.specs.Placing.{is_spelled, is_header, opening_fault, exclusion, refused_or, first_excluded}
use Rattle.pc_layout.specs.Placing.{word_fault}
use Rattle.pc_layout.specs.Layouts.{StandInOrder}

-- the tests tell what they are to tell
pub spelled_tells : (xs : List Lexeme) (words : List (List ℕ)) → Decides (is_spelled xs words) (forms xs ≡ words)
spelled_tells xs words = slice_eq-Decides bytes_eq-Decides (forms xs) words (is_spelled xs words) refl

pub header_tells : (l : LogicalLine) → Decides (is_header l.column l.lexemes) (IsImportHeader l)
header_tells l = Decides-and _ _ (Decides-eqb l.column 0)
    (Decides-or _ _ (spelled_tells l.lexemes future_header) (Decides-or _ _ (spelled_tells l.lexemes dataclass_header)
    (spelled_tells l.lexemes any_header)))

-- the fault of a line's first token
pub data BeginsWrong (in_def : Bool) (c : ℕ) (xs : List Lexeme) (o : Option TokenKind) (code : RefusalCode) : Type
    0 where
  nested : o ≡ Some (k.Keyword Def) → in_def ≡ true → code ≡ N3 → BeginsWrong in_def c xs o code
  inside : o ≡ Some (k.Keyword Class) → 0 < c → code ≡ N4 → BeginsWrong in_def c xs o code
  decorated : o ≡ Some (k.Operator At) → is_spelled xs dataclass_decorator ≡ false → code ≡ N5
      → BeginsWrong in_def c xs o code

def_wrong : (in_def b : Bool) (c : ℕ) (xs : List Lexeme) (code : RefusalCode) → in_def ≡ b
    → (if b then Some N3 else None) ≡ Some code → BeginsWrong in_def c xs (Some (k.Keyword Def)) code
def_wrong in_def true c xs code t e = nested refl t (cc)
def_wrong in_def false c xs code t e = absurd (cc)

class_wrong : (in_def b : Bool) (c : ℕ) (xs : List Lexeme) (code : RefusalCode) → nat_lt 0 c ≡ b
    → (if b then Some N4 else None) ≡ Some code → BeginsWrong in_def c xs (Some (k.Keyword Class)) code
class_wrong in_def true c xs code t e = inside refl (ltb-true 0 c t) (cc)
class_wrong in_def false c xs code t e = absurd (cc)

at_wrong : (in_def b : Bool) (c : ℕ) (xs : List Lexeme) (code : RefusalCode) → is_spelled xs dataclass_decorator ≡ b
    → (if b then None else Some N5) ≡ Some code → BeginsWrong in_def c xs (Some (k.Operator At)) code
at_wrong in_def true c xs code t e = absurd (cc)
at_wrong in_def false c xs code t e = decorated refl t (cc)

pub begins_wrong : (in_def : Bool) (c : ℕ) (xs : List Lexeme) (o : Option TokenKind) (code : RefusalCode)
    → opening_fault in_def c xs o ≡ Some code → BeginsWrong in_def c xs o code
begins_wrong in_def c xs (Some (k.Keyword Def)) code e = def_wrong in_def in_def c xs code refl e
begins_wrong in_def c xs (Some (k.Keyword Class)) code e = class_wrong in_def (nat_lt 0 c) c xs code refl e
begins_wrong in_def c xs (Some (k.Operator At)) code e = at_wrong in_def (is_spelled xs dataclass_decorator) c xs code
    refl e
begins_wrong in_def c xs _ code e = absurd (cc)

-- the fault of a token
pub data IsLeftOut (header : Bool) (kind : TokenKind) (code : RefusalCode) : Type 0 where
  keyword : (w : Keyword) → kind ≡ k.Keyword w → excludes_keyword w ≡ true → header ≡ false → code ≡ N1
      → IsLeftOut header kind code
  operator : (o : Operator) → kind ≡ k.Operator o → excludes_operator o ≡ true → code ≡ N2 → IsLeftOut header kind code

keyword_out : (header a b : Bool) (w : Keyword) (code : RefusalCode) → excludes_keyword w ≡ a → header ≡ b
    → (if a then (if b then None else Some N1) else None) ≡ Some code → IsLeftOut header (k.Keyword w) code
keyword_out header false b w code s t e = absurd (cc)
keyword_out header true true w code s t e = absurd (cc)
keyword_out header true false w code s t e = keyword w refl s t (cc)

operator_out : (header a : Bool) (o : Operator) (code : RefusalCode) → excludes_operator o ≡ a
    → (if a then Some N2 else None) ≡ Some code → IsLeftOut header (k.Operator o) code
operator_out header false o code s e = absurd (cc)
operator_out header true o code s e = operator o refl s (cc)

pub left_out : (header : Bool) (kind : TokenKind) (code : RefusalCode) → exclusion header kind ≡ Some code
    → IsLeftOut header kind code
left_out header (k.Keyword w) code e = keyword_out header (excludes_keyword w) header w code refl refl e
left_out header (k.Operator o) code e = operator_out header (excludes_operator o) o code refl e
left_out header _ code e = absurd (cc)

-- and the other way round
pub keyword_left : (header : Bool) (kind : TokenKind) (w : Keyword) → kind ≡ k.Keyword w → excludes_keyword w ≡ true
    → header ≡ false → exclusion header kind ≡ Some N1
keyword_left header kind w e t h = rw (e, t, h) refl

pub operator_left : (header : Bool) (kind : TokenKind) (o : Operator) → kind ≡ k.Operator o → excludes_operator o ≡ true
    → exclusion header kind ≡ Some N2
operator_left header kind o e t = rw (e, t) refl

-- one of a list's elements is the first, or one of the others
pub contains_cases : {X : Type 0} (x : X) (xs : List X) (y : X) → Contains (x ∷ xs) y → (x ≡ y) ⊎ Contains xs y
contains_cases x xs y (zero, lt, e) = inl e
contains_cases x xs y (suc n, lt, e) = inr (n, omega arith, e)

pub contains_none : {X : Type 0} (y : X) → Contains [] y → ⊥
contains_none y (n, lt, e) = omega arith

pub contains_first : {X : Type 0} (x : X) (xs : List X) → Contains (x ∷ xs) x
contains_first x xs = (0, omega arith, refl)

pub contains_later : {X : Type 0} (x : X) (xs : List X) (y : X) → Contains xs y → Contains (x ∷ xs) y
contains_later x xs y (n, lt, e) = (suc n, omega arith, e)

-- tokens that stand in order stand after where they begin
pub behind : (from : ℕ) (xs : List Lexeme) (x : Lexeme) → StandInOrder from xs → Contains xs x → from ≤ x.place.start
behind from [] x o h = absurd (contains_none x h)
behind from (y ∷ ys) x o h = elim (contains_cases y ys x h) [
  | inl e ↦ omega (arith, o.0, ap (λ (z : Lexeme). z.place.start) e)
  | inr g ↦ omega (arith, o.0, o.1, behind y.place.end ys x o.2 g)
]

refused_some : (o : Option RefusalCode) (byte : ℕ) (rest : Option Refusal) (r : Refusal)
    → refused_or o byte rest ≡ Some r → ((o ≡ Some r.code) × (r.byte ≡ byte)) ⊎ ((o ≡ None) × (rest ≡ Some r))
refused_some None byte rest r e = inr (refl, e)
refused_some (Some code) byte rest r e = let q : record { code = code; byte = byte } ≡ r = cc in
    inl (ap (λ z. Some z.code) q, sym (ap (λ z. z.byte) q))

refused_none : (o : Option RefusalCode) (byte : ℕ) (rest : Option Refusal) → refused_or o byte rest ≡ None → (o ≡ None)
    × (rest ≡ None)
refused_none None byte rest e = (refl, e)
refused_none (Some code) byte rest e = absurd (cc)

some_none : {X : Type 0} (o : Option X) (x : X) → o ≡ Some x → o ≡ None → ⊥
some_none o x e f = cc

same_some : {X : Type 0} (o : Option X) (x y : X) → o ≡ Some x → o ≡ Some y → x ≡ y
same_some o x y e f = cc

-- a token that the profile leaves out
pub record LeftOutAt (header : Bool) (xs : List Lexeme) (code : RefusalCode) (byte : ℕ) : Type 0 where
  pub token : Lexeme
  pub among : Contains xs token
  pub out : exclusion header token.kind ≡ Some code
  pub at : byte ≡ token.place.start

pub excluded_some : (header : Bool) (xs : List Lexeme) (r : Refusal) → first_excluded header xs ≡ Some r
    → LeftOutAt header xs r.code r.byte
excluded_some header [] r e = absurd (cc)
excluded_some header (x ∷ xs) r e = elim (refused_some (exclusion header x.kind) x.place.start
    (first_excluded header xs) r e) [
      | inl h ↦ record { token = x; among = contains_first x xs; out = h.0; at = h.1 }
      | inr h ↦ let g : LeftOutAt header xs r.code r.byte = excluded_some header xs r h.1 in
          record { token = g.token; among = contains_later x xs g.token g.among; out = g.out; at = g.at }
    ]

pub excluded_none : (header : Bool) (xs : List Lexeme) (x : Lexeme) → first_excluded header xs ≡ None → Contains xs x
    → exclusion header x.kind ≡ None
excluded_none header [] x e h = absurd (contains_none x h)
excluded_none header (y ∷ ys) x e h = let g : (exclusion header y.kind ≡ None) × (first_excluded header ys ≡ None) =
    refused_none (exclusion header y.kind) y.place.start (first_excluded header ys) e in
    elim (contains_cases y ys x h) [
      | inl q ↦ ap (λ (z : Lexeme). exclusion header z.kind) (sym q) ∙ g.0
      | inr i ↦ excluded_none header ys x g.1 i
    ]

-- a fault counts before another, or is it
abbrev pub CountsFirst : Refusal → RefusalCode → ℕ → Type 0
CountsFirst r code byte = (r.byte < byte) ⊎ ((r.byte ≡ byte) × (r.code ≡ code))

pub excluded_least : (header : Bool) (from : ℕ) (xs : List Lexeme) (r : Refusal) (x : Lexeme) (code : RefusalCode)
    → StandInOrder from xs → first_excluded header xs ≡ Some r → Contains xs x → exclusion header x.kind ≡ Some code →
    CountsFirst r code x.place.start
excluded_least header from [] r x code o e h out = absurd (contains_none x h)
excluded_least header from (y ∷ ys) r x code o e h out = elim (refused_some (exclusion header y.kind) y.place.start
    (first_excluded header ys) r e) [
      | inl g ↦ elim (contains_cases y ys x h) [
        | inl q ↦ inr (
          g.1 ∙ ap (λ (z : Lexeme). z.place.start) q,
          same_some _ _ _
              (sym (ap (λ (z : Lexeme). exclusion header z.kind) q) ∙ g.0) out,
        )
        | inr i ↦ inl (omega (arith, g.1, o.1, behind y.place.end ys x o.2 i))
      ]
      | inr g ↦ elim (contains_cases y ys x h) [
        | inl q ↦ absurd (some_none _ code out (ap (λ (z : Lexeme). exclusion header z.kind) (sym q) ∙ g.0))
        | inr i ↦ excluded_least header y.place.end ys r x code o.2 g.1 i out
      ]
    ]

-- a fault of the words of a line, as it is found
pub data IsWordFault (len : ℕ) (in_def : Bool) (c : ℕ) (xs : List Lexeme) (code : RefusalCode) (byte : ℕ) : Type 0 where
  at_opening : opening_fault in_def c xs (first_kind xs) ≡ Some code → byte ≡ first_byte len xs
      → IsWordFault len in_def c xs code byte
  at_token : LeftOutAt (is_header c xs) xs code byte → IsWordFault len in_def c xs code byte

pub found : (len : ℕ) (in_def : Bool) (c : ℕ) (xs : List Lexeme) (r : Refusal) → word_fault len in_def c xs ≡ Some r
    → IsWordFault len in_def c xs r.code r.byte
found len in_def c xs r e = elim (refused_some (opening_fault in_def c xs (first_kind xs)) (first_byte len xs)
    (first_excluded (is_header c xs) xs) r e) [
      | inl h ↦ at_opening h.0 h.1
      | inr h ↦ at_token (excluded_some (is_header c xs) xs r h.1)
    ]

pub none_found : (len : ℕ) (in_def : Bool) (c : ℕ) (xs : List Lexeme) (code : RefusalCode) (byte : ℕ)
    → word_fault len in_def c xs ≡ None → IsWordFault len in_def c xs code byte → ⊥
none_found len in_def c xs code byte e f =
    let g : (opening_fault in_def c xs (first_kind xs) ≡ None) × (first_excluded (is_header c xs) xs ≡ None) =
    refused_none (opening_fault in_def c xs (first_kind xs)) (first_byte len xs)
    (first_excluded (is_header c xs) xs) e in
    elim f [
      | at_opening o b ↦ some_none _ code o g.0
      | at_token t ↦ some_none _ code t.out (excluded_none (is_header c xs) xs t.token g.1 t.among)
    ]

-- a token with which a line begins wrongly is not left out
opening_not_out : (header in_def : Bool) (c : ℕ) (xs : List Lexeme) (kind : TokenKind) (code other : RefusalCode)
    → BeginsWrong in_def c xs (Some kind) code → exclusion header kind ≡ Some other → ⊥
opening_not_out header in_def c xs kind code other (nested e t q) h = let f : kind ≡ k.Keyword Def = cc in let g =
    rw f at h in cc
opening_not_out header in_def c xs kind code other (inside e t q) h = let f : kind ≡ k.Keyword Class = cc in let g =
    rw f at h in cc
opening_not_out header in_def c xs kind code other (decorated e t q) h = let f : kind ≡ k.Operator At = cc in let g =
    rw f at h in cc

opening_least : (len : ℕ) (header in_def : Bool) (c from : ℕ) (xs all : List Lexeme) (r : Refusal) (x : Lexeme)
    (code : RefusalCode) → StandInOrder from xs → opening_fault in_def c all (first_kind xs) ≡ Some r.code
    → r.byte ≡ first_byte len xs →
    Contains xs x → exclusion header x.kind ≡ Some code → CountsFirst r code x.place.start
opening_least len header in_def c from [] all r x code o e b h out = absurd (contains_none x h)
opening_least len header in_def c from (y ∷ ys) all r x code o e b h out = elim (contains_cases y ys x h) [
  | inl q ↦ absurd (opening_not_out header in_def c all y.kind r.code code
      (begins_wrong in_def c all (Some y.kind) r.code e) (ap (λ (z : Lexeme). exclusion header z.kind) q ∙ out))
  | inr i ↦ inl (omega (arith, b, o.1, behind y.place.end ys x o.2 i))
]

pub found_least : (len : ℕ) (in_def : Bool) (c from : ℕ) (xs : List Lexeme) (r : Refusal) (code : RefusalCode)
    (byte : ℕ) → StandInOrder from xs → word_fault len in_def c xs ≡ Some r → IsWordFault len in_def c xs code byte
    → CountsFirst r code byte
found_least len in_def c from xs r code byte o e f = elim (refused_some (opening_fault in_def c xs (first_kind xs))
    (first_byte len xs) (first_excluded (is_header c xs) xs) r e) [
      | inl h ↦ elim f [
        | at_opening p b ↦ inr (h.1 ∙ sym b, same_some _ _ _ h.0 p)
        | at_token t ↦ rw t.at (opening_least len (is_header c xs) in_def c from xs xs r t.token code o h.0 h.1 t.among
            t.out)
      ]
      | inr h ↦ elim f [
        | at_opening p b ↦ absurd (some_none _ code p h.0)
        | at_token t ↦ rw t.at (excluded_least (is_header c xs) from xs r t.token code o h.1 t.among t.out)
      ]
    ]
