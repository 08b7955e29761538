-- The bytes that have reached a device, as bytes are put and written.
use Rattle.std.proofs.Common.{◌≡◌, ℕ, ◌+◌, ◌/◌, ◌%◌, ◌<◌, ◌≤◌, List, [], ◌∷◌, ◌++◌, length, take, get_or, Bool, true}
use Rattle.std.proofs.Common.{false, Option, Result, Ok, Err, refl, sym, ap, ◌∙◌, subst, arith, append_assoc}
use Rattle.std.proofs.Common.{append-nil, length-append}
use Rattle.std.specs.Prelude.{MatchBool, is_err}
use Rattle.std.specs.List.{flat_map}
use Rattle.std.specs.Io.KnownBytes.{Appends}
use Rattle.std.proofs.KnownBytes.{Appends-nil, Appends-trans}
use Rattle.std.proofs.lemmas.List.{take-append-le, take_more, flat_map_more}
use Rattle.std.proofs.Math.Seq.{take-append-add}
use Rattle.std.specs.Char.{digit_char}
use Rattle.std.proofs.lemmas.Bool.{lt-ltb, le-ltb}
use Rattle.json.specs.Print.{escape_byte, escape_letter}
use Rattle.pc_source.specs.declared.counted.Counted.{Counted}
use Rattle.pc_source.specs.Devices.{failures_after}
use Rattle.pc_source.specs.Taken.{TakesAll, TakesBeginning}
use Rattle.pc_report.specs.declared.pieces.Pieces.{Pieces}
use Rattle.pc_report.specs.declared.writing.WriteFault.{WriteFault}
use Rattle.pc_report.specs.Pieces.{IsOnItsWay, Puts}
use Rattle.pc_report.specs.Writing.{IsWritten}

module _ {D : Type 0} (contents : D → Option (List ℕ)) where
  -- bytes on their way, by whether a call failed and by those that are held
  abbrev pub OnWay : (failed : Bool) (held put : List ℕ) (start now : Counted D) → Type 0
  OnWay failed held put start now =
      MatchBool failed (TakesBeginning contents put start now)
      ((taken : List ℕ) × TakesAll contents taken start now × (taken ++ held ≡ put))

  -- a beginning of bytes is one of these and more
  pub begins_more : (put bytes : List ℕ) (start now : Counted D) → TakesBeginning contents put start now
      → TakesBeginning contents (put ++ bytes) start now
  begins_more put bytes start now (n, within, taken, failures) = (
    n,
    omega (arith, within, length-append put bytes),
    subst (λ (l : List ℕ). Appends (contents start.device) (contents now.device) l)
        (sym (take-append-le n put bytes (omega (arith, within)))) taken,
    failures,
  )

  -- all of some bytes, and then a beginning of others
  pub begins_after : (taken bytes : List ℕ) (start old new : Counted D) → TakesAll contents taken start old
      → TakesBeginning contents bytes old new → TakesBeginning contents (taken ++ bytes) start new
  begins_after taken bytes start old new all (n, within, some, failures) = (
    length taken + n,
    omega (arith, within, length-append taken bytes),
    subst (λ (l : List ℕ). Appends (contents start.device) (contents new.device) l)
        (sym (take-append-add taken bytes n))
        (Appends-trans (contents start.device) (contents old.device) (contents new.device) taken (take n bytes) all.0
        some),
    failures ∙ ap (failures_after true) all.1,
  )

  pub all_after : (taken bytes : List ℕ) (start old new : Counted D) → TakesAll contents taken start old
      → TakesAll contents bytes old new → TakesAll contents (taken ++ bytes) start new
  all_after taken bytes start old new first then = (
    Appends-trans (contents start.device) (contents old.device) (contents new.device) taken bytes first.0 then.0,
    then.1 ∙ first.1,
  )

  -- after bytes that were written at once none are held
  pub written_after : (r : Result (Unit {0}) WriteFault) (taken bytes : List ℕ) (start old new : Counted D)
      → TakesAll contents taken start old → IsWritten contents bytes old new r
      → OnWay (is_err r) [] (taken ++ bytes) start new
  written_after (Ok done) taken bytes start old new all written = (
    taken ++ bytes,
    all_after taken bytes start old new all written,
    append-nil (taken ++ bytes),
  )
  written_after (Err e) taken bytes start old new all written = begins_after taken bytes start old new all written

  -- the held bytes are written
  pub let_out : (r : Result (Unit {0}) WriteFault) (held put : List ℕ) (start old new : Counted D)
      → OnWay false held put start old → IsWritten contents held old new r → OnWay (is_err r) [] put start new
  let_out r held put start old new (taken, all, is) written =
      subst (λ (l : List ℕ). OnWay (is_err r) [] l start new) is
      (written_after r taken held start old new all written)

  -- bytes are written at once, where none are held
  pub passed : (r : Result (Unit {0}) WriteFault) (put bytes : List ℕ) (start old new : Counted D)
      → OnWay false [] put start old → IsWritten contents bytes old new r
      → OnWay (is_err r) [] (put ++ bytes) start new
  passed r put bytes start old new (taken, all, is) written =
      subst (λ (l : List ℕ). OnWay (is_err r) [] (l ++ bytes) start new) (sym (append-nil taken) ∙ is)
      (written_after r taken bytes start old new all written)

  -- bytes are held
  pub held_more : (failed : Bool) (held more bytes put : List ℕ) (start now : Counted D) → more ≡ held ++ bytes
      → OnWay failed held put start now → OnWay failed more (put ++ bytes) start now
  held_more true held more bytes put start now is begun = begins_more put bytes start now begun
  held_more false held more bytes put start now is (taken, all, whole) = (
    taken,
    all,
    ap (λ (l : List ℕ). taken ++ l) is ∙ sym (append_assoc taken held bytes) ∙ ap (λ (l : List ℕ). l ++ bytes) whole,
  )

  -- the same, by equal parts
  pub way_is : (failed now_failed : Bool) (held now_held put now_put : List ℕ) (start now : Counted D)
      → failed ≡ now_failed → held ≡ now_held → put ≡ now_put → OnWay failed held put start now
      → OnWay now_failed now_held now_put start now
  way_is failed now_failed held now_held put now_put start now f h p way =
      subst (λ (b : Bool). OnWay b now_held now_put start now) f
      (subst (λ (l : List ℕ). OnWay failed l now_put start now) h
      (subst (λ (l : List ℕ). OnWay failed held l start now) p way))

  -- nothing is put yet
  pub begun : (failed : Bool) (held : List ℕ) (start : Counted D) → failed ≡ false → held ≡ []
      → OnWay failed held [] start start
  begun true held start f h = absurd (cc f)
  begun false held start f h = ([], (Appends-nil (contents start.device), refl), h)

  -- once all is let out: all was written, or a call failed after a beginning
  pub finished : (failed : Bool) (held put : List ℕ) (start now : Counted D) → failed ≡ false → held ≡ []
      → OnWay failed held (put ++ []) start now → TakesAll contents put start now
  finished true held put start now whole none way = absurd (cc whole)
  finished false held put start now whole none (taken, all, is) =
      subst (λ (l : List ℕ). TakesAll contents l start now)
      (sym (append-nil taken) ∙ ap (λ (l : List ℕ). taken ++ l) (sym none) ∙ is ∙ append-nil put) all

  pub begun_only : (failed : Bool) (held put : List ℕ) (start now : Counted D) → failed ≡ true
      → OnWay failed held (put ++ []) start now → TakesBeginning contents put start now
  begun_only false held put start now is way = absurd (cc is)
  begun_only true held put start now is way = subst (λ (l : List ℕ). TakesBeginning contents l start now)
      (append-nil put) way

  -- one after another
  pub puts_then : (a b : List ℕ) (old between new : Counted D) (p q r : Pieces) → Puts contents a old between p q
      → Puts contents b between new q r → Puts contents (a ++ b) old new p r
  puts_then a b old between new p q r first then put start way =
      subst (λ (l : List ℕ). IsOnItsWay contents l start new r) (append_assoc put a b)
      (then (put ++ a) start (first put start way))

  pub puts_none : (old : Counted D) (p : Pieces) → Puts contents [] old old p p
  puts_none old p put start way =
      subst (λ (l : List ℕ). IsOnItsWay contents l start old p) (sym (append-nil put)) way

-- ---- a byte in a JSON string

pub escape_short : (b l : ℕ) → l ≡ escape_letter b → 0 < l → escape_byte b ≡ 92 ∷ l ∷ []
unfolding escape_byte
escape_short b l is some = rw (sym is, lt-ltb 0 l some) refl

pub escape_long : (b l tens ones : ℕ) → l ≡ escape_letter b → l ≤ 0 → b < 32 → tens ≡ digit_char (b / 16)
    → ones ≡ digit_char (b % 16) → escape_byte b ≡ 92 ∷ 117 ∷ 48 ∷ 48 ∷ tens ∷ ones ∷ []
unfolding escape_byte
escape_long b l tens ones is none small t o = rw (sym is, le-ltb 0 l none, lt-ltb b 32 small, t, o) refl

pub escape_plain : (b l : ℕ) → l ≡ escape_letter b → l ≤ 0 → 32 ≤ b → escape_byte b ≡ b ∷ []
unfolding escape_byte
escape_plain b l is none big = rw (sym is, le-ltb 0 l none, le-ltb b 32 big) refl

-- ---- items one after another

-- the bytes of the first i items, and then those of the next one, are the bytes of the first i + 1 items
pub one_more : {X : Type 0} (f : X → List ℕ) (xs : List X) (i : ℕ) (d x : X) → i < length xs → x ≡ get_or xs i d
    → flat_map f (take i xs) ++ f x ≡ flat_map f (take (i + 1) xs)
one_more {X} f xs i d x within is = flat_map_more f [] (take i xs) x ∙ ap (flat_map f) (sym (take_more xs i d within
    ∙ ap (λ (y : X). take i xs ++ y ∷ []) (sym is)))
