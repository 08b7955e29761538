-- The outcome of reading a message, from its header and its bytes.
use Rattle.std.proofs.Common.{◌≡◌, ℕ, ◌<◌, ◌≤◌, List, ◌++◌, length, take, length-append, sym, ap, subst, ◌∙◌, inl, inr}
use Rattle.std.proofs.Common.{refl, true, false, below_more, arith}
use Rattle.std.specs.Prelude.{Option, Ok, ◌+◌, Bool}
use Rattle.pc_source.specs.Devices.{failures_after}
use Rattle.std.proofs.KnownBytes.{Consumes-trans}
use Rattle.std.proofs.lemmas.Bool.{true≢false}
use Rattle.std.proofs.lemmas.List.{take_all, take-append-le}
use Rattle.pc_source.specs.declared.counted.Counted.{Counted}
use Rattle.pc_wire.specs.declared.fault.FrameFault.{FrameFault}
use Rattle.pc_wire.specs.declared.fault.FrameFault.TheVariants.{OutOfMemory, Read, Cut, LongHeader, Header, LongMessage}
use Rattle.pc_wire.specs.Fields.{length_in}
use Rattle.pc_wire.specs.Faults.{Gives, GivesFrame, IsBroken}
use Rattle.pc_wire.specs.Frames.{IsHeader, ends_header, IsShort, IsLong, message_limit}
use Rattle.pc_wire.specs.Reading.{IsHeaderRead, OnHeaderFault, IsBodyRead, OnBodyFault}

-- one byte more of a header that has not ended
pub unended_more : (header more : List ℕ) → length more ≤ 1 → ends_header header ≡ false
    → ((k : ℕ) → k < length header → ends_header (take k header) ≡ false)
    → (k : ℕ) → k < length (header ++ more) → ends_header (take k (header ++ more)) ≡ false
unended_more header more one here before k lt =
    let P : ℕ → Type 0 = λ n. ends_header (take n header) ≡ false in
    let all : take (length header) header ≡ header = take_all (length header) header (omega arith) in
    let near : k < length header + 1 = omega (arith, length-append header more) in
    let within : k ≤ length header = omega arith in
    let known : ends_header (take k header) ≡ false = below_more P (length header) before (ap ends_header all ∙ here) k
    near in
    ap ends_header (take-append-le k header more within) ∙ known

module _ {D : Type 0} (remaining : D → Option (List ℕ)) where
  gives_trans : (xs ys : List ℕ) (old mid new : Counted D) → Gives remaining xs old mid → Gives remaining ys mid new
      → Gives remaining (xs ++ ys) old new
  gives_trans xs ys old mid new a b = (
    Consumes-trans (remaining old.device) (remaining mid.device)
        (remaining new.device) xs ys a.0 b.0,
    b.1 ∙ a.1,
  )

  pub header_broken : (bytes : List ℕ) (old new : Counted D) (fault : FrameFault)
      → OnHeaderFault remaining bytes old new fault → IsBroken remaining fault old new
  header_broken bytes old new OutOfMemory h = absurd h
  header_broken bytes old new Read h = h
  header_broken bytes old new Cut h = ((bytes, h.0, inl h.1), h.2)
  header_broken bytes old new LongHeader h = (bytes, h.0, h.1)
  header_broken bytes old new (Header fault) h = absurd h
  header_broken bytes old new LongMessage h = absurd h

  -- a header was read where the answer is that one was
  pub header_read : (some : Bool) (bytes : List ℕ) (old new : Counted D) → some ≡ true
      → IsHeaderRead remaining some bytes old new → Gives remaining bytes old new × IsHeader bytes
  header_read true bytes old new e h = h
  header_read false bytes old new e h = absurd (true≢false (sym e))

  pub body_broken : (header part : List ℕ) (len : ℕ) (old mid new : Counted D) (fault : FrameFault)
      → Gives remaining header old mid → IsHeader header → length_in header ≡ Ok len
      → OnBodyFault remaining len part mid new fault → IsBroken remaining fault old new
  body_broken header part len old mid new OutOfMemory given is_header named h = absurd h
  body_broken header part len old mid new Read given is_header named h =
      subst (λ (n : ℕ). new.failures ≡ failures_after true n) given.1 h
  body_broken header part len old mid new Cut given is_header named h = (
    (
      header ++ part,
      gives_trans header part old mid new given h.0,
      inr (record {
        header = header;
        part = part;
        named = len;
        is_header = is_header;
        names = named;
        less = h.1;
        spelled = refl;
      }),
    ),
    h.2,
  )
  body_broken header part len old mid new LongHeader given is_header named h = absurd h
  body_broken header part len old mid new (Header fault) given is_header named h = absurd h
  body_broken header part len old mid new LongMessage given is_header named h = absurd h

  pub whole_frame : (header message : List ℕ) (len : ℕ) (old mid new : Counted D)
      → Gives remaining header old mid → IsHeader header → length_in header ≡ Ok len
      → IsBodyRead remaining len message mid new → GivesFrame remaining message old new
  whole_frame header message len old mid new given is_header named read = (
    header ++ message,
    gives_trans header message old mid new given read.0,
    record {
      header = header;
      is_header = is_header;
      named = subst (λ (n : ℕ). length_in header ≡ Ok n) (sym read.1) named;
      spelled = refl;
    },
  )

  -- a message within the limit was read whole
  pub short_frame : (header message : List ℕ) (len : ℕ) (old mid new : Counted D)
      → Gives remaining header old mid → IsHeader header → length_in header ≡ Ok len → len ≤ message_limit
      → IsBodyRead remaining len message mid new → GivesFrame remaining message old new × IsShort message
  short_frame header message len old mid new given is_header named short read = (
    whole_frame header message len old mid new given is_header named read,
    subst (λ (n : ℕ). n ≤ message_limit) (sym read.1) short,
  )

  -- a message over the limit was read whole
  pub long_frame : (header message : List ℕ) (len : ℕ) (old mid new : Counted D)
      → Gives remaining header old mid → IsHeader header → length_in header ≡ Ok len → message_limit < len
      → IsBodyRead remaining len message mid new → GivesFrame remaining message old new × IsLong message
  long_frame header message len old mid new given is_header named long read = (
    whole_frame header message len old mid new given is_header named read,
    subst (λ (n : ℕ). message_limit < n) (sym read.1) long,
  )
