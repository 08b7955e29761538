-- Bytes that a device has accepted after one more call.
use Rattle.std.proofs.Common.{◌≡◌, ℕ, ◌==◌, ◌<◌, ◌+◌, ◌-◌, ◌≤◌, Bool, ◌&&◌, nat_lt, List, ◌++◌, length, take, drop}
use Rattle.std.proofs.Common.{Option, sym, ap, ap₂, ◌∙◌, subst, arith}
use Rattle.std.specs.Io.KnownBytes.{Appends}
use Rattle.std.proofs.KnownBytes.{Appends-trans}
use Rattle.pc_source.specs.Devices.{failures_after}
use Rattle.std.proofs.lemmas.Bool.{ne_eqb}
use Rattle.std.proofs.lemmas.List.{take-append-drop, take-take, drop-take}

take_plus : (m n : ℕ) (xs : List ℕ) → take (m + n) xs ≡ take m xs ++ take n (drop m xs)
take_plus m n xs = sym (take-append-drop m (take (m + n) xs))
    ∙ ap₂ (λ x y. x ++ y) (take-take m (m + n) xs (omega arith)) (drop-take m n xs)

-- a call that was given what is left of the bytes, and took n of them
pub takes_more : (a b c : Option (List ℕ)) (bytes : List ℕ) (at n : ℕ) → at + n ≤ length bytes
    → Appends a b (take at bytes) → Appends b c (take n (take (length bytes - at) (drop at bytes)))
    → Appends a c (take (at + n) bytes)
takes_more a b c bytes at n within p q =
    let taken : Appends b c (take n (drop at bytes)) = subst (λ (l : List ℕ). Appends b c l)
    (take-take n (length bytes - at) (drop at bytes) (omega arith)) q in
    subst (λ (l : List ℕ). Appends a c l) (sym (take_plus at n bytes))
    (Appends-trans a b c (take at bytes) (take n (drop at bytes)) p taken)

-- a write that takes some bytes is no failed call
pub counts_none : (len count failures : ℕ) → 0 < count → failures_after ((count == 0) && nat_lt 0 len) failures
    ≡ failures
counts_none len count failures some = ap (λ (b : Bool). failures_after (b && nat_lt 0 len) failures)
    (ne_eqb count 0 (λ e. omega arith))
