-- Character boundaries of a text.
use Rattle.std.proofs.Common.{◌≡◌, ℕ, zero, suc, ◌<◌, Bool, true, List, IsUtf8, add-one, refl, arith}
use Rattle.std.specs.List.{prefix_len}
use Rattle.std.specs.Str.{IsCharBoundary}
use Rattle.std.proofs.lemmas.Bool.Decides.{nat_tests}
use Rattle.std.proofs.lemmas.List.Sums.{prefix_len-le-length, prefix_len_passes}
use Rattle.std.proofs.lemmas.Str.{IsCharBoundary-start, IsCharBoundary-after_ascii}
use Rattle.pc_token.specs.Numbers.{is_number_byte}

after_ascii_run : (p : ℕ → Bool) (bs : List ℕ) (n : ℕ) → prefix_len p bs ≡ n → IsUtf8 bs
    → ((c : ℕ) → p c ≡ true → c < 128) → IsCharBoundary bs n
after_ascii_run p bs zero e utf8 ascii = IsCharBoundary-start bs utf8
after_ascii_run p bs (suc k) e utf8 ascii =
    rw (← add-one) (IsCharBoundary-after_ascii bs k utf8 (omega (arith, prefix_len-le-length p bs))
    (ascii _ (prefix_len_passes p bs k 0 (omega arith))))

-- a run of ASCII bytes ends where a character does
pub IsCharBoundary-ascii_run : (p : ℕ → Bool) (bs : List ℕ) → IsUtf8 bs → ((c : ℕ) → p c ≡ true → c < 128)
    → IsCharBoundary bs (prefix_len p bs)
IsCharBoundary-ascii_run p bs = after_ascii_run p bs _ refl

number_byte : (b : ℕ) → is_number_byte b ≡ true → b < 128
number_byte b e = grind (arith, nat_tests)

-- the leading digits and underscores end on a character boundary
pub number_boundary : (bs : List ℕ) → IsUtf8 bs → IsCharBoundary bs (prefix_len is_number_byte bs)
number_boundary bs utf8 = IsCharBoundary-ascii_run is_number_byte bs utf8 number_byte
