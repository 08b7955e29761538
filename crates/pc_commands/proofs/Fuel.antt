-- The fuel of a word, as `parse` reads it.
use Rattle.std.proofs.Common.{◌≡◌, ℕ, ◌^◌, ◌<◌, length, List, true, Option, Some, None, Result, Ok, Err, rules, arith}
use Rattle.std.specs.Str.{all_ascii_digits}
use Rattle.std.specs.Str.Parse.{digits_value, ParsesUnsigned}
use Rattle.std.specs.Result.{OkIff}
use Rattle.std.proofs.lemmas.Str.Parse.{IsNumeralModel, numerals_by_value, tells_all_ascii_digits, parse_digits}
use Rattle.pc_commands.specs.RunWords.{fuel_in}

own : IsNumeralModel (λ ds. all_ascii_digits ds ≡ true) (digits_value 10)
own = numerals_by_value _ tells_all_ascii_digits

-- the fuel in a result of `parse`, if there is one
abbrev pub kept : {E : Type 0} → Result ℕ E → Option ℕ
kept (Ok fuel) = Some fuel
kept (Err e) = None

-- `parse` succeeds on a word of digits alone exactly if it is not empty and its value fits 64 bits
says : {E : Type 0} (bs : List ℕ) (r : Result ℕ E) → all_ascii_digits bs ≡ true → ParsesUnsigned 64 10 bs r
    → OkIff r ((0 < length bs) × (digits_value 10 bs < 2 ^ 64)) (digits_value 10 bs)
says bs r digits parsed = parse_digits own 64 bs r parsed digits

as_fuel : {E : Type 0} (bs : List ℕ) (r : Result ℕ E) → all_ascii_digits bs ≡ true
    → OkIff r ((0 < length bs) × (digits_value 10 bs < 2 ^ 64)) (digits_value 10 bs) → kept r ≡ fuel_in bs
as_fuel bs (Ok fuel) digits said = search (rules, arith)
as_fuel bs (Err e) digits said = search (rules, arith)

pub read_fuel : {E : Type 0} (bs : List ℕ) (r : Result ℕ E) → all_ascii_digits bs ≡ true → ParsesUnsigned 64 10 bs r
    → kept r ≡ fuel_in bs
read_fuel bs r digits parsed = as_fuel bs r digits (says bs r digits parsed)
