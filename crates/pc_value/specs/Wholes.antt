-- Whole numbers of the program, by their sign.
use Rattle.std.specs.Prelude.{ℤ, pos, negsuc, if◌then◌else◌, Option, Some, None}
use Rattle.pc_value.specs.declared.whole.WholeNumber.{WholeNumber}
use Rattle.pc_value.specs.declared.whole.WholeNumber.TheVariants.{AtLeastZero, BelowZero}
use Rattle.pc_value.specs.Value.{whole, Cut}
use Rattle.pc_value.specs.Actions.{Outcome, gives, stops}
use Rattle.pc_value.specs.Numbers.{fits}

-- the number of a sign and a count: up from 0, or down from -1
abbrev pub whole_of : WholeNumber → ℤ
whole_of (AtLeastZero n) = pos n
whole_of (BelowZero n) = negsuc n

-- a whole number, if it fits 128 signed bits
abbrev pub if_it_fits : ℤ → Option ℤ
if_it_fits n = if fits n then Some n else None

-- the outcome of a computed number; none means that it did not fit, and cuts the run off
abbrev pub made_outcome : Option ℤ → Outcome
made_outcome None = stops Cut
made_outcome (Some n) = gives (whole n)
