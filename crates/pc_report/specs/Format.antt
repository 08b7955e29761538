-- The formats of a report. Own rule of the profile.
use Rattle.std.specs.Prelude.{ℕ}
use Rattle.pc_report.specs.declared.format.Format.{Format}
use Rattle.pc_report.specs.declared.format.Format.TheVariants.{One, Two}

-- the number that names a format
abbrev pub format_number : Format → ℕ
format_number One = 1
format_number Two = 2
