-- The exit status of an outcome. Own rule of the profile.
use Rattle.std.specs.Prelude.{ℕ, zero, suc, Result, Ok, Err}
use Rattle.pc_top.specs.declared.fault.CheckFault.{CheckFault}
use Rattle.pc_top.specs.declared.fault.CheckFault.TheVariants as check_fault
use Rattle.pc_top.specs.declared.stream.FindingCounts.{FindingCounts}

-- the exit status of a number of errors: 0 without, 1 with errors
abbrev pub of_errors : ℕ → ℕ
of_errors zero = 0
of_errors (suc n) = 1

-- the exit status of an outcome: 0 without errors, 1 with errors, 2 after a refusal, 3 if memory or a device failed
abbrev pub status : Result FindingCounts CheckFault → ℕ
status (Ok counts) = of_errors counts.errors
status (Err (check_fault.Refused refusal)) = 2
status (Err check_fault.OutOfMemory) = 3
status (Err check_fault.Read) = 3
status (Err check_fault.Write) = 3
