-- The exit status of an outcome. Own rule of the profile.
use Rattle.std.specs.Prelude.{ℕ, Result, Ok, Err}
use Rattle.pc_traced_file.specs.declared.fault.RunFault.{RunFault}
use Rattle.pc_traced_file.specs.declared.fault.RunFault.TheVariants as run_fault

-- the exit status of an outcome: 0 with a trace, 2 after a refusal, 3 if memory or a device failed
abbrev pub status : Result (Unit {0}) RunFault → ℕ
status (Ok done) = 0
status (Err (run_fault.Refused refusal)) = 2
status (Err run_fault.OutOfMemory) = 3
status (Err run_fault.Read) = 3
status (Err run_fault.Write) = 3
