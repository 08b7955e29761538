-- The reason that there is no trace. Own rule of the profile.
use Rattle.std.specs.Prelude.{◌≡◌, ◌⊎◌}
use Rattle.pc_source.specs.declared.fault.Fault.{Fault}
use Rattle.pc_source.specs.declared.fault.Fault.TheVariants as fault
use Rattle.pc_source.specs.declared.fault.Refusal.{Refusal}
use Rattle.pc_report.specs.declared.reading.ReadFault.{ReadFault}
use Rattle.pc_report.specs.declared.reading.ReadFault.TheVariants as read_fault
use Rattle.pc_traced_file.specs.declared.fault.RunFault.{RunFault}
use Rattle.pc_traced_file.specs.declared.fault.RunFault.TheVariants as run_fault

-- the fault of a run for a refusal or a failed allocation
abbrev pub run_fault_of : Fault → RunFault
run_fault_of (fault.Refused refusal) = run_fault.Refused refusal
run_fault_of fault.OutOfMemory = run_fault.OutOfMemory

-- the fault of a run for a fault of reading
abbrev pub fault_of_read : ReadFault → RunFault
fault_of_read read_fault.OutOfMemory = run_fault.OutOfMemory
fault_of_read read_fault.Read = run_fault.Read

-- P holds of the refusal, if the fault is one
abbrev pub WhenRefused : (Refusal → Type 0) → RunFault → Type 0
WhenRefused P (run_fault.Refused refusal) = P refusal
WhenRefused P _ = Unit {0}

-- the fault is not that of the writer
abbrev pub IsBeforeWriting : RunFault → Type 0
IsBeforeWriting run_fault.Write = ⊥
IsBeforeWriting _ = Unit {0}

-- the fault is unchanged, or that of an allocation that failed when the line of a refusal was made
abbrev pub IsExplainedAs : (old new : RunFault) → Type 0
IsExplainedAs (run_fault.Refused refusal) new = (new ≡ run_fault.Refused refusal) ⊎ (new ≡ run_fault.OutOfMemory)
IsExplainedAs old new = new ≡ old
