-- Conditions on the error of a call.
use Rattle.pc_source.specs.declared.fault.Refusal.{Refusal}
use Rattle.pc_source.specs.declared.fault.Fault.{Fault}
use Rattle.pc_source.specs.declared.fault.Fault.TheVariants.{Refused, OutOfMemory}

-- P holds of the fault if it is a refusal; a failed allocation satisfies every P
abbrev pub OnRefusal : (Refusal → Type 0) → Fault → Type 0
OnRefusal P (Refused refusal) = P refusal
OnRefusal P OutOfMemory = Unit {0}
