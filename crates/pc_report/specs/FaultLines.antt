-- The line on standard error of a program that has no answer. Own rule of the profile.
use Rattle.std.specs.Prelude.{◌≡◌, ℕ, ◌⊎◌, List, Option, ◌++◌, codes, decimal}
use Rattle.pc_source.specs.declared.counted.Counted.{Counted}
use Rattle.pc_source.specs.declared.fault.Fault.{Fault}
use Rattle.pc_source.specs.declared.fault.Fault.TheVariants as fault
use Rattle.pc_source.specs.declared.fault.Refusal.{Refusal}
use Rattle.pc_source.specs.Refusals.{code_text}
use Rattle.pc_source.specs.Taken.{TakesAll, TakesBeginning}

-- the line of a refusal: its code and its byte
abbrev pub refusal_line : Refusal → List ℕ
refusal_line r = codes "refused " ++ code_text r.code ++ codes " at byte " ++ decimal r.byte ++ codes "\n"

-- the line of a failed allocation
abbrev pub memory_line : List ℕ
memory_line = codes "out of memory\n"

-- the line of a fault
abbrev pub fault_line : Fault → List ℕ
fault_line (fault.Refused refusal) = refusal_line refusal
fault_line fault.OutOfMemory = memory_line

-- the fault is unchanged, or that of an allocation that failed when the line of a refusal was made
abbrev pub IsFaultToldOf : (old new : Fault) → Type 0
IsFaultToldOf (fault.Refused refusal) new = (new ≡ fault.Refused refusal) ⊎ (new ≡ fault.OutOfMemory)
IsFaultToldOf fault.OutOfMemory new = new ≡ fault.OutOfMemory

module _ {W : Type 0} (contents : W → Option (List ℕ)) where
  -- the writer accepted all of a line, or a beginning of it, after which a call failed
  abbrev pub IsTold : List ℕ → Counted W → Counted W → Type 0
  IsTold line old new = TakesAll contents line old new ⊎ TakesBeginning contents line old new
