-- Laws of the refusals of a source.
use Rattle.std.specs.Prelude.{◌≡◌, ℕ, ◌≤◌, List, length}
use Rattle.pc_source.specs.declared.fault.Refusal.{Refusal}
use Rattle.pc_source.specs.Text.{IsSourceRefusal}

-- bytes have at most one refusal as a source
abbrev pub OneRefusal : Type 0
OneRefusal = (bytes : List ℕ) (refusal other : Refusal) → IsSourceRefusal bytes refusal → IsSourceRefusal bytes other
    → refusal ≡ other

-- a refusal is at a byte from 0 to the length of the bytes
abbrev pub RefusalsWithin : Type 0
RefusalsWithin = (bytes : List ℕ) (refusal : Refusal) → IsSourceRefusal bytes refusal → refusal.byte ≤ length bytes
