-- Places and faults within a text of a given length. Own rule of the profile.
use Rattle.std.specs.Prelude.{ℕ, ◌≤◌}
use Rattle.pc_source.specs.Answers.{OnRefusal}
use Rattle.pc_source.specs.declared.fault.Fault.{Fault}
use Rattle.pc_source.specs.declared.place.Place.{Place}

-- the place lies within a text of this length: its start is at most its end, and its end at most the length
abbrev pub StandsWithin : ℕ → Place → Type 0
StandsWithin len place = (place.start ≤ place.end) × (place.end ≤ len)

-- the fault, if it is a refusal, is at a byte from 0 to this length
abbrev pub IsWithin : ℕ → Fault → Type 0
IsWithin len = OnRefusal (λ refusal. refusal.byte ≤ len)
