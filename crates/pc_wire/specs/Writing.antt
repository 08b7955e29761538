-- The bytes that a device accepted of a message written to it. Own rule of the server.
use Rattle.std.specs.Prelude.{◌≡◌, ℕ, List, Option, Result, MatchResult}
use Rattle.pc_source.specs.declared.counted.Counted.{Counted}
use Rattle.pc_source.specs.Taken.{TakesAll, TakesBeginning}
use Rattle.pc_wire.specs.declared.fault.SendFault.{SendFault}
use Rattle.pc_wire.specs.declared.fault.SendFault.TheVariants.{OutOfMemory, Write}

module _ {D : Type 0} (contents : D → Option (List ℕ)) where
  -- the effect before each fault: none, or a proper prefix was written
  abbrev pub OnSendFault : List ℕ → Counted D → Counted D → SendFault → Type 0
  OnSendFault bytes old new OutOfMemory = new ≡ old
  OnSendFault bytes old new Write = TakesBeginning contents bytes old new

  -- all bytes were written; or an allocation failed and nothing was done; or a call of the device failed
  abbrev pub IsSent : List ℕ → Counted D → Counted D → Result (Unit {0}) SendFault → Type 0
  IsSent bytes old new result = MatchResult result (λ _. TakesAll contents bytes old new) (OnSendFault bytes old new)
