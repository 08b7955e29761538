-- The outcome of a read: a message, none at the end, or a fault. Own rule of the server.
use Rattle.std.specs.Prelude.{◌≡◌, ℕ, ◌<◌, ◌⊎◌, List, [], ◌++◌, length, Option, None, Some, Ok, Err, true}
use Rattle.std.specs.Io.KnownBytes.{Consumes, IsAtEnd}
use Rattle.pc_source.specs.Devices.{failures_after}
use Rattle.pc_source.specs.declared.counted.Counted.{Counted}
use Rattle.pc_wire.specs.declared.fault.FrameFault.{FrameFault}
use Rattle.pc_wire.specs.declared.fault.FrameFault.TheVariants.{OutOfMemory, Read, Cut, LongHeader, Header, LongMessage}
use Rattle.pc_wire.specs.declared.fault.HeaderFault.{HeaderFault}
use Rattle.pc_wire.specs.Fields.{length_in}
use Rattle.pc_wire.specs.Frames.{IsFrame, IsHeader, IsUnended, IsShort, IsLong, header_limit}

-- the bytes are a header and less than the message that it announces
pub record IsCutMessage (bytes : List ℕ) : Type 0 where
  pub header : List ℕ
  pub part : List ℕ
  pub named : ℕ
  pub is_header : IsHeader header
  pub names : length_in header ≡ Ok named
  pub less : length part < named
  pub spelled : bytes ≡ header ++ part

-- the bytes are a header that gives no length, with this fault
pub record NamesNone (fault : HeaderFault) (bytes : List ℕ) : Type 0 where
  pub is_header : IsHeader bytes
  pub none : length_in bytes ≡ Err fault

-- the fault of the bytes that were read: the end cuts off a header or a message, a header does not end within the
-- limit, or a header gives no length; faults of memory, of the device and of long messages are not constrained here
abbrev pub IsFaultOf : List ℕ → FrameFault → Type 0
IsFaultOf bytes OutOfMemory = Unit {0}
IsFaultOf bytes Read = Unit {0}
IsFaultOf bytes Cut = (IsUnended bytes × (0 < length bytes)) ⊎ IsCutMessage bytes
IsFaultOf bytes LongHeader = IsUnended bytes × (length bytes ≡ header_limit)
IsFaultOf bytes LongMessage = Unit {0}
IsFaultOf bytes (Header fault) = NamesNone fault bytes

module _ {D : Type 0} (remaining : D → Option (List ℕ)) where
  -- the device gave exactly these bytes, and no call failed
  abbrev pub Gives : List ℕ → Counted D → Counted D → Type 0
  Gives bytes old new = Consumes (remaining old.device) (remaining new.device) bytes × (new.failures ≡ old.failures)

  -- the device gave bytes that have this fault
  abbrev pub GivesFaulty : FrameFault → Counted D → Counted D → Type 0
  GivesFaulty fault old new = (bytes : List ℕ) × Gives bytes old new × IsFaultOf bytes fault

  -- the device gave a whole framed message
  abbrev pub GivesFrame : List ℕ → Counted D → Counted D → Type 0
  GivesFrame message old new = (bytes : List ℕ) × Gives bytes old new × IsFrame bytes message

  -- why no message was read: the device gave a whole framed message, which is lost, as an allocation failed or the
  -- message is over the limit; the last call of the device failed; the device is at its end, and its bytes are cut off;
  -- or its bytes have the fault
  abbrev pub IsBroken : FrameFault → Counted D → Counted D → Type 0
  IsBroken OutOfMemory old new = (message : List ℕ) × GivesFrame message old new × IsShort message
  IsBroken LongMessage old new = (message : List ℕ) × GivesFrame message old new × IsLong message
  IsBroken Read old new = new.failures ≡ failures_after true old.failures
  IsBroken Cut old new = GivesFaulty Cut old new × IsAtEnd (remaining new.device)
  IsBroken fault old new = GivesFaulty fault old new

  -- the result of a read: a message within the limit, or none at the end
  abbrev pub IsFound : Option (List ℕ) → Counted D → Counted D → Type 0
  IsFound None old new = Gives [] old new × IsAtEnd (remaining new.device)
  IsFound (Some message) old new = GivesFrame message old new × IsShort message
