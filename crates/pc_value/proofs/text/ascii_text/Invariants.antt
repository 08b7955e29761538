use Rattle.std.proofs.Common.{◌≡◌, take}
use Rattle.pc_value.proofs.text.ascii_text.Given as goal

abbrev pub invariant-loop-byte : goal.invariant-loop-byte
invariant-loop-byte l = l.characters.items ≡ take l.byte-index l.byte-items
