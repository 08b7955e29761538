use Rattle.std.proofs.Common.{◌≡◌, ◌++◌, drop}
use Rattle.pc_session.specs.Spoiled.{mended, mended_from}
use Rattle.pc_session.proofs.spoiled.mended.Given as goal

abbrev pub invariant-loop-byte : goal.invariant-loop-byte
invariant-loop-byte l =
    mended l.bytes ≡ l.mended.items ++ mended_from l.place (drop l.byte-index l.bytes)
