use Rattle.std.proofs.Common.{arith}
use Rattle.pc_position.specs.declared.positions.Encoding.TheVariants.{Utf32}
use Rattle.pc_position.proofs.Counts.{characters_alike}
use Rattle.pc_position.proofs.laws.alike_on_ascii.Goals as goal

pub returns : goal.returns
returns c = λ encoding text byte ascii. omega (arith, characters_alike encoding Utf32 text byte ascii)
