use Rattle.std.proofs.Common.{refl}
use Rattle.pc_reader.proofs.reader.Reader.take_place.Goals as goal

pub returns : goal.returns
returns g c = record {
  token = c.in_ok-token.token;
  takes = c.in_ok-token.ensures;
  starts = refl;
  ends = refl;
}
