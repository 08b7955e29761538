use Rattle.std.proofs.Common.{◌≡◌, ◌≤◌, ◌+◌, ℕ, List, ◌++◌, length, take, length-append, sym, arith, rules}
use Rattle.std.proofs.KnownBytes.{Consumes-trans}
use Rattle.pc_wire.proofs.receiving.skip_body.Goals as goal

pub pieces-preserved : goal.pieces-preserved
pieces-preserved g c =
    let before : List ℕ = c.pieces.invariant.bytes in
    let more : List ℕ = take c.in-Ok.count c.read.new.buf in
    let size : length more ≡ c.in-Ok.count = sym c.in-Ok.ensures.bound.1 in
    let within : c.in-Ok.count ≤ c.pieces.left = search rules in
    let kept : length before + c.pieces.left ≡ c.args.len = c.pieces.invariant.all in
    let grown : length (before ++ more) ≡ length before + length more = length-append before more in
    record {
      bytes = before ++ more;
      given = Consumes-trans _ _ _ before more c.pieces.invariant.given c.in-Ok.ensures.bytes.0;
      all = omega arith;
      failures = search rules;
    }
