use Rattle.std.proofs.Common.{subst, sym}
use Rattle.std.specs.Str.{IsCharBoundary}
use Rattle.pc_token.proofs.Boundaries.{number_boundary}
use Rattle.pc_token.proofs.number.is_bad_number.Goals as goal

pub continues_word-requires : goal.continues_word-requires
continues_word-requires c =
    let rest = c.range_from-rest.result.now in
    let len = c.number_len-len.ensures.len in
    let same = c.as_bytes.ensures.value in
    subst (IsCharBoundary rest) (rw (← same) (sym len)) (number_boundary rest c.range_from-rest.utf8)
