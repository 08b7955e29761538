use Rattle.std.proofs.Common.{false, ap, ◌∙◌, arith}
use Rattle.std.proofs.lemmas.List.FromFn.{get_or-map-range_with_len}
use Rattle.pc_token.specs.Internal.WordBytes.{is_word_byte}
use Rattle.pc_token.proofs.name.is_word_byte.Goals as goal

pub returns : goal.returns
returns c =
    get_or-map-range_with_len is_word_byte 0 256 c.from.result c.from.result false (omega (arith, c.from.ensures))
    (omega arith)
    ∙ ap is_word_byte c.from.ensures
