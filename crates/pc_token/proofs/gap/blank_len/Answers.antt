use Rattle.std.proofs.Common.{ap, ◌∙◌, ◌+◌, ◌==◌, arith}
use Rattle.std.specs.List.{prefix_len}
use Rattle.std.proofs.lemmas.List.Sums.{prefix_len-le-length}
use Rattle.pc_token.specs.Gaps.{is_blank}
use Rattle.pc_token.proofs.WordBytes.{blanks_split}
use Rattle.pc_token.proofs.gap.blank_len.Goals as goal

pub bytes_from-rest-requires : goal.bytes_from-rest-requires
bytes_from-rest-requires c = omega (arith, c.requires, prefix_len-le-length (λ b. b == 32) c.args.bytes.now)

pub returns-clause-len : goal.returns-clause-len
returns-clause-len c =
    ap (λ n. c.args.spaces + n) (c.run_len-more.ensures.len ∙ ap (prefix_len is_blank) c.bytes_from-rest.ensures.value)
    ∙ blanks_split c.args.bytes.now c.args.spaces c.requires

pub returns-clause-within : goal.returns-clause-within
returns-clause-within c = omega (arith, c.run_len-more.ensures.within, c.bytes_from-rest.ensures.len)
