use Rattle.std.proofs.Common.{refl, arith}
use Rattle.std.proofs.lemmas.Str.Pattern.{strip_prefix_char}
use Rattle.pc_reader.proofs.Quotes.{opened, not_opened}
use Rattle.pc_reader.proofs.name.without_first_quote.Goals as goal

pub returns-in-Some : goal.returns-in-Some
returns-in-Some c = opened _ _ 39 refl (rw c.in-Some.is at (strip_prefix_char 39 c.args.text.now c.strip_prefix.result
    c.strip_prefix.ensures.cases (omega arith)))

pub returns : goal.returns
returns c = not_opened c.args.text.now (rw c.in_default.is at
    (strip_prefix_char 39 c.args.text.now c.strip_prefix.result c.strip_prefix.ensures.cases (omega arith)))
    (rw c.in_default-strip_prefix.is at (strip_prefix_char 34 c.args.text.now c.strip_prefix-2.result
    c.strip_prefix-2.ensures.cases (omega arith)))
