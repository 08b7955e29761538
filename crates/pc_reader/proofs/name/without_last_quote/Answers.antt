use Rattle.std.proofs.Common.{refl, arith}
use Rattle.std.proofs.lemmas.Str.Pattern.{strip_suffix_char}
use Rattle.pc_reader.proofs.Quotes.{closed, not_closed}
use Rattle.pc_reader.proofs.name.without_last_quote.Goals as goal

pub returns-in-Some : goal.returns-in-Some
returns-in-Some c = closed _ _ 39 refl (rw c.in-Some.is at (strip_suffix_char 39 c.args.text.now c.strip_suffix.result
    c.strip_suffix.ensures.cases (omega arith)))

pub returns-in-Some-strip_suffix : goal.returns-in-Some-strip_suffix
returns-in-Some-strip_suffix c = closed _ _ 34 refl (rw c.in-Some-strip_suffix.is at
    (strip_suffix_char 34 c.args.text.now c.strip_suffix-2.result c.strip_suffix-2.ensures.cases (omega arith)))

pub returns : goal.returns
returns c = not_closed c.args.text.now (rw c.in_default.is at
    (strip_suffix_char 39 c.args.text.now c.strip_suffix.result c.strip_suffix.ensures.cases (omega arith)))
    (rw c.in_default-strip_suffix.is at (strip_suffix_char 34 c.args.text.now c.strip_suffix-2.result
    c.strip_suffix-2.ensures.cases (omega arith)))
