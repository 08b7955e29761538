use Rattle.std.proofs.Common.{[], subst, append-nil}
use Rattle.std.proofs.lemmas.Result.{err_from_is_err_and}
use Rattle.pc_token.specs.Remaining.{all_read}
use Rattle.pc_token.specs.Splitting.{HasLines}
use Rattle.pc_token.proofs.AllLines.{refused_after_lines, only}
use Rattle.pc_token.proofs.WithinText.{answer_within}
use Rattle.pc_token.proofs.source_lines.tokens.Goals as goal

pub returns-in_err-line-clause-refused : goal.returns-in_err-line-clause-refused
returns-in_err-line-clause-refused c =
    let p = err_from_is_err_and c.from_residual.result c.from_residual.ensures.1 in
    let steps = rw c.in_err-line.was at c.in-Some.ensures.steps in
    rw (p.1, p.2) (refused_after_lines c.args.source.now c.loop-line.found.items c.loop-line.line-iterator
    c.in_err-line.field-0.0 c.loop-line.invariant steps.1)

pub returns-clause-read : goal.returns-clause-read
returns-clause-read c =
    let found = c.loop-line.found.items in
    only c.args.source.now (all_read found) (subst (HasLines c.args.source.now) (append-nil (all_read found))
    (c.loop-line.invariant [] c.in-None.ensures.steps.0))

pub returns-in_err-line-clause-within : goal.returns-in_err-line-clause-within
returns-in_err-line-clause-within c = answer_within c.args.source.now _ (returns-in_err-line-clause-refused c)
