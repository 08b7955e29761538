use Rattle.std.proofs.Common.{subst}
use Rattle.std.proofs.lemmas.Str.{IsCharBoundary-start}
use Rattle.pc_token.proofs.OneSplit.{one_list}
use Rattle.pc_token.specs.Splitting.{HasLines}
use Rattle.pc_token.proofs.WithinText.{lines_within}
use Rattle.pc_token.proofs.source_lines.lines.Goals as goal

pub invariant_of-result : goal.invariant_of-result
invariant_of-result c = record {
  on_boundary = IsCharBoundary-start c.text.result.now c.text.utf8;
  none_open = c.new.ensures.items;
}

pub returns-clause-one : goal.returns-clause-one
returns-clause-one c = one_list c.args.source.now

pub returns-clause-within : goal.returns-clause-within
returns-clause-within c = lines_within c.args.source.now _ (λ items h. subst (λ t. HasLines t items) c.text.ensures.text
    h)
