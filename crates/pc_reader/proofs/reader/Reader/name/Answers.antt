use Rattle.std.proofs.Common.{ap, sym, ◌∙◌}
use Rattle.std.proofs.lemmas.Result.{err_from_is_err_and}
use Rattle.pc_token.specs.declared.token.TokenKind.TheVariants as kind
use Rattle.pc_grammar.specs.Machine.{at}
use Rattle.pc_reader.specs.Reading.{IsAhead}
use Rattle.pc_reader.proofs.Streams.{blame}
use Rattle.pc_reader.proofs.SameKind.{same_is}
use Rattle.pc_reader.proofs.Steps.{not_seen, skipped, nothing_ahead}
use Rattle.pc_reader.proofs.reader.Reader.name.Goals as goal

pub returns-in_default : goal.returns-in_default
returns-in_default g c = blame (λ o w. λ st n. w st (record {
  unfinished = n.unfinished;
  stuck_at = λ t e. absurd (nothing_ahead c.in_default.is e);
})) c.misfit.ensures

pub returns-then-not-is_same : goal.returns-then-not-is_same
returns-then-not-is_same g c = blame (λ o w. λ st n. w st (record {
  unfinished = n.unfinished;
  stuck_at = λ t e. n.stuck_at t e (not_seen kind.Name (ap (IsAhead kind.Name) c.in-Some.is ∙ sym c.is_same.ensures
      ∙ c.if-not-is_same.true) e);
})) c.misfit-then-not-is_same.ensures

pub returns-in_err-skip : goal.returns-in_err-skip
returns-in_err-skip g c = let p = err_from_is_err_and c.from_residual-in_err-skip.result
    c.from_residual-in_err-skip.ensures.1 in
    rw (p.1, p.2) (blame (λ o w. λ st n. w (at st) (λ _. n.unfinished)) c.in_err-skip.ensures)

pub returns : goal.returns
returns g c = record {
  token = c.in-Some.token;
  takes = skipped c.in-Some.is c.in_ok-skip.ensures;
  is = same_is c.in-Some.token.kind kind.Name (sym c.is_same.ensures ∙ c.if-not-is_same.false);
  name = c.in_ok-name.ensures;
}
