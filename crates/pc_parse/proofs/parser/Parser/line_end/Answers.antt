use Rattle.std.proofs.Common.{refl, ap, ◌∙◌}
use Rattle.std.proofs.lemmas.Result.{err_from_is_err_and}
use Rattle.pc_token.specs.declared.token.TokenKind.TheVariants as kind
use Rattle.pc_grammar.specs.Machine.States.{stuck, on}
use Rattle.pc_reader.proofs.Streams.{blame}
use Rattle.pc_reader.proofs.Steps.{step_to, meets}
use Rattle.pc_parse.proofs.parser.Parser.line_end.Goals as goal

pub returns-in_err-expect : goal.returns-in_err-expect
returns-in_err-expect g c = let p = err_from_is_err_and c.from_residual.result c.from_residual.ensures.1 in
    rw (p.1, p.2)
    (blame (λ o w. λ st next h. w st (record {
      unfinished = h.unfinished;
      stuck_at = λ t e f. h.turns t e
          ∙ ap (λ z. on z next stuck) f;
    })) c.in_err-expect.ensures.taken)

pub returns : goal.returns
returns g c = let t = c.in_ok-expect.ensures.taken in (
  refl,
  record {
    deep = refl;
    ready = t.ready;
    later = t.later;
    leads = λ st next h. step_to st next t
        (h.turns _ t.here ∙ meets kind.Newline _ next c.in_ok-expect.ensures.kind);
  },
)
