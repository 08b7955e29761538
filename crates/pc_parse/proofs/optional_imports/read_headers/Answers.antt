use Rattle.std.proofs.Common.{refl, arith, sym, ◌∙◌}
use Rattle.std.proofs.lemmas.Result.{err_from_is_err_and}
use Rattle.pc_token.specs.declared.token.TokenKind.TheVariants as kind
use Rattle.pc_token.specs.declared.token.Keyword.TheVariants as word
use Rattle.pc_reader.proofs.Steps.{kind_seen}
use Rattle.pc_reader.proofs.Streams.{blame}
use Rattle.std.specs.Prelude.{codes}
use Rattle.pc_grammar.specs.Machine.{at}
use Rattle.pc_grammar.specs.Machine.Lines.{start, no_top}
use Rattle.pc_grammar.specs.Machine.States.{after_future, after_dataclasses, items}
use Rattle.pc_reader.proofs.Words.{kind_due}
use Rattle.pc_parse.specs.Internal.Modules.{import_words}
use Rattle.pc_parse.proofs.Imports.{dataclassed, headed, begun, future_fails, typing_fails, typed, dataclasses_fail}
use Rattle.pc_parse.proofs.Imports.{classed, then_typing_fails, then_typed}
use Rattle.pc_parse.proofs.optional_imports.read_headers.Goals as goal

pub returns-in_err-expect : goal.returns-in_err-expect
returns-in_err-expect g c = let p = err_from_is_err_and c.from_residual.result c.from_residual.ensures.1 in
    rw (p.1, p.2)
    (blame (λ o w. w start (kind_due (kind.Keyword word.From)
    (import_words (codes "__future__") (codes "annotations")) (items after_future no_top)))
    c.in_err-expect.ensures.taken)

pub returns-in_err-imports : goal.returns-in_err-imports
returns-in_err-imports g c = let p = err_from_is_err_and c.from_residual-in_err-imports.result
    c.from_residual-in_err-imports.ensures.1 in
    rw (p.1, p.2) (future_fails c.in_ok-expect.ensures.taken c.in_ok-expect.ensures.kind c.in_err-imports.ensures)

pub returns-then-not-sees : goal.returns-then-not-sees
returns-then-not-sees g c = record {
  ready = c.in_ok-imports.ensures.ready;
  later =
      omega (arith, c.in_ok-expect.ensures.taken.later, c.in_ok-imports.ensures.later);
  leads =
      λ o y. (begun c.in_ok-expect.ensures.taken c.in_ok-expect.ensures.kind c.in_ok-imports.ensures) o
      (headed g.X.AsStr.text g.I.Iterator.next_gives _ after_future no_top
      (sym c.sees.ensures ∙ c.if-not-sees.true) o y);
}

pub returns-in_err-take : goal.returns-in_err-take
returns-in_err-take g c = let p = err_from_is_err_and c.from_residual-in_err-take.result
    c.from_residual-in_err-take.ensures.1 in
    rw (p.1, p.2)
    (blame (λ o w. (begun c.in_ok-expect.ensures.taken c.in_ok-expect.ensures.kind c.in_ok-imports.ensures) o
    (w (at (items after_future no_top)) (λ q. refl))) c.in_err-take.ensures)

pub returns-in_err-imports-2 : goal.returns-in_err-imports-2
returns-in_err-imports-2 g c = let p = err_from_is_err_and c.from_residual-in_err-imports-2.result
    c.from_residual-in_err-imports-2.ensures.1 in
    rw (p.1, p.2) (typing_fails c.args.reader.now (begun c.in_ok-expect.ensures.taken c.in_ok-expect.ensures.kind
    c.in_ok-imports.ensures) c.in_ok-take.ensures (kind_seen (kind.Keyword word.From)
    (sym c.sees.ensures ∙ c.if-not-sees.false) c.in_ok-take.ensures.here) _ (sym c.sees_name.ensures
    ∙ c.if-not-sees_name.true) c.in_err-imports-2.ensures)

pub returns-then-not-sees_name : goal.returns-then-not-sees_name
returns-then-not-sees_name g c = record {
  ready = c.in_ok-imports-2.ensures.ready;
  later =
      omega (
        arith,
        c.in_ok-expect.ensures.taken.later,
        c.in_ok-imports.ensures.later,
        c.in_ok-take.ensures.later,
        c.in_ok-imports-2.ensures.later,
      );
  leads = typed c.args.reader.now
      (begun c.in_ok-expect.ensures.taken c.in_ok-expect.ensures.kind c.in_ok-imports.ensures) c.in_ok-take.ensures
      (kind_seen (kind.Keyword word.From) (sym c.sees.ensures ∙ c.if-not-sees.false) c.in_ok-take.ensures.here)
      (sym c.sees_name.ensures ∙ c.if-not-sees_name.true) c.in_ok-imports-2.ensures;
}

pub returns-in_err-imports-3 : goal.returns-in_err-imports-3
returns-in_err-imports-3 g c = let p = err_from_is_err_and c.from_residual-in_err-imports-3.result
    c.from_residual-in_err-imports-3.ensures.1 in
    rw (p.1, p.2) (dataclasses_fail c.args.reader.now (begun c.in_ok-expect.ensures.taken c.in_ok-expect.ensures.kind
    c.in_ok-imports.ensures) c.in_ok-take.ensures (kind_seen (kind.Keyword word.From)
    (sym c.sees.ensures ∙ c.if-not-sees.false) c.in_ok-take.ensures.here) _ (sym c.sees_name.ensures
    ∙ c.if-not-sees_name.false) c.in_err-imports-3.ensures)

pub returns-then-not-sees-2 : goal.returns-then-not-sees-2
returns-then-not-sees-2 g c = record {
  ready = c.in_ok-imports-3.ensures.ready;
  later =
      omega (
        arith,
        c.in_ok-expect.ensures.taken.later,
        c.in_ok-imports.ensures.later,
        c.in_ok-take.ensures.later,
        c.in_ok-imports-3.ensures.later,
      );
  leads = λ o y. (classed c.args.reader.now
      (begun c.in_ok-expect.ensures.taken c.in_ok-expect.ensures.kind c.in_ok-imports.ensures) c.in_ok-take.ensures
      (kind_seen (kind.Keyword word.From) (sym c.sees.ensures ∙ c.if-not-sees.false) c.in_ok-take.ensures.here)
      (sym c.sees_name.ensures ∙ c.if-not-sees_name.false) c.in_ok-imports-3.ensures) o
      (headed g.X.AsStr.text g.I.Iterator.next_gives _ after_dataclasses dataclassed
      (sym c.sees-2.ensures ∙ c.if-not-sees-2.true) o y);
}

pub returns-in_err-take-2 : goal.returns-in_err-take-2
returns-in_err-take-2 g c = let p = err_from_is_err_and c.from_residual-in_err-take-2.result
    c.from_residual-in_err-take-2.ensures.1 in
    rw (p.1, p.2)
    (blame (λ o w. (classed c.args.reader.now (begun c.in_ok-expect.ensures.taken c.in_ok-expect.ensures.kind
    c.in_ok-imports.ensures) c.in_ok-take.ensures (kind_seen (kind.Keyword word.From)
    (sym c.sees.ensures ∙ c.if-not-sees.false) c.in_ok-take.ensures.here) (sym c.sees_name.ensures
    ∙ c.if-not-sees_name.false) c.in_ok-imports-3.ensures) o (w (at (items after_dataclasses dataclassed))
    (λ q. refl))) c.in_err-take-2.ensures)

pub returns-in_err-imports-4 : goal.returns-in_err-imports-4
returns-in_err-imports-4 g c = let p = err_from_is_err_and c.from_residual-in_err-imports-4.result
    c.from_residual-in_err-imports-4.ensures.1 in
    rw (p.1, p.2) (then_typing_fails c.args.reader.now (classed c.args.reader.now
    (begun c.in_ok-expect.ensures.taken c.in_ok-expect.ensures.kind c.in_ok-imports.ensures) c.in_ok-take.ensures
    (kind_seen (kind.Keyword word.From) (sym c.sees.ensures ∙ c.if-not-sees.false) c.in_ok-take.ensures.here)
    (sym c.sees_name.ensures ∙ c.if-not-sees_name.false) c.in_ok-imports-3.ensures) c.in_ok-take-2.ensures
    (kind_seen (kind.Keyword word.From) (sym c.sees-2.ensures ∙ c.if-not-sees-2.false) c.in_ok-take-2.ensures.here)
    _ c.in_err-imports-4.ensures)

pub returns : goal.returns
returns g c = record {
  ready = c.in_ok-imports-4.ensures.ready;
  later =
      omega (
        arith,
        c.in_ok-expect.ensures.taken.later,
        c.in_ok-imports.ensures.later,
        c.in_ok-take.ensures.later,
        c.in_ok-imports-3.ensures.later,
        c.in_ok-take-2.ensures.later,
        c.in_ok-imports-4.ensures.later,
      );
  leads =
      then_typed c.args.reader.now (classed c.args.reader.now (begun c.in_ok-expect.ensures.taken
      c.in_ok-expect.ensures.kind c.in_ok-imports.ensures) c.in_ok-take.ensures
      (kind_seen (kind.Keyword word.From) (sym c.sees.ensures ∙ c.if-not-sees.false) c.in_ok-take.ensures.here)
      (sym c.sees_name.ensures ∙ c.if-not-sees_name.false) c.in_ok-imports-3.ensures) c.in_ok-take-2.ensures
      (kind_seen (kind.Keyword word.From) (sym c.sees-2.ensures ∙ c.if-not-sees-2.false) c.in_ok-take-2.ensures.here)
      c.in_ok-imports-4.ensures;
}
