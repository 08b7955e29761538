use Rattle.std.proofs.Common.{◌≡◌, [], refl, arith, sym, ◌∙◌, rules}
use Rattle.std.proofs.lemmas.Result.{err_from_is_err_and}
use Rattle.pc_token.specs.declared.token.TokenKind.TheVariants as kind
use Rattle.pc_token.specs.declared.token.Operator.TheVariants as sign
use Rattle.pc_reader.proofs.Steps.{kind_seen}
use Rattle.pc_parse.proofs.Parameters.{no_params, take_fails, params_end, parameter_fails, comma_fails, close_fails}
use Rattle.pc_parse.proofs.Parameters.{more_params, last_param}
use Rattle.pc_parse.proofs.parser.Parser.parameters.Goals as goal

pub loop-alloc-init : goal.loop-alloc-init
loop-alloc-init g c = let e : c.new-params.result.items ≡ [] = search rules in
    record { ready = c.requires; later = omega arith; params = no_params c.args.self.now e }

pub returns-in_err-take : goal.returns-in_err-take
returns-in_err-take g c = let p = err_from_is_err_and c.from_residual.result c.from_residual.ensures.1 in
    rw (p.1, p.2) (take_fails c.loop-alloc.invariant.params c.in_err-take.ensures)

pub returns-then-sees : goal.returns-then-sees
returns-then-sees g c = params_end c.loop-alloc.invariant.params c.in_ok-take.ensures
    (kind_seen (kind.Operator sign.RightParenthesis) (sym c.sees.ensures ∙ c.if-sees.true) c.in_ok-take.ensures.here)
    refl c.loop-alloc.invariant.later

pub returns-in_err-param : goal.returns-in_err-param
returns-in_err-param g c = let p = err_from_is_err_and c.from_residual-in_err-param.result
    c.from_residual-in_err-param.ensures.1 in
    rw (p.1, p.2) (parameter_fails c.loop-alloc.invariant.params (sym c.sees.ensures ∙ c.if-sees.false)
    c.in_err-param.ensures)

pub returns-in_err-expect : goal.returns-in_err-expect
returns-in_err-expect g c = let p = err_from_is_err_and c.from_residual-in_err-expect.result
    c.from_residual-in_err-expect.ensures.1 in
    rw (p.1, p.2) (close_fails c.loop-alloc.invariant.params c.in_ok-param.ensures (sym c.sees-in-loop-alloc.ensures
    ∙ c.if-not-sees.true) c.in_err-expect.ensures.taken)

pub returns-then-not-sees : goal.returns-then-not-sees
returns-then-not-sees g c = last_param c.loop-alloc.invariant.params c.in_ok-param.ensures
    c.in_ok-put_last.ensures.items c.in_ok-expect.ensures.taken c.in_ok-expect.ensures.kind
    (sym c.sees-in-loop-alloc.ensures ∙ c.if-not-sees.true) refl c.loop-alloc.invariant.later

pub returns-in_err-take-2 : goal.returns-in_err-take-2
returns-in_err-take-2 g c = let p = err_from_is_err_and c.from_residual-in_err-take-2.result
    c.from_residual-in_err-take-2.ensures.1 in
    rw (p.1, p.2) (comma_fails c.loop-alloc.invariant.params c.in_ok-param.ensures c.in_err-take-2.ensures)

pub loop-alloc-preserved : goal.loop-alloc-preserved
loop-alloc-preserved g c = let s = c.loop-alloc.invariant.params in let x = c.in_ok-param.ensures in let h =
    c.in_ok-take-2.ensures in record {
      ready = h.ready;
      later = omega (arith, h.later, x.later, c.loop-alloc.invariant.later);
      params = more_params s x c.in_ok-put_last.ensures.items h (kind_seen (kind.Operator sign.Comma)
          (sym c.sees-in-loop-alloc.ensures ∙ c.if-not-sees.false) c.in_ok-take-2.ensures.here) refl;
    }
