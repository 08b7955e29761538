use Rattle.std.proofs.Common.{refl, sym, ◌∙◌}
use Rattle.std.proofs.lemmas.Result.{err_from_is_err_and}
use Rattle.pc_token.specs.declared.token.TokenKind.TheVariants as kind
use Rattle.pc_token.specs.declared.token.Keyword.TheVariants as word
use Rattle.pc_grammar.specs.Machine.{at}
use Rattle.pc_grammar.specs.Machine.States.{members}
use Rattle.pc_reader.proofs.Steps.{kind_seen}
use Rattle.pc_reader.proofs.Streams.{blame}
use Rattle.pc_parse.proofs.Members.{field_as_member, method_fails, method_as_member}
use Rattle.pc_parse.proofs.parser.Parser.member.Goals as goal

pub returns-in_err-take : goal.returns-in_err-take
returns-in_err-take g c = let p = err_from_is_err_and c.from_residual.result c.from_residual.ensures.1 in
    rw (p.1, p.2) (blame (λ o u. λ k ms i. u (at (members k ms)) (λ q. refl)) c.in_err-take.ensures)

pub returns-in_err-method : goal.returns-in_err-method
returns-in_err-method g c = let p = err_from_is_err_and c.from_residual-in_err-method.result
    c.from_residual-in_err-method.ensures.1 in
    rw (p.1, p.2) (method_fails c.in_ok-take.ensures (kind_seen (kind.Keyword word.Def)
    (sym c.sees.ensures ∙ c.if-sees.true) c.in_ok-take.ensures.here) c.in_err-method.ensures)

pub returns-then-sees : goal.returns-then-sees
returns-then-sees g c = method_as_member c.args.self.now
    (record { reader = c.take.new.self; deep = c.args.self.now.deep }) c.in_ok-take.ensures
    (kind_seen (kind.Keyword word.Def) (sym c.sees.ensures ∙ c.if-sees.true) c.in_ok-take.ensures.here) refl
    c.in_ok-method.ensures

pub returns-in_err-field : goal.returns-in_err-field
returns-in_err-field g c = let p = err_from_is_err_and c.from_residual-in_err-field.result
    c.from_residual-in_err-field.ensures.1 in
    rw (p.1, p.2) (blame (λ o u. λ k ms i. u k ms (sym c.sees.ensures ∙ c.if-sees.false) i) c.in_err-field.ensures)

pub returns : goal.returns
returns g c = field_as_member c.in_ok-field.ensures
