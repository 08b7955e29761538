use Rattle.std.proofs.Common.{ap, sym, [], ◌∷◌, ◌∙◌}
use Rattle.std.specs.Prelude.{find, nat_eq}
use Rattle.std.specs.List.{starts_with}
use Rattle.pc_token.specs.Operators.{operator_text, operators}
use Rattle.pc_token.specs.Internal.Candidates.{stands_second}
use Rattle.pc_token.proofs.FirstBytes.{operator_sought}
use Rattle.pc_token.proofs.OneByte.{one_byte_here}
use Rattle.pc_token.proofs.operators.operator_at.Goals as goal

pub returns-then-not-stands_second : goal.returns-then-not-stands_second
returns-then-not-stands_second c =
    c.of_one_byte.ensures
    ∙ ap (λ b. find (λ o. starts_with nat_eq (b ∷ []) (operator_text o)) operators) c.byte_at-first.ensures
    ∙ one_byte_here c.args.bytes.now c.requires (sym (c.stands_second.ensures ∙ ap stands_second
    c.byte_at-second.ensures) ∙ c.if-not-stands_second.true)

pub returns : goal.returns
returns c =
    c.first_standing.ensures ∙ ap (find (λ o. starts_with nat_eq c.args.bytes.now (operator_text o)))
    c.beginning_with.ensures
    ∙ operator_sought c.args.bytes.now c.byte_at-first.result c.byte_at-first.ensures
