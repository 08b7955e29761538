use Rattle.std.proofs.Common.{ap, sym, ◌∙◌, get_or}
use Rattle.std.specs.Prelude.{find, bytes_eq}
use Rattle.pc_token.specs.Keywords.{keyword_text}
use Rattle.pc_token.proofs.FirstBytes.{keyword_sought, none_sought}
use Rattle.pc_token.proofs.keywords.keyword_of.Goals as goal

pub returns-then-is_empty : goal.returns-then-is_empty
returns-then-is_empty c =
    none_sought c.args.name.now c.byte_at-first.result (c.byte_at-first.ensures
    ∙ ap (λ x. get_or x 0 0) c.as_bytes.ensures.value)
    c.beginning_with-candidates.result.now c.beginning_with-candidates.ensures
    (sym c.is_empty.ensures ∙ c.if-is_empty.true)

pub returns : goal.returns
returns c =
    c.first_spelled.ensures
    ∙ ap (find (λ k. bytes_eq (keyword_text k) c.args.name.now)) c.beginning_with-candidates.ensures
    ∙ keyword_sought c.args.name.now c.byte_at-first.result (c.byte_at-first.ensures
    ∙ ap (λ x. get_or x 0 0) c.as_bytes.ensures.value)
