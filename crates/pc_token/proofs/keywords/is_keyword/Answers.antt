use Rattle.std.proofs.Common.{ap, ◌∙◌}
use Rattle.std.specs.Prelude.{bytes_eq, is_some}
use Rattle.pc_token.specs.Keywords.{keyword_text, keywords}
use Rattle.pc_token.proofs.FirstBytes.{any_found}
use Rattle.pc_token.proofs.keywords.is_keyword.Goals as goal

pub returns : goal.returns
returns c = c.is_some.ensures ∙ ap is_some c.keyword_of.ensures
    ∙ any_found (λ k. bytes_eq (keyword_text k) c.args.name.now) keywords
