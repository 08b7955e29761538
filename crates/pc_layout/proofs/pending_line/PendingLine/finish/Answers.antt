use Rattle.std.proofs.Common.{ap, sym, ◌∙◌, length, [], ◌∷◌, Ok}
use Rattle.pc_token.specs.declared.token.TokenKind.TheVariants.{End}
use Rattle.pc_layout.specs.Flat.{empty_token}
use Rattle.pc_layout.specs.Stepping.{give, dedents}
use Rattle.pc_layout.specs.TokenIterator.PendingTokens.{pending_by}
use Rattle.pc_layout.proofs.Laying.{laid_end}
use Rattle.pc_layout.proofs.pending_line.PendingLine.finish.Goals as goal

pub returns-clause-gives : goal.returns-clause-gives
returns-clause-gives c = ap (λ d. pending_by d c.args.self.now []) c.requires ∙ laid_end _ _
    ∙ ap (λ n. give (dedents n (length c.args.self.now.text.now))
    (Ok (empty_token End (length c.args.self.now.text.now)) ∷ [])) (sym c.len-self.ensures)
