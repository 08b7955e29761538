use Rattle.std.proofs.Common.{Some, None, refl, arith, ap, sym, ◌∙◌}
use Rattle.std.proofs.lemmas.Result.{err_from_is_err_and}
use Rattle.pc_token.specs.declared.token.TokenKind.TheVariants as kind
use Rattle.pc_tree.specs.Tree.{returns as returns_tree, expr_of}
use Rattle.pc_grammar.specs.Machine.{at}
use Rattle.pc_grammar.specs.Machine.Kinds.{same_kind}
use Rattle.pc_grammar.specs.Machine.States.{whole, in_statement, returned, stmts, return_due, operand, have, stuck}
use Rattle.pc_grammar.specs.Machine.Finishing.{after_stmt}
use Rattle.pc_grammar.specs.Machine.Lines.{lead_turn}
use Rattle.pc_reader.proofs.Streams.{blame}
use Rattle.pc_reader.proofs.Steps.{step_to, alike, not_seen}
use Rattle.pc_parse.specs.Internal.Suites.{site_at}
use Rattle.pc_parse.proofs.Statements.{line_end_turn, on_seen, on_unseen}
use Rattle.pc_parse.proofs.Lines.{line_ended, seen_kind}
use Rattle.pc_parse.proofs.Depths.{noted_nothing}
use Rattle.pc_parse.proofs.Keeping.{keep_one}
use Rattle.pc_parse.proofs.parser.Parser.returned.Goals as goal

pub returns-in_err-token : goal.returns-in_err-token
returns-in_err-token g c = let p = err_from_is_err_and c.from_residual.result c.from_residual.ensures.1 in
    rw (p.1, p.2) (blame (λ o w. λ d b f. w (at (stmts d b)) (λ e. refl)) c.in_err-token.ensures)

pub returns-then-sees : goal.returns-then-sees
returns-then-sees g c = let t = c.in_ok-token.ensures in let p = c.in_ok-token.token.place in
    line_ended g.X.AsStr g.I.Iterator (λ d b. stmts d b)
    (λ d b. return_due (site_at p d b)) _ c.args.self.now (record c.args.self.now { reader = c.take.new.self })
    c.line_end.new.self _ c.line_end.result (returns_tree p None)
    (record { deep = sym (noted_nothing _); kept = λ e. refl }) (let l = t.later in omega arith)
    (λ d b f. step_to (stmts d b) (return_due (site_at p d b)) t (ap (lead_turn (site_at p d b) _ _) (f _ t.here)))
    (λ d b f. record {
      unfinished = refl;
      turns = λ u h. on_seen (same_kind u.kind kind.Newline)
          (after_stmt (site_at p d b) (returns_tree p None)) _ stuck
          (seen_kind kind.Newline (sym c.sees.ensures ∙ c.if-sees.true) h);
    })
    c.line_end.ensures

pub returns-in_err-value : goal.returns-in_err-value
returns-in_err-value g c = let t = c.in_ok-token.ensures in let p = c.in_ok-token.token.place in let q =
    err_from_is_err_and c.from_residual-in_err-value.result c.from_residual-in_err-value.ensures.1 in
    rw (q.1, q.2) (blame (λ o w. λ d b f. step_to (stmts d b) (return_due (site_at p d b)) t
    (ap (lead_turn (site_at p d b) _ _) (f _ t.here)) o
    (alike g.X.AsStr.text g.I.Iterator.next_gives c.take.new.self (return_due (site_at p d b))
    (operand (whole (in_statement returned (site_at p d b)))) refl refl
    (λ u h. on_unseen (same_kind u.kind kind.Newline) (after_stmt (site_at p d b) (returns_tree p None)) _
    (not_seen kind.Newline (sym c.sees.ensures ∙ c.if-sees.false) h)) o
    (w (in_statement returned (site_at p d b))))) c.in_err-value.ensures)

pub returns : goal.returns
returns g c = let t = c.in_ok-token.ensures in let p = c.in_ok-token.token.place in let v = c.in_ok-value.ensures.1 in
    line_ended g.X.AsStr g.I.Iterator (λ d b. stmts d b)
    (λ d b. have c.in_ok-value.ensures.0.level v.part (whole (in_statement returned (site_at p d b)))) _
    c.args.self.now
    c.boxed_expression.new.self c.line_end-2.new.self _ c.line_end-2.result (returns_tree p (Some v.part.tree))
    (keep_one _ (λ x. returns_tree p (Some x)) (λ x. refl) (ap (λ z. returns_tree p (Some (expr_of z)))
    c.in_ok-value.ensures.2) v.keeps v.deep) (let l = t.later in let m = v.later in omega arith)
    (λ d b f o x. step_to (stmts d b) (return_due (site_at p d b)) t (ap (lead_turn (site_at p d b) _ _) (f _ t.here)) o
    (alike g.X.AsStr.text g.I.Iterator.next_gives c.take.new.self (return_due (site_at p d b))
    (operand (whole (in_statement returned (site_at p d b)))) refl refl
    (λ u h. on_unseen (same_kind u.kind kind.Newline) (after_stmt (site_at p d b) (returns_tree p None)) _
    (not_seen kind.Newline (sym c.sees.ensures ∙ c.if-sees.false) h)) o
    (v.leads (in_statement returned (site_at p d b)) o x)))
    (λ d b f. record {
      unfinished = refl;
      turns = λ u h. v.goes (in_statement returned (site_at p d b)) u h
          ∙ line_end_turn (after_stmt (site_at p d b) (returns_tree p (Some v.part.tree))) u.kind;
    })
    c.line_end-2.ensures
