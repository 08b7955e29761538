use Rattle.std.proofs.Common.{Some, None, refl, arith, ap, sym, ◌∙◌}
use Rattle.std.proofs.lemmas.Result.{err_from_is_err_and}
use Rattle.pc_token.specs.declared.token.TokenKind.TheVariants as kind
use Rattle.pc_token.specs.declared.token.Operator.TheVariants as sign
use Rattle.pc_tree.specs.Tree.{asserts, expr_of}
use Rattle.pc_grammar.specs.Machine.{at}
use Rattle.pc_grammar.specs.Machine.States.{whole, in_statement, asserted, asserted_with, stmts, operand, have}
use Rattle.pc_grammar.specs.Machine.Finishing.{after_stmt, finish}
use Rattle.pc_grammar.specs.Machine.Lines.{lead_turn}
use Rattle.pc_reader.proofs.Streams.{blame}
use Rattle.pc_reader.proofs.Steps.{step_to, kind_seen, not_seen}
use Rattle.pc_parse.specs.Internal.WholeTrees.{ending_of}
use Rattle.pc_parse.specs.Internal.Suites.{site_at}
use Rattle.pc_parse.proofs.Statements.{line_end_turn, condition_turn}
use Rattle.pc_parse.proofs.Lines.{line_ended}
use Rattle.pc_parse.proofs.Keeping.{keep_one, keep_two}
use Rattle.pc_parse.proofs.parser.Parser.asserted.Goals as goal

pub returns-in_err-token : goal.returns-in_err-token
returns-in_err-token g c = let p = err_from_is_err_and c.from_residual.result c.from_residual.ensures.1 in
    rw (p.1, p.2) (blame (λ o w. λ d b f. w (at (stmts d b)) (λ e. refl)) c.in_err-token.ensures)

pub returns-in_err-condition : goal.returns-in_err-condition
returns-in_err-condition g c = let t = c.in_ok-token.ensures in let p = c.in_ok-token.token.place in let q =
    err_from_is_err_and c.from_residual-in_err-condition.result c.from_residual-in_err-condition.ensures.1 in
    rw (q.1, q.2) (blame (λ o w. λ d b f. step_to (stmts d b) (operand (whole (in_statement asserted (site_at p d b))))
    t (ap (lead_turn (site_at p d b) _ _) (f _ t.here)) o (w (in_statement asserted (site_at p d b))))
    c.in_err-condition.ensures)

pub returns-in_err-take : goal.returns-in_err-take
returns-in_err-take g c = let t = c.in_ok-token.ensures in let p = c.in_ok-token.token.place in let v =
    c.in_ok-condition.ensures.1 in let q = err_from_is_err_and c.from_residual-in_err-take.result
    c.from_residual-in_err-take.ensures.1 in
    rw (q.1, q.2) (blame (λ o w. λ d b f. step_to (stmts d b) (operand (whole (in_statement asserted (site_at p d b))))
    t (ap (lead_turn (site_at p d b) _ _) (f _ t.here)) o
    (v.leads (in_statement asserted (site_at p d b)) o
    (w (at (have c.in_ok-condition.ensures.0.level v.part (whole (in_statement asserted (site_at p d b)))))
    (λ e. refl)))) c.in_err-take.ensures)

pub returns-in_err-message : goal.returns-in_err-message
returns-in_err-message g c = let t = c.in_ok-token.ensures in let p = c.in_ok-token.token.place in let v =
    c.in_ok-condition.ensures.1 in let u = c.in_ok-take.ensures in let q =
    err_from_is_err_and c.from_residual-in_err-message.result c.from_residual-in_err-message.ensures.1 in
    rw (q.1, q.2) (blame (λ o w. λ d b f. step_to (stmts d b) (operand (whole (in_statement asserted (site_at p d b))))
    t (ap (lead_turn (site_at p d b) _ _) (f _ t.here)) o
    (v.leads (in_statement asserted (site_at p d b)) o
    (step_to (have c.in_ok-condition.ensures.0.level v.part (whole (in_statement asserted (site_at p d b))))
    (operand (whole (in_statement (asserted_with v.part.tree) (site_at p d b)))) u
    (v.goes (in_statement asserted (site_at p d b)) _ u.here ∙ ap (λ k. finish (in_statement asserted (site_at p d b))
    v.part (ending_of k)) (kind_seen (kind.Operator sign.Comma) (sym c.sees.ensures ∙ c.if-sees.true) u.here)) o
    (w (in_statement (asserted_with v.part.tree) (site_at p d b)))))) c.in_err-message.ensures)

pub returns-then-sees : goal.returns-then-sees
returns-then-sees g c = let t = c.in_ok-token.ensures in let p = c.in_ok-token.token.place in let v =
    c.in_ok-condition.ensures.1 in let u = c.in_ok-take.ensures in let m = c.in_ok-message.ensures.1 in
    line_ended g.X.AsStr g.I.Iterator (λ d b. stmts d b)
    (λ d b. have c.in_ok-message.ensures.0.level m.part
    (whole (in_statement (asserted_with v.part.tree) (site_at p d b)))) _
    c.args.self.now c.boxed_expression-then-sees.new.self c.line_end.new.self _ c.line_end.result
    (asserts p v.part.tree (Some m.part.tree))
    (keep_two _ (λ x y. asserts p x (Some y)) (λ x y. refl)
    (ap (λ z. asserts p (expr_of z) (Some (expr_of c.in_ok-message.message.value)))
    c.in_ok-condition.ensures.2
    ∙ ap (λ z. asserts p (expr_of c.in_ok-condition.ensures.0.expr) (Some (expr_of z)))
    c.in_ok-message.ensures.2) v.keeps m.keeps v.deep m.deep) (let l = t.later in let r = v.later in let s =
    u.later in let q = m.later in omega arith)
    (λ d b f o x. step_to (stmts d b) (operand (whole (in_statement asserted (site_at p d b)))) t
    (ap (lead_turn (site_at p d b) _ _) (f _ t.here)) o
    (v.leads (in_statement asserted (site_at p d b)) o
    (step_to (have c.in_ok-condition.ensures.0.level v.part (whole (in_statement asserted (site_at p d b))))
    (operand (whole (in_statement (asserted_with v.part.tree) (site_at p d b)))) u
    (v.goes (in_statement asserted (site_at p d b)) _ u.here ∙ ap (λ k. finish (in_statement asserted (site_at p d b))
    v.part (ending_of k)) (kind_seen (kind.Operator sign.Comma) (sym c.sees.ensures ∙ c.if-sees.true) u.here)) o
    (m.leads (in_statement (asserted_with v.part.tree) (site_at p d b)) o x))))
    (λ d b f. record {
      unfinished = refl;
      turns = λ w h. m.goes
          (in_statement (asserted_with v.part.tree) (site_at p d b)) w h
          ∙ line_end_turn (after_stmt (site_at p d b) (asserts p v.part.tree (Some m.part.tree))) w.kind;
    })
    c.line_end.ensures

pub returns : goal.returns
returns g c = let t = c.in_ok-token.ensures in let p = c.in_ok-token.token.place in
    let v = c.in_ok-condition.ensures.1 in
    line_ended g.X.AsStr g.I.Iterator (λ d b. stmts d b)
    (λ d b. have c.in_ok-condition.ensures.0.level v.part (whole (in_statement asserted (site_at p d b)))) _
    c.args.self.now c.boxed_expression.new.self c.line_end-2.new.self _ c.line_end-2.result (asserts p
    v.part.tree None)
    (keep_one _ (λ x. asserts p x None) (λ x. refl) (ap (λ z. asserts p (expr_of z) None) c.in_ok-condition.ensures.2)
    v.keeps v.deep) (let l = t.later in let r = v.later in omega arith)
    (λ d b f o x. step_to (stmts d b) (operand (whole (in_statement asserted (site_at p d b)))) t
    (ap (lead_turn (site_at p d b) _ _) (f _ t.here)) o (v.leads (in_statement asserted (site_at p d b)) o x))
    (λ d b f. record {
      unfinished = refl;
      turns = λ w h. v.goes (in_statement asserted (site_at p d b)) w h
          ∙ condition_turn v.part.tree (site_at p d b) w.kind (not_seen (kind.Operator sign.Comma)
          (sym c.sees.ensures ∙ c.if-sees.false) h);
    })
    c.line_end-2.ensures
