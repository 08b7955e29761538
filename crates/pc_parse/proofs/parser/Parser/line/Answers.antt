use Rattle.std.proofs.Common.{[], ◌∷◌, refl, arith, ap, sym, ◌∙◌, subst}
use Rattle.std.proofs.lemmas.Result.{err_from_is_err_and}
use Rattle.pc_token.specs.declared.token.TokenKind.TheVariants as kind
use Rattle.pc_token.specs.declared.token.Operator.TheVariants as sign
use Rattle.pc_tree.specs.Tree.{assigns, evaluates, no_anns, expr_of, name_of, target_of}
use Rattle.pc_tree.specs.Depth.{whole_expr}
use Rattle.pc_grammar.specs.Grammar.{first_place}
use Rattle.pc_grammar.specs.Machine.{at}
use Rattle.pc_grammar.specs.Machine.States.{whole, ann_whole, in_line, in_statement, of_local, assigned, stmts}
use Rattle.pc_grammar.specs.Machine.States.{part_due}
use Rattle.pc_grammar.specs.Machine.States.{operand, have}
use Rattle.pc_grammar.specs.Machine.Finishing.{after_stmt, finish, begin_value, begin_annotation, line_site}
use Rattle.pc_grammar.specs.Machine.Lines.{lead_turn}
use Rattle.pc_reader.specs.Reading.{lexeme, Came}
use Rattle.pc_reader.proofs.Streams.{blame}
use Rattle.pc_reader.proofs.Steps.{step_to, alike, kind_seen, not_seen}
use Rattle.pc_parse.specs.Internal.WholeTrees.{ending_of, deep_after}
use Rattle.pc_parse.specs.Internal.Suites.{site_at}
use Rattle.pc_parse.proofs.Statements.{line_end_turn, line_turn}
use Rattle.pc_parse.proofs.Lines.{line_ended, line_continued, no_place, first_is}
use Rattle.pc_parse.proofs.Depths.{noted_nothing}
use Rattle.pc_parse.proofs.Targets.{a_target, no_target, a_plain_name, no_plain_name}
use Rattle.pc_parse.proofs.Keeping.{keep_one, keep_assign}
use Rattle.pc_parse.proofs.parser.Parser.line.Goals as goal

pub returns-in_default : goal.returns-in_default
returns-in_default g c = blame (λ o w. λ d b f. w (stmts d b)
    (record { unfinished = refl; stuck_at = λ t h. absurd (no_place (sym c.place.ensures ∙ c.in_default.is) h) }))
    c.misfit.ensures

pub returns-in_err-begun : goal.returns-in_err-begun
returns-in_err-begun g c = let q = err_from_is_err_and c.from_residual.result c.from_residual.ensures.1 in
    rw (q.1, q.2) (blame (λ o w. λ d b f. alike g.X.AsStr.text g.I.Iterator.next_gives c.args.self.now.reader
    (stmts d b) (operand (whole (in_line d b))) refl refl
    (λ t h. ap (lead_turn (site_at t.place d b) (lexeme g.X.AsStr.text t) t.kind) (f t h)) o (w (in_line d b)))
    c.in_err-begun.ensures)

pub returns-in_default-target : goal.returns-in_default-target
returns-in_default-target g c = let v = c.in_ok-begun.ensures in
    blame (λ o w. λ d b f. alike g.X.AsStr.text g.I.Iterator.next_gives c.args.self.now.reader (stmts d b)
    (operand (whole (in_line d b))) refl refl
    (λ t h. ap (lead_turn (site_at t.place d b) (lexeme g.X.AsStr.text t) t.kind) (f t h)) o (v.leads (in_line d b) o
    (w (have c.in_ok-begun.begun.level v.part (whole (in_line d b))) (record {
      unfinished = refl;
      stuck_at = λ t h. v.goes (in_line d b) t h
          ∙ ap (λ k. finish (in_line d b) v.part (ending_of k)) (kind_seen (kind.Operator sign.Equal)
          (sym c.sees.ensures ∙ c.if-sees.true) h)
          ∙ ap (λ z. begin_value z (line_site d b v.part)) (no_target c.in_ok-begun.begun v.part v.keeps
          c.in_default-target.ensures);
    })))) c.misfit-in_default-target.ensures

pub returns-in_err-take : goal.returns-in_err-take
returns-in_err-take g c = let v = c.in_ok-begun.ensures in let q =
    err_from_is_err_and c.from_residual-in_err-take.result c.from_residual-in_err-take.ensures.1 in
    rw (q.1, q.2) (blame (λ o w. λ d b f. alike g.X.AsStr.text g.I.Iterator.next_gives c.args.self.now.reader
    (stmts d b) (operand (whole (in_line d b))) refl refl
    (λ t h. ap (lead_turn (site_at t.place d b) (lexeme g.X.AsStr.text t) t.kind) (f t h)) o (v.leads (in_line d b) o
    (w (at (have c.in_ok-begun.begun.level v.part (whole (in_line d b)))) (λ e. refl)))) c.in_err-take.ensures)

pub returns-in-Err : goal.returns-in-Err
returns-in-Err g c = let v = c.in_ok-begun.ensures in let u = c.in_ok-take.ensures in let i =
    a_target c.in_ok-begun.begun v.part _ v.keeps c.in-Some-target.ensures in
    (blame (λ o w. λ d b f. alike g.X.AsStr.text g.I.Iterator.next_gives c.args.self.now.reader
    (stmts d b) (operand (whole (in_line d b))) refl refl
    (λ t h. ap (lead_turn (site_at t.place d b) (lexeme g.X.AsStr.text t) t.kind) (f t h)) o (v.leads (in_line d b) o
    (step_to (have c.in_ok-begun.begun.level v.part (whole (in_line d b)))
    (operand (whole (in_statement (assigned i.tree) (line_site d b v.part)))) u
    (v.goes (in_line d b) _ u.here ∙ ap (λ k. finish (in_line d b) v.part (ending_of k))
    (kind_seen (kind.Operator sign.Equal) (sym c.sees.ensures ∙ c.if-sees.true) u.here)
    ∙ ap (λ z. begin_value z (line_site d b v.part)) i.is) o
    (w (in_statement (assigned i.tree) (line_site d b v.part)))))) c.in-Err.ensures)

pub returns-then-sees : goal.returns-then-sees
returns-then-sees g c = let v = c.in_ok-begun.ensures in let u = c.in_ok-take.ensures in let i =
    a_target c.in_ok-begun.begun v.part _ v.keeps c.in-Some-target.ensures in let y = c.in-Ok.ensures.1 in
    let n = first_place v.part.tokens in let e = first_is c.args.self.now.reader.ahead c.in-Some.first n
    (sym c.place.ensures ∙ c.in-Some.is) v.begins in
    line_ended g.X.AsStr g.I.Iterator (λ d b. stmts d b)
    (λ d b. have c.in-Ok.ensures.0.level y.part (whole (in_statement (assigned i.tree) (line_site d b v.part)))) _
    c.args.self.now c.boxed_expression.new.self c.line_end.new.self _ c.line_end.result
    (assigns n i.tree y.part.tree)
    (keep_assign n _ c.in-Some-target.target i
    (ap (λ z. assigns z (target_of c.in-Some-target.target) (expr_of c.in-Ok.value.value)) (sym e)
    ∙ ap (λ z. assigns n (target_of c.in-Some-target.target) (expr_of z)) c.in-Ok.ensures.2)
    c.in-Some-target.ensures v.keeps y.keeps v.deep y.deep)
    (let r = v.later in let s = u.later in let q = y.later in omega arith)
    (λ d b f o x. alike g.X.AsStr.text g.I.Iterator.next_gives c.args.self.now.reader (stmts d b)
    (operand (whole (in_line d b))) refl refl
    (λ t h. ap (lead_turn (site_at t.place d b) (lexeme g.X.AsStr.text t) t.kind) (f t h)) o (v.leads (in_line d b) o
    (step_to (have c.in_ok-begun.begun.level v.part (whole (in_line d b)))
    (operand (whole (in_statement (assigned i.tree) (line_site d b v.part)))) u
    (v.goes (in_line d b) _ u.here ∙ ap (λ k. finish (in_line d b) v.part (ending_of k))
    (kind_seen (kind.Operator sign.Equal) (sym c.sees.ensures ∙ c.if-sees.true) u.here)
    ∙ ap (λ z. begin_value z (line_site d b v.part)) i.is) o
    (y.leads (in_statement (assigned i.tree) (line_site d b v.part)) o x))))
    (λ d b f. record {
      unfinished = refl;
      turns = λ w h. y.goes (in_statement (assigned i.tree) (line_site d b v.part))
          w h ∙ line_end_turn (after_stmt (line_site d b v.part) (assigns n i.tree y.part.tree)) w.kind;
    })
    c.line_end.ensures

pub returns-in_default-plain_name : goal.returns-in_default-plain_name
returns-in_default-plain_name g c = let v = c.in_ok-begun.ensures in
    blame (λ o w. λ d b f. alike g.X.AsStr.text g.I.Iterator.next_gives c.args.self.now.reader (stmts d b)
    (operand (whole (in_line d b))) refl refl
    (λ t h. ap (lead_turn (site_at t.place d b) (lexeme g.X.AsStr.text t) t.kind) (f t h)) o (v.leads (in_line d b) o
    (w (have c.in_ok-begun.begun.level v.part (whole (in_line d b))) (record {
      unfinished = refl;
      stuck_at = λ t h. v.goes (in_line d b) t h
          ∙ ap (λ k. finish (in_line d b) v.part (ending_of k)) (kind_seen (kind.Operator sign.Colon)
          (sym c.sees-2.ensures ∙ c.if-sees-2.true) h)
          ∙ ap (λ z. begin_annotation z (line_site d b v.part)) (no_plain_name c.in_ok-begun.begun v.part v.keeps
          c.in_default-plain_name.ensures);
    })))) c.misfit-in_default-plain_name.ensures

pub returns-in_err-take-2 : goal.returns-in_err-take-2
returns-in_err-take-2 g c = let v = c.in_ok-begun.ensures in let q =
    err_from_is_err_and c.from_residual-in_err-take-2.result c.from_residual-in_err-take-2.ensures.1 in
    rw (q.1, q.2) (blame (λ o w. λ d b f. alike g.X.AsStr.text g.I.Iterator.next_gives c.args.self.now.reader
    (stmts d b) (operand (whole (in_line d b))) refl refl
    (λ t h. ap (lead_turn (site_at t.place d b) (lexeme g.X.AsStr.text t) t.kind) (f t h)) o (v.leads (in_line d b) o
    (w (at (have c.in_ok-begun.begun.level v.part (whole (in_line d b)))) (λ e. refl)))) c.in_err-take-2.ensures)

pub returns-then-sees-2 : goal.returns-then-sees-2
returns-then-sees-2 g c = let v = c.in_ok-begun.ensures in let u = c.in_ok-take-2.ensures in let i =
    a_plain_name c.in_ok-begun.begun v.part _ v.keeps c.in-Some-plain_name.ensures in let m =
    name_of c.in-Some-plain_name.name in
    let n = first_place v.part.tokens in let e = first_is c.args.self.now.reader.ahead c.in-Some.first n
    (sym c.place.ensures ∙ c.in-Some.is) v.begins in
    line_continued g.X.AsStr g.I.Iterator
    (λ d b. stmts d b) (λ d b. part_due no_anns [] (ann_whole (of_local m (site_at c.in-Some.first d b)))) _
    c.args.self.now (record c.expression.new.self { reader = c.take-then-sees-2.new.self }) c.annotated.new.self
    c.annotated.result
    (v.deep ∙ ap (λ z. deep_after c.args.self.now.deep (whole_expr z ∷ [])) i.tree ∙ noted_nothing _)
    (let r = v.later in let s = u.later in omega arith)
    (λ d b f o x. alike g.X.AsStr.text g.I.Iterator.next_gives c.args.self.now.reader (stmts d b)
    (operand (whole (in_line d b))) refl refl
    (λ t h. ap (lead_turn (site_at t.place d b) (lexeme g.X.AsStr.text t) t.kind) (f t h)) o (v.leads (in_line d b) o
    (step_to (have c.in_ok-begun.begun.level v.part (whole (in_line d b)))
    (part_due no_anns [] (ann_whole (of_local m (line_site d b v.part)))) u
    (v.goes (in_line d b) _ u.here ∙ ap (λ k. finish (in_line d b) v.part (ending_of k))
    (kind_seen (kind.Operator sign.Colon) (sym c.sees-2.ensures ∙ c.if-sees-2.true) u.here)
    ∙ ap (λ z. begin_annotation z (line_site d b v.part)) i.is) o
    (subst (λ z. Came g.X.AsStr.text g.I.Iterator.next_gives c.take-then-sees-2.new.self
    (at (part_due no_anns [] (ann_whole (of_local m (site_at z d b))))) o) (sym e) x))))
    c.annotated.ensures

pub returns : goal.returns
returns g c = let v = c.in_ok-begun.ensures in let n = first_place v.part.tokens in let e =
    first_is c.args.self.now.reader.ahead c.in-Some.first n (sym c.place.ensures ∙ c.in-Some.is) v.begins in
    line_ended g.X.AsStr g.I.Iterator (λ d b. stmts d b)
    (λ d b. have c.in_ok-begun.begun.level v.part (whole (in_line d b))) _
    c.args.self.now c.expression.new.self c.line_end-2.new.self _ c.line_end-2.result (evaluates n v.part.tree)
    (keep_one _ (λ x. evaluates n x) (λ x. refl) (ap (λ z. evaluates z (expr_of c.in_ok-begun.begun.expr)) (sym e))
    v.keeps v.deep) (let r = v.later in omega arith)
    (λ d b f o x. alike g.X.AsStr.text g.I.Iterator.next_gives c.args.self.now.reader (stmts d b)
    (operand (whole (in_line d b))) refl refl
    (λ t h. ap (lead_turn (site_at t.place d b) (lexeme g.X.AsStr.text t) t.kind) (f t h)) o
    (v.leads (in_line d b) o x))
    (λ d b f. record {
      unfinished = refl;
      turns = λ w h. v.goes (in_line d b) w h
          ∙ line_turn v.part (line_site d b v.part) w.kind (not_seen (kind.Operator sign.Equal)
          (sym c.sees.ensures ∙ c.if-sees.false) h) (not_seen (kind.Operator sign.Colon) (sym c.sees-2.ensures
          ∙ c.if-sees-2.false) h);
    })
    c.line_end-2.ensures
