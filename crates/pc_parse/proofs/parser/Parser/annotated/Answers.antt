use Rattle.std.proofs.Common.{[], Some, None, refl, arith, ap, sym, ◌∙◌}
use Rattle.std.proofs.lemmas.Result.{err_from_is_err_and}
use Rattle.pc_token.specs.declared.token.TokenKind.TheVariants as kind
use Rattle.pc_token.specs.declared.token.Operator.TheVariants as sign
use Rattle.pc_tree.specs.Tree.{annotated, no_anns, name_of, ann_of, expr_of}
use Rattle.pc_grammar.specs.Machine.{at}
use Rattle.pc_grammar.specs.Machine.Kinds.{same_kind}
use Rattle.pc_grammar.specs.Machine.States.{whole, ann_whole, in_statement, of_local, annotated_value, part_due}
use Rattle.pc_grammar.specs.Machine.States.{operand}
use Rattle.pc_grammar.specs.Machine.States.{have}
use Rattle.pc_grammar.specs.Machine.Finishing.{after_stmt}
use Rattle.pc_reader.proofs.Streams.{blame}
use Rattle.pc_reader.proofs.Steps.{step_to, not_seen}
use Rattle.pc_parse.specs.Internal.Suites.{site_at}
use Rattle.pc_parse.proofs.Statements.{line_end_turn, on_unseen, on_go}
use Rattle.pc_parse.proofs.Lines.{line_ended, seen_kind}
use Rattle.pc_parse.proofs.Keeping.{keep_annotated, keep_valued}
use Rattle.pc_parse.proofs.parser.Parser.annotated.Goals as goal

pub returns-in_err-annotation : goal.returns-in_err-annotation
returns-in_err-annotation g c = let q = err_from_is_err_and c.from_residual.result c.from_residual.ensures.1 in
    rw (q.1, q.2) (blame (λ o w. λ d b f. w (of_local (name_of c.args.name) (site_at c.args.first d b)))
    c.in_err-annotation.ensures)

pub returns-in_err-take : goal.returns-in_err-take
returns-in_err-take g c = let n = name_of c.args.name in let p = c.args.first in let a = c.in_ok-annotation.ensures in
    let q = err_from_is_err_and c.from_residual-in_err-take.result c.from_residual-in_err-take.ensures.1 in
    rw (q.1, q.2) (blame (λ o w. λ d b f. a.leads (of_local n (site_at p d b)) o
    (w (at (a.behind (of_local n (site_at p d b)))) (λ e. a.unfinished (of_local n (site_at p d b)))))
    c.in_err-take.ensures)

pub returns-in_err-value : goal.returns-in_err-value
returns-in_err-value g c = let n = name_of c.args.name in let p = c.args.first in let a = c.in_ok-annotation.ensures in
    let u = c.in_ok-take.ensures in let q = err_from_is_err_and c.from_residual-in_err-value.result
    c.from_residual-in_err-value.ensures.1 in
    rw (q.1, q.2) (blame (λ o w. λ d b f. a.leads (of_local n (site_at p d b)) o
    (step_to (a.behind (of_local n (site_at p d b)))
    (operand (whole (in_statement (annotated_value n a.annotation) (site_at p d b)))) u
    (a.goes (of_local n (site_at p d b)) _ u.here ∙ on_go _ _ _
    (seen_kind (kind.Operator sign.Equal) (sym c.sees.ensures ∙ c.if-sees.true) u.here)) o
    (w (in_statement (annotated_value n a.annotation) (site_at p d b))))) c.in_err-value.ensures)

pub returns-then-sees : goal.returns-then-sees
returns-then-sees g c = let n = name_of c.args.name in let p = c.args.first in let a = c.in_ok-annotation.ensures in
    let u = c.in_ok-take.ensures in let v = c.in_ok-value.ensures.1 in
    line_ended g.X.AsStr g.I.Iterator
    (λ d b. part_due no_anns [] (ann_whole (of_local n (site_at p d b))))
    (λ d b. have c.in_ok-value.ensures.0.level v.part
    (whole (in_statement (annotated_value n a.annotation) (site_at p d b)))) _
    c.args.self.now c.boxed_expression.new.self c.line_end.new.self _ c.line_end.result
    (annotated p n a.annotation (Some v.part.tree))
    (keep_valued _ p n c.in_ok-annotation.annotation a.annotation
    (ap (λ z. annotated p n (ann_of z) (Some (expr_of c.in_ok-value.value.value)))
    c.in_ok-boxed.ensures.ok
    ∙ ap (λ z. annotated p n (ann_of c.in_ok-annotation.annotation) (Some (expr_of z))) c.in_ok-value.ensures.2)
    a.keeps v.keeps v.deep) (let r = a.later in let s = u.later in let q = v.later in omega arith)
    (λ d b f o x. a.leads (of_local n (site_at p d b)) o
    (step_to (a.behind (of_local n (site_at p d b)))
    (operand (whole (in_statement (annotated_value n a.annotation) (site_at p d b)))) u
    (a.goes (of_local n (site_at p d b)) _ u.here ∙ on_go _ _ _
    (seen_kind (kind.Operator sign.Equal) (sym c.sees.ensures ∙ c.if-sees.true) u.here)) o
    (v.leads (in_statement (annotated_value n a.annotation) (site_at p d b)) o x)))
    (λ d b f. record {
      unfinished = refl;
      turns = λ w h. v.goes
          (in_statement (annotated_value n a.annotation) (site_at p d b)) w h
          ∙ line_end_turn (after_stmt (site_at p d b) (annotated p n a.annotation (Some v.part.tree))) w.kind;
    })
    c.line_end.ensures

pub returns : goal.returns
returns g c = let n = name_of c.args.name in let p = c.args.first in let a = c.in_ok-annotation.ensures in
    line_ended g.X.AsStr g.I.Iterator
    (λ d b. part_due no_anns [] (ann_whole (of_local n (site_at p d b))))
    (λ d b. a.behind (of_local n (site_at p d b))) _
    c.args.self.now c.annotation.new.self c.line_end-2.new.self _ c.line_end-2.result (annotated p n a.annotation None)
    (keep_annotated _ p n c.in_ok-annotation.annotation a.annotation
    (ap (λ z. annotated p n (ann_of z) None) c.in_ok-boxed.ensures.ok) a.keeps) (let r = a.later in omega arith)
    (λ d b f. a.leads (of_local n (site_at p d b)))
    (λ d b f. record {
      unfinished = a.unfinished (of_local n (site_at p d b));
      turns =
          λ w h. a.goes (of_local n (site_at p d b)) w h ∙ on_unseen (same_kind w.kind (kind.Operator sign.Equal)) _ _
          (not_seen (kind.Operator sign.Equal) (sym c.sees.ensures ∙ c.if-sees.false) h);
    })
    c.line_end-2.ensures
