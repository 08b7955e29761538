use Rattle.std.proofs.Common.{inl, inr, [], ◌∷◌, refl, arith, ap, sym, ◌∙◌}
use Rattle.std.proofs.lemmas.Result.{err_from_is_err_and}
use Rattle.pc_token.specs.declared.token.TokenKind.TheVariants as kind
use Rattle.pc_token.specs.declared.token.Keyword.TheVariants as word
use Rattle.pc_token.specs.declared.token.Operator.TheVariants as sign
use Rattle.pc_tree.specs.Tree.{while_loop, for_loop, conditional, no_stmts, no_branches, name_of, stmts_of_list}
use Rattle.pc_tree.specs.Depth.{whole_expr, wholes_of_stmts}
use Rattle.pc_tree.specs.Lists.{branches_of_list}
use Rattle.pc_grammar.specs.Grammar.{name_of_token}
use Rattle.pc_grammar.specs.Machine.{at, transition}
use Rattle.pc_grammar.specs.Machine.Kinds.{same_kind}
use Rattle.pc_grammar.specs.Machine.States.{whole, in_statement, looping, iterating, branching, while_body, for_body}
use Rattle.pc_grammar.specs.Machine.States.{branch_body, else_body, fixed, stmts, target_due, after_branch, operand}
use Rattle.pc_grammar.specs.Machine.States.{have}
use Rattle.pc_grammar.specs.Machine.States.{stuck, go}
use Rattle.pc_grammar.specs.Machine.Finishing.{add_stmt, add_branch, after_stmt, after_suite, suite_of, nested_in}
use Rattle.pc_grammar.specs.Machine.Lines.{lead_turn}
use Rattle.pc_grammar.specs.Machine.Kinds.{a_kind}
use Rattle.pc_reader.specs.Reading.{lexeme}
use Rattle.pc_reader.proofs.Streams.{blame}
use Rattle.pc_reader.proofs.Steps.{step_to, alike, needs, meets, kind_seen, not_seen}
use Rattle.pc_parse.specs.Internal.WholeTrees.{ending_of}
use Rattle.pc_parse.specs.Internal.Suites.{lead_view, site_at}
use Rattle.pc_parse.proofs.Statements.{colon_turn, suite_ends, suite_stuck, on_unseen, on_go}
use Rattle.pc_parse.proofs.Lines.{refit, seen_kind, no_statements, else_read}
use Rattle.pc_parse.proofs.Depths.{noted_nothing, kept_tree}
use Rattle.pc_parse.proofs.Keeping.{noted_then, none_then, keep_more, keep_branch, keep_if, keep_while, keep_for}
use Rattle.pc_parse.proofs.StatementRows.{if_is, branch_is}
use Rattle.pc_parse.proofs.parser.Parser.+statements.Goals as goal

pub suite-returns-in_err-expect : goal.suite-returns-in_err-expect
suite-returns-in_err-expect g t c = let p = err_from_is_err_and c.from_residual.result c.from_residual.ensures.1 in
    rw (p.1, p.2)
    (blame (λ o w. λ b. w (suite_of b) (needs (λ _. fixed (a_kind kind.Indent) [] (stmts no_stmts b)) refl
    (λ u k. refl))) c.in_err-expect.ensures.taken)

pub suite-returns-in_err-expect-2 : goal.suite-returns-in_err-expect-2
suite-returns-in_err-expect-2 g t c = let p = err_from_is_err_and c.from_residual-in_err-expect-2.result
    c.from_residual-in_err-expect-2.ensures.1 in
    rw (p.1, p.2) (blame (λ o w. λ b. step_to (suite_of b) (fixed (a_kind kind.Indent) [] (stmts no_stmts b))
    c.in_ok-expect.ensures.taken (meets kind.Newline _ _ c.in_ok-expect.ensures.kind) o
    (w (fixed (a_kind kind.Indent) [] (stmts no_stmts b)) (needs (λ _. stmts no_stmts b) refl (λ u k. refl))))
    c.in_err-expect-2.ensures.taken)

pub suite-loop-stmts-init : goal.suite-loop-stmts-init
suite-loop-stmts-init g t c = let x = c.in_ok-expect.ensures.taken in let y = c.in_ok-expect-2.ensures.taken in record {
  statements = no_stmts;
  keeps = record { deep = sym (noted_nothing _); kept = λ e. ap stmts_of_list c.new-stmts.ensures.items };
  ready = y.ready;
  later = let l = x.later in let m = y.later in omega arith;
  stands = inl refl;
  leads = λ b o z. step_to (suite_of b) (fixed (a_kind kind.Indent) [] (stmts no_stmts b)) x
      (meets kind.Newline _ _ c.in_ok-expect.ensures.kind) o
      (step_to (fixed (a_kind kind.Indent) [] (stmts no_stmts b)) (stmts no_stmts b) y
      (meets kind.Indent _ _ c.in_ok-expect-2.ensures.kind) o z);
}

pub suite-returns-in_err-stmt : goal.suite-returns-in_err-stmt
suite-returns-in_err-stmt g t c = let v = c.loop-stmts.invariant in let p =
    err_from_is_err_and c.from_residual-in_err-stmt.result c.from_residual-in_err-stmt.ensures.1 in
    rw (p.1, p.2) (blame (λ o w. λ b. v.leads b o (w v.statements b v.stands)) c.in_err-stmt.ensures)

pub suite-returns-in_err-take : goal.suite-returns-in_err-take
suite-returns-in_err-take g t c = let v = c.loop-stmts.invariant in let s = c.in_ok-stmt.ensures in let p =
    err_from_is_err_and c.from_residual-in_err-take.result c.from_residual-in_err-take.ensures.1 in
    rw (p.1, p.2)
    (blame (λ o w. λ b. v.leads b o (s.leads v.statements b v.stands o
    (w (at (stmts (add_stmt v.statements s.statement) b)) (λ e. refl)))) c.in_err-take.ensures)

pub suite-returns-then-sees : goal.suite-returns-then-sees
suite-returns-then-sees g t c = let v = c.loop-stmts.invariant in let s = c.in_ok-stmt.ensures in let u =
    c.in_ok-take.ensures in record {
      statements = add_stmt v.statements s.statement;
      keeps = let k = keep_more c.in_ok-put_last.ensures.items v.keeps s.keeps in
          record { deep = k.deep; kept = k.kept };
      ready = u.ready;
      later = let l = v.later in let m = s.later in let n = u.later in omega arith;
      leads = λ b o z. v.leads b o (s.leads v.statements b v.stands o
          (step_to (stmts (add_stmt v.statements s.statement) b) (after_suite b (add_stmt v.statements s.statement)) u
          (ap (transition (stmts (add_stmt v.statements s.statement) b) _)
          (kind_seen kind.Dedent (sym c.sees.ensures ∙ c.if-sees.true) u.here) ∙ suite_ends v.statements s.statement b)
          o z));
    }

pub suite-loop-stmts-preserved : goal.suite-loop-stmts-preserved
suite-loop-stmts-preserved g t c = let v = c.loop-stmts.invariant in let s = c.in_ok-stmt.ensures in record {
  statements = add_stmt v.statements s.statement;
  keeps = keep_more c.in_ok-put_last.ensures.items v.keeps s.keeps;
  ready = s.ready;
  later = let l = v.later in let m = s.later in omega arith;
  stands = inr (sym c.sees.ensures ∙ c.if-sees.false);
  leads = λ b o z. v.leads b o (s.leads v.statements b v.stands o z);
}

pub statement-returns-in-Pass : goal.statement-returns-in-Pass
statement-returns-in-Pass g t c = refit g.X.AsStr g.I.Iterator (λ d b. stmts d b) _ _ c.args.self.now c.word.new.self
    c.word.result
    (λ d k. λ u s h. ap (lead_turn s (lexeme g.X.AsStr.text u) u.kind) (c.lead.ensures u h ∙ ap lead_view c.in-Pass.is))
    c.word.ensures

pub statement-returns-in-Break : goal.statement-returns-in-Break
statement-returns-in-Break g t c = refit g.X.AsStr g.I.Iterator (λ d b. stmts d b) _ _ c.args.self.now
    c.word-in-Break.new.self c.word-in-Break.result
    (λ d k. λ u s h. ap (lead_turn s (lexeme g.X.AsStr.text u) u.kind)
    (c.lead.ensures u h ∙ ap lead_view c.in-Break.is)) c.word-in-Break.ensures

pub statement-returns-in-Continue : goal.statement-returns-in-Continue
statement-returns-in-Continue g t c = refit g.X.AsStr g.I.Iterator (λ d b. stmts d b) _ _ c.args.self.now
    c.word-in-Continue.new.self c.word-in-Continue.result
    (λ d k. λ u s h. ap (lead_turn s (lexeme g.X.AsStr.text u) u.kind)
    (c.lead.ensures u h ∙ ap lead_view c.in-Continue.is)) c.word-in-Continue.ensures

pub statement-returns-in-Return : goal.statement-returns-in-Return
statement-returns-in-Return g t c = refit g.X.AsStr g.I.Iterator (λ d b. stmts d b) _ _ c.args.self.now
    c.returned.new.self c.returned.result
    (λ d k. λ u h. c.lead.ensures u h ∙ ap lead_view c.in-Return.is) c.returned.ensures

pub statement-returns-in-Assert : goal.statement-returns-in-Assert
statement-returns-in-Assert g t c = refit g.X.AsStr g.I.Iterator (λ d b. stmts d b) _ _ c.args.self.now
    c.asserted.new.self c.asserted.result
    (λ d k. λ u h. c.lead.ensures u h ∙ ap lead_view c.in-Assert.is) c.asserted.ensures

pub statement-returns-in-While : goal.statement-returns-in-While
statement-returns-in-While g t c = refit g.X.AsStr g.I.Iterator (λ d b. stmts d b) _ _ c.args.self.now
    c.while_loop.new.self c.while_loop.result
    (λ d k. λ u h. c.lead.ensures u h ∙ ap lead_view c.in-While.is) c.while_loop.ensures

pub statement-returns-in-For : goal.statement-returns-in-For
statement-returns-in-For g t c =
    refit g.X.AsStr g.I.Iterator (λ d b. stmts d b) _ _ c.args.self.now c.for_loop.new.self
    c.for_loop.result
    (λ d k. λ u h. c.lead.ensures u h ∙ ap lead_view c.in-For.is) c.for_loop.ensures

pub statement-returns-in-If : goal.statement-returns-in-If
statement-returns-in-If g t c = refit g.X.AsStr g.I.Iterator (λ d b. stmts d b) _ _ c.args.self.now
    c.conditional.new.self c.conditional.result
    (λ d k. λ u h. c.lead.ensures u h ∙ ap lead_view c.in-If.is) c.conditional.ensures

pub statement-returns-in-Other : goal.statement-returns-in-Other
statement-returns-in-Other g t c = refit g.X.AsStr g.I.Iterator (λ d b. stmts d b) _ _ c.args.self.now c.line.new.self
    c.line.result
    (λ d k. λ u h. c.lead.ensures u h ∙ ap lead_view c.in-Other.is) c.line.ensures

pub statement-returns-in-Dedent : goal.statement-returns-in-Dedent
statement-returns-in-Dedent g t c = blame (λ o w. λ d b k. w (stmts d b) (record {
  unfinished = refl;
  stuck_at = λ u h. let l = c.lead.ensures u h ∙ ap lead_view c.in-Dedent.is in
      ap (lead_turn (site_at u.place d b) (lexeme g.X.AsStr.text u) u.kind) l ∙ suite_stuck d b (no_statements k h l);
})) c.misfit.ensures

pub while_loop-returns-in_err-token : goal.while_loop-returns-in_err-token
while_loop-returns-in_err-token g t c = let p =
    err_from_is_err_and c.from_residual.result c.from_residual.ensures.1 in
    rw (p.1, p.2) (blame (λ o w. λ d b f. w (at (stmts d b)) (λ e. refl)) c.in_err-token.ensures)

pub while_loop-returns-in_err-condition : goal.while_loop-returns-in_err-condition
while_loop-returns-in_err-condition g t c = let u = c.in_ok-token.ensures in let p = c.in_ok-token.token.place in
    let q = err_from_is_err_and c.from_residual-in_err-condition.result c.from_residual-in_err-condition.ensures.1 in
    rw (q.1, q.2) (blame (λ o w. λ d b f. step_to (stmts d b) (operand (whole (in_statement looping (site_at p d b)))) u
    (ap (lead_turn (site_at p d b) _ _) (f _ u.here)) o
    (w looping while_body (site_at p d b) (λ x s e. refl))) c.in_err-condition.ensures)

pub while_loop-returns : goal.while_loop-returns
while_loop-returns g t c = let u = c.in_ok-token.ensures in let p = c.in_ok-token.token.place in let h =
    c.in_ok-condition.ensures in record {
      statement = while_loop p h.head h.body;
      keeps = keep_while p c.in_ok-boxed.boxed c.in_ok-condition.condition c.in_ok-boxed.ensures.ok
          c.in_ok-condition.body h.deep h.kept_head h.kept_body;
      ready = h.ready;
      later = let l = u.later in let m = h.later in omega arith;
      leads = λ d b f o x. step_to (stmts d b) (operand (whole (in_statement looping (site_at p d b)))) u
          (ap (lead_turn (site_at p d b) _ _) (f _ u.here)) o
          (h.leads looping while_body (site_at p d b) (λ x s e. refl) o x);
    }

pub for_loop-returns-in_err-token : goal.for_loop-returns-in_err-token
for_loop-returns-in_err-token g t c = let p = err_from_is_err_and c.from_residual.result c.from_residual.ensures.1 in
    rw (p.1, p.2) (blame (λ o w. λ d b f. w (at (stmts d b)) (λ e. refl)) c.in_err-token.ensures)

pub for_loop-returns-in_err-target : goal.for_loop-returns-in_err-target
for_loop-returns-in_err-target g t c = let u = c.in_ok-token.ensures in let p = c.in_ok-token.token.place in let q =
    err_from_is_err_and c.from_residual-in_err-target.result c.from_residual-in_err-target.ensures.1 in
    rw (q.1, q.2) (blame (λ o w. λ d b f. step_to (stmts d b) (target_due (site_at p d b)) u
    (ap (lead_turn (site_at p d b) _ _) (f _ u.here)) o
    (w (target_due (site_at p d b))
    (needs (λ x. fixed (a_kind (kind.Keyword word.In)) []
    (operand (whole (in_statement (iterating (name_of_token x)) (site_at p d b))))) refl (λ x k. refl))))
    c.in_err-target.ensures)

pub for_loop-returns-in_err-expect : goal.for_loop-returns-in_err-expect
for_loop-returns-in_err-expect g t c = let u = c.in_ok-token.ensures in let p = c.in_ok-token.token.place in let n =
    c.in_ok-target.ensures in let m = name_of c.in_ok-target.target in
    let q = err_from_is_err_and c.from_residual-in_err-expect.result c.from_residual-in_err-expect.ensures.1 in
    rw (q.1, q.2) (blame (λ o w. λ d b f. step_to (stmts d b) (target_due (site_at p d b)) u
    (ap (lead_turn (site_at p d b) _ _) (f _ u.here)) o
    (step_to (target_due (site_at p d b)) (fixed (a_kind (kind.Keyword word.In)) []
    (operand (whole (in_statement (iterating m) (site_at p d b))))) n.takes
    (meets kind.Name _ _ n.is
    ∙ ap (λ z. go (fixed (a_kind (kind.Keyword word.In)) []
    (operand (whole (in_statement (iterating z) (site_at p d b)))))) (sym n.name)) o
    (w (fixed (a_kind (kind.Keyword word.In)) [] (operand (whole (in_statement (iterating m) (site_at p d b)))))
    (needs (λ _. operand (whole (in_statement (iterating m) (site_at p d b)))) refl (λ x k. refl)))))
    c.in_err-expect.ensures.taken)

pub for_loop-returns-in_err-iterable : goal.for_loop-returns-in_err-iterable
for_loop-returns-in_err-iterable g t c = let u = c.in_ok-token.ensures in let p = c.in_ok-token.token.place in let n =
    c.in_ok-target.ensures in let m = name_of c.in_ok-target.target in let i = c.in_ok-expect.ensures in
    let q = err_from_is_err_and c.from_residual-in_err-iterable.result c.from_residual-in_err-iterable.ensures.1 in
    rw (q.1, q.2) (blame (λ o w. λ d b f. step_to (stmts d b) (target_due (site_at p d b)) u
    (ap (lead_turn (site_at p d b) _ _) (f _ u.here)) o
    (step_to (target_due (site_at p d b)) (fixed (a_kind (kind.Keyword word.In)) []
    (operand (whole (in_statement (iterating m) (site_at p d b))))) n.takes
    (meets kind.Name _ _ n.is
    ∙ ap (λ z. go (fixed (a_kind (kind.Keyword word.In)) []
    (operand (whole (in_statement (iterating z) (site_at p d b)))))) (sym n.name)) o
    (step_to (fixed (a_kind (kind.Keyword word.In)) [] (operand (whole (in_statement (iterating m) (site_at p d b)))))
    (operand (whole (in_statement (iterating m) (site_at p d b)))) i.taken (meets (kind.Keyword word.In) _ _ i.kind)
    o
    (w (iterating m) (for_body m) (site_at p d b) (λ x s e. refl))))) c.in_err-iterable.ensures)

pub for_loop-returns : goal.for_loop-returns
for_loop-returns g t c = let u = c.in_ok-token.ensures in let p = c.in_ok-token.token.place in let n =
    c.in_ok-target.ensures in let m = name_of c.in_ok-target.target in let i = c.in_ok-expect.ensures in let h =
    c.in_ok-iterable.ensures in record {
      statement = for_loop p m h.head h.body;
      keeps = keep_for p c.in_ok-target.target c.in_ok-boxed.boxed c.in_ok-iterable.iterable c.in_ok-boxed.ensures.ok
          c.in_ok-iterable.body h.deep h.kept_head h.kept_body;
      ready = h.ready;
      later = let l = u.later in let k = n.takes.later in let j = i.taken.later in let y = h.later in omega arith;
      leads = λ d b f o x. step_to (stmts d b) (target_due (site_at p d b)) u
          (ap (lead_turn (site_at p d b) _ _) (f _ u.here)) o
          (step_to (target_due (site_at p d b)) (fixed (a_kind (kind.Keyword word.In)) []
          (operand (whole (in_statement (iterating m) (site_at p d b))))) n.takes
          (meets kind.Name _ _ n.is
          ∙ ap (λ z. go (fixed (a_kind (kind.Keyword word.In)) []
          (operand (whole (in_statement (iterating z) (site_at p d b)))))) (sym n.name)) o
          (step_to (fixed (a_kind (kind.Keyword word.In)) []
          (operand (whole (in_statement (iterating m) (site_at p d b)))))
          (operand (whole (in_statement (iterating m) (site_at p d b)))) i.taken
          (meets (kind.Keyword word.In) _ _ i.kind) o
          (h.leads (iterating m) (for_body m) (site_at p d b) (λ x s e. refl) o x)));
    }

pub conditional-returns-in_err-token : goal.conditional-returns-in_err-token
conditional-returns-in_err-token g t c = let p =
    err_from_is_err_and c.from_residual.result c.from_residual.ensures.1 in
    rw (p.1, p.2) (blame (λ o w. λ d b f. w (at (stmts d b)) (λ e. refl)) c.in_err-token.ensures)

pub conditional-loop-branches-init : goal.conditional-loop-branches-init
conditional-loop-branches-init g t c = let u = c.in_ok-token.ensures in let p = c.in_ok-token.token.place in record {
  branches = no_branches;
  keeps = record { deep = sym (noted_nothing _); kept = λ e. ap branches_of_list c.new-branches.ensures.items };
  ready = u.ready;
  later = u.later;
  leads = λ d b f. step_to (stmts d b) (operand (whole (in_statement (branching no_branches) (site_at p d b)))) u
      (ap (lead_turn (site_at p d b) _ _) (f _ u.here));
}

pub conditional-returns-in_err-condition : goal.conditional-returns-in_err-condition
conditional-returns-in_err-condition g t c = let v = c.loop-branches.invariant in let p = c.in_ok-token.token.place in
    let q = err_from_is_err_and c.from_residual-in_err-condition.result c.from_residual-in_err-condition.ensures.1 in
    rw (q.1, q.2)
    (blame (λ o w. λ d b f. v.leads d b f o (w (branching v.branches) (branch_body v.branches) (site_at p d b)
    (λ x s e. refl))) c.in_err-condition.ensures)

pub conditional-returns-in_err-otherwise : goal.conditional-returns-in_err-otherwise
conditional-returns-in_err-otherwise g t c = let v = c.loop-branches.invariant in let p = c.in_ok-token.token.place in
    let h = c.in_ok-condition.ensures in let q = err_from_is_err_and c.from_residual-in_err-otherwise.result
    c.from_residual-in_err-otherwise.ensures.1 in
    rw (q.1, q.2)
    (blame (λ o w. λ d b f. v.leads d b f o (h.leads (branching v.branches) (branch_body v.branches) (site_at p d b)
    (λ x s e. refl) o
    (w (add_branch v.branches h.head h.body) (site_at p d b) (sym c.sees.ensures ∙ c.if-not-sees.true))))
    c.in_err-otherwise.ensures)

pub conditional-returns-then-not-sees : goal.conditional-returns-then-not-sees
conditional-returns-then-not-sees g t c = let v = c.loop-branches.invariant in let p = c.in_ok-token.token.place in
    let h = c.in_ok-condition.ensures in let y = c.in_ok-otherwise.ensures in record {
      statement = conditional p (add_branch v.branches h.head h.body) y.statements;
      keeps = keep_if _ p (if_is p _ _) (keep_branch _ c.in_ok-condition.condition c.in_ok-condition.body
          c.in_ok-put_last.ensures.items (branch_is c.in_ok-condition.condition c.in_ok-condition.body) v.keeps h.deep
          h.kept_head h.kept_body) y.keeps;
      ready = y.ready;
      later = let l = v.later in let m = h.later in let n = y.later in omega arith;
      leads = λ d b f o x. v.leads d b f o (h.leads (branching v.branches) (branch_body v.branches) (site_at p d b)
          (λ x s e. refl) o
          (y.leads (add_branch v.branches h.head h.body) (site_at p d b)
          (sym c.sees.ensures ∙ c.if-not-sees.true) o x));
    }

pub conditional-returns-in_err-take : goal.conditional-returns-in_err-take
conditional-returns-in_err-take g t c = let v = c.loop-branches.invariant in let p = c.in_ok-token.token.place in
    let h = c.in_ok-condition.ensures in let q = err_from_is_err_and c.from_residual-in_err-take.result
    c.from_residual-in_err-take.ensures.1 in
    rw (q.1, q.2)
    (blame (λ o w. λ d b f. v.leads d b f o (h.leads (branching v.branches) (branch_body v.branches) (site_at p d b)
    (λ x s e. refl) o
    (w (at (after_branch (add_branch v.branches h.head h.body) (site_at p d b))) (λ e. refl)))) c.in_err-take.ensures)

pub conditional-loop-branches-preserved : goal.conditional-loop-branches-preserved
conditional-loop-branches-preserved g t c = let v = c.loop-branches.invariant in let p = c.in_ok-token.token.place in
    let h = c.in_ok-condition.ensures in let u = c.in_ok-take.ensures in record {
      branches = add_branch v.branches h.head h.body;
      keeps = keep_branch _ c.in_ok-condition.condition c.in_ok-condition.body c.in_ok-put_last.ensures.items
          (branch_is c.in_ok-condition.condition c.in_ok-condition.body) v.keeps h.deep h.kept_head h.kept_body;
      ready = u.ready;
      later = let l = v.later in let m = h.later in let n = u.later in omega arith;
      leads = λ d b f o x. v.leads d b f o (h.leads (branching v.branches) (branch_body v.branches) (site_at p d b)
          (λ x s e. refl) o
          (step_to (after_branch (add_branch v.branches h.head h.body) (site_at p d b))
          (operand (whole (in_statement (branching (add_branch v.branches h.head h.body)) (site_at p d b)))) u
          (on_go _ _ _ (seen_kind (kind.Keyword word.Elif) (sym c.sees.ensures ∙ c.if-not-sees.false) u.here)) o x));
    }

pub headed-returns-in_err-head : goal.headed-returns-in_err-head
headed-returns-in_err-head g t c = let q = err_from_is_err_and c.from_residual.result c.from_residual.ensures.1 in
    rw (q.1, q.2) (blame (λ o w. λ begun nest site hd. w (in_statement begun site)) c.in_err-head.ensures)

pub headed-returns-in-Err : goal.headed-returns-in-Err
headed-returns-in-Err g t c = let v = c.in_ok-head.ensures in
    blame (λ o w. λ begun nest site hd. v.leads (in_statement begun site) o
    (w (have c.in_ok-head.head.level v.part (whole (in_statement begun site)))
    (record {
      unfinished = refl;
      stuck_at = λ u h f. v.goes (in_statement begun site) u h ∙ hd v.part site (ending_of u.kind)
          ∙ colon_turn (suite_of (nested_in site (nest v.part.tree))) u.kind
          ∙ on_unseen (same_kind u.kind (kind.Operator sign.Colon)) _ stuck f;
    }))) c.in-Err.ensures.taken

pub headed-returns-in-Err-suite : goal.headed-returns-in-Err-suite
headed-returns-in-Err-suite g t c = let v = c.in_ok-head.ensures in
    let i = c.in-Ok.ensures in blame (λ o w. λ begun nest site hd. v.leads (in_statement begun site) o
    (step_to (have c.in_ok-head.head.level v.part (whole (in_statement begun site)))
    (suite_of (nested_in site (nest v.part.tree))) i.taken
    (v.goes (in_statement begun site) _ i.taken.here ∙ hd v.part site _
    ∙ colon_turn (suite_of (nested_in site (nest v.part.tree))) _ ∙ meets (kind.Operator sign.Colon) _ _ i.kind) o
    (w (nested_in site (nest v.part.tree))))) c.in-Err-suite.ensures

pub headed-returns : goal.headed-returns
headed-returns g t c = let v = c.in_ok-head.ensures in let i = c.in-Ok.ensures in let y = c.in-Ok-suite.ensures in
    record {
      head = v.part.tree;
      body = y.statements;
      deep = noted_then c.args.self.now.deep (whole_expr v.part.tree ∷ []) (wholes_of_stmts y.statements) v.deep
          y.keeps.deep;
      kept_head = λ e. kept_tree c.in_ok-head.head v.part _ v.keeps
          (sym v.deep ∙ none_then (wholes_of_stmts y.statements) y.keeps.deep e);
      kept_body = y.keeps.kept;
      ready = y.ready;
      later = let l = v.later in let m = i.taken.later in let n = y.later in omega arith;
      leads = λ begun nest site hd o x. v.leads (in_statement begun site) o
          (step_to (have c.in_ok-head.head.level v.part (whole (in_statement begun site)))
          (suite_of (nested_in site (nest v.part.tree))) i.taken
          (v.goes (in_statement begun site) _ i.taken.here ∙ hd v.part site _
          ∙ colon_turn (suite_of (nested_in site (nest v.part.tree))) _ ∙ meets (kind.Operator sign.Colon) _ _ i.kind) o
          (y.leads (nested_in site (nest v.part.tree)) o x));
    }

pub otherwise-returns-then-not-sees : goal.otherwise-returns-then-not-sees
otherwise-returns-then-not-sees g t c = record {
  statements = no_stmts;
  keeps = record { deep = sym (noted_nothing _); kept = λ e. ap stmts_of_list c.new.ensures.items };
  ready = c.requires;
  later = omega arith;
  leads = λ bs site n. alike g.X.AsStr.text g.I.Iterator.next_gives c.args.self.now.reader (after_branch bs site)
      (after_stmt site (conditional site.first bs no_stmts)) refl refl
      (λ u h. on_unseen (same_kind u.kind (kind.Keyword word.Elif)) _ _ (not_seen (kind.Keyword word.Elif) n h)
      ∙ on_unseen (same_kind u.kind (kind.Keyword word.Else)) _ _
      (not_seen (kind.Keyword word.Else) (sym c.sees.ensures ∙ c.if-not-sees.true) h));
}

pub otherwise-returns-in_err-take : goal.otherwise-returns-in_err-take
otherwise-returns-in_err-take g t c = let q = err_from_is_err_and c.from_residual.result c.from_residual.ensures.1 in
    rw (q.1, q.2) (blame (λ o w. λ bs site n. w (at (after_branch bs site)) (λ e. refl)) c.in_err-take.ensures)

pub otherwise-returns-in_err-expect : goal.otherwise-returns-in_err-expect
otherwise-returns-in_err-expect g t c = let u = c.in_ok-take.ensures in let q =
    err_from_is_err_and c.from_residual-in_err-expect.result c.from_residual-in_err-expect.ensures.1 in
    rw (q.1, q.2) (blame (λ o w. λ bs site n. step_to (after_branch bs site)
    (fixed (a_kind (kind.Operator sign.Colon)) (a_kind kind.Newline ∷ a_kind kind.Indent ∷ [])
    (stmts no_stmts (nested_in site (else_body bs)))) u
    (on_unseen (same_kind _ (kind.Keyword word.Elif)) _ _ (not_seen (kind.Keyword word.Elif) n u.here)
    ∙ on_go _ _ _ (seen_kind (kind.Keyword word.Else) (sym c.sees.ensures ∙ c.if-not-sees.false) u.here)) o
    (w (fixed (a_kind (kind.Operator sign.Colon)) (a_kind kind.Newline ∷ a_kind kind.Indent ∷ [])
    (stmts no_stmts (nested_in site (else_body bs)))) (needs (λ _. suite_of (nested_in site (else_body bs))) refl
    (λ x k. refl)))) c.in_err-expect.ensures.taken)

pub otherwise-returns : goal.otherwise-returns
otherwise-returns g t c = let u = c.in_ok-take.ensures in let i = c.in_ok-expect.ensures in
    else_read g.X.AsStr g.I.Iterator c.args.self.now
    (record c.args.self.now { reader = c.expect.new.self }) c.suite.new.self c.suite.result refl
    (let l = u.later in let m = i.taken.later in omega arith)
    (λ bs site n o x. step_to (after_branch bs site) (fixed (a_kind (kind.Operator sign.Colon))
    (a_kind kind.Newline ∷ a_kind kind.Indent ∷ []) (stmts no_stmts (nested_in site (else_body bs)))) u
    (on_unseen (same_kind _ (kind.Keyword word.Elif)) _ _ (not_seen (kind.Keyword word.Elif) n u.here)
    ∙ on_go _ _ _ (seen_kind (kind.Keyword word.Else) (sym c.sees.ensures ∙ c.if-not-sees.false) u.here)) o
    (step_to (fixed (a_kind (kind.Operator sign.Colon)) (a_kind kind.Newline ∷ a_kind kind.Indent ∷ [])
    (stmts no_stmts (nested_in site (else_body bs)))) (suite_of (nested_in site (else_body bs))) i.taken
    (meets (kind.Operator sign.Colon) _ _ i.kind) o x))
    c.suite.ensures
