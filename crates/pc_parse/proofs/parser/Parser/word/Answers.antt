use Rattle.std.proofs.Common.{refl, arith, ap, sym, ◌∙◌}
use Rattle.std.proofs.lemmas.Result.{err_from_is_err_and}
use Rattle.std.specs.Prelude.{◌≡◌, []}
use Rattle.pc_source.specs.declared.place.Place.{Place}
use Rattle.pc_tree.specs.Depth.{wholes_of_stmt}
use Rattle.pc_tree.specs.Tree.{stmt_of_kind}
use Rattle.pc_grammar.specs.Machine.{at}
use Rattle.pc_grammar.specs.Machine.States.{stmts}
use Rattle.pc_grammar.specs.Machine.Finishing.{add_stmt}
use Rattle.pc_grammar.specs.Machine.Lines.{line_ends}
use Rattle.pc_reader.proofs.Streams.{blame}
use Rattle.pc_reader.proofs.Steps.{step_to}
use Rattle.pc_parse.specs.declared.statement.OneWordStatement.{OneWordStatement}
use Rattle.pc_parse.specs.declared.statement.OneWordStatement.TheVariants as alone
use Rattle.pc_parse.specs.Internal.WholeTrees.{deep_after}
use Rattle.pc_parse.specs.Internal.Suites.{site_at, kind_of_word}
use Rattle.pc_parse.proofs.Lines.{line_ended}
use Rattle.pc_parse.proofs.Depths.{noted_nothing}
use Rattle.pc_parse.proofs.parser.Parser.word.Goals as goal

-- a statement of one word has no expression
no_whole : (w : OneWordStatement) (first : Place) → wholes_of_stmt (stmt_of_kind first (kind_of_word w)) ≡ []
no_whole alone.Pass first = refl
no_whole alone.Break first = refl
no_whole alone.Continue first = refl

pub returns-in_err-token : goal.returns-in_err-token
returns-in_err-token g c = let p = err_from_is_err_and c.from_residual.result c.from_residual.ensures.1 in
    rw (p.1, p.2) (blame (λ o w. λ d b f. w (at (stmts d b)) (λ e. refl)) c.in_err-token.ensures)

pub returns : goal.returns
returns g c = let t = c.in_ok-token.ensures in let s = stmt_of_kind c.in_ok-token.token.place
    (kind_of_word c.args.word) in
    line_ended g.X.AsStr g.I.Iterator (λ d b. stmts d b)
    (λ d b. line_ends (stmts (add_stmt d s) b)) _ c.args.self.now
    (record c.args.self.now { reader = c.take.new.self }) c.line_end.new.self _ c.line_end.result s
    (record {
      deep = sym (ap (deep_after c.args.self.now.deep) (no_whole c.args.word _) ∙ noted_nothing _);
      kept =
          λ e. ap (stmt_of_kind c.in_ok-token.token.place) c.kind_of_word.ensures;
    }) (let l = t.later in omega arith)
    (λ d b f. step_to (stmts d b) (line_ends (stmts (add_stmt d s) b)) t
    (f _ (site_at c.in_ok-token.token.place d b) t.here))
    (λ d b f. record { unfinished = refl; turns = λ u h. refl })
    c.line_end.ensures
