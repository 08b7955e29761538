use Rattle.pc_flow.specs.Naming.{meanings}
use Rattle.std.proofs.Common.{◌≡◌, ◌∙◌, ◌+◌, ◌++◌, ◌∷◌, ℕ, List, Option, Some, None, length, refl, sym, ap}
use Rattle.std.proofs.Common.{subst, arith}
use Rattle.std.proofs.Common.{rules, drop}
use Rattle.std.specs.Prelude.{Bool as Test, true, false, IfOk}
use Rattle.std.specs.Option.{option_map}
use Rattle.pc_tree.specs.Tree.{Stmt, stmt_of, expr_of, option_expr_of, stmt_of_kind, stmts_of_list, no_branches}
use Rattle.pc_tree.specs.Tree.{conditional, for_loop, while_loop, name_of}
use Rattle.pc_tree.specs.Lists.{branches_of_list}
use Rattle.pc_tree.specs.declared.tree.Branch.{out-Branch}
use Rattle.pc_tree.specs.declared.tree.StmtKind.TheFolds.{the_lemmas}
use Rattle.pc_tree.specs.Depth.{place_of}
use Rattle.pc_tree.specs.Stopping.{bound_by}
use Rattle.pc_tree.proofs.Trees.{while_tree, for_tree, if_tree, branch_tree, branches_next, stmts_next}
use Rattle.pc_tree.proofs.tree.Branch.TheLaws.{the_size as branch_size}
use Rattle.pc_tree.proofs.tree.Stmt.TheLaws.{the_size}
use Rattle.pc_flow.specs.Agreement.{is_among, AgreeOutside}
use Rattle.pc_flow.specs.Environment.{Env}
use Rattle.pc_flow.specs.Stored.{env_of}
use Rattle.pc_notes.specs.Notes.{notes_of}
use Rattle.pc_rules.specs.Computed.Findings.{codes_at}
use Rattle.pc_rules.specs.Computed.Standing.{finds_in, narrowed_standing}
use Rattle.pc_rules.specs.Computed.ModuleParents.{class_parents}
use Rattle.pc_rules.proofs.Along.{on_ok}
use Rattle.pc_module_rules.specs.Computed.Statements.{Walk as Reached, BranchesResult, BindingResult, standing_here, narrowed_at}
use Rattle.pc_module_rules.specs.Computed.Statements.{head_at}
use Rattle.pc_module_rules.specs.Computed.Statements.{option_finds, bind_item, with_note, item_label_of, iterable_finds}
use Rattle.pc_module_rules.specs.Computed.Statements.{step}
use Rattle.pc_module_rules.specs.Computed.Statements.{walk_suite}
use Rattle.pc_module_rules.specs.Computed.Statements.{walk_branches}
use Rattle.pc_module_rules.specs.Computed.Statements.{with_way, behind_binding, behind_branches, behind_loop}
use Rattle.pc_module_rules.specs.Computed.Statements.{inside_for}
use Rattle.pc_walk.specs.declared.context.BodyContext.{BodyContext as RustBodyContext}
use Rattle.pc_walk.specs.StatementsHeld.{body_context_with}
use Rattle.pc_walk.specs.Touched.{touched_by_stmt, touched_by, touched_by_branches, touched_by_while}
use Rattle.pc_walk.specs.Touched.{touched_by_for}
use Rattle.pc_walk.specs.Untouched.{AreAmong, WaysAgree, AgreesIfAny, TakesInIfAny, WayTakesIn, AreNoted}
use Rattle.pc_walk.specs.Walks.{body_context_in, standing_in}
use Rattle.pc_walk.proofs.Held.{gives_types}
use Rattle.pc_walk.proofs.Settled.{agreed_taken_in, suite_taken_in, next_taken_in}
use Rattle.pc_walk.proofs.Untouched.{narrowed_long, head_at_long, item_long}
use Rattle.pc_walk.proofs.Walks.{same_walk, goes_further, in_body_context, env_kept, way_kept, one_kept, context_on}
use Rattle.pc_walk.proofs.Walks.{stands_on}
use Rattle.pc_check.specs.Internal.StatementWalk.{HasAllLocals, IsAsLongIfAny, BreaksAreSubsumed, BreaksStaySubsumed}
use Rattle.pc_check.specs.Internal.Walked.{IsValidWith, Walked, reached, branching}
use Rattle.pc_check.proofs.Agreed.{step_long, among_same, first_touched, later_touched, well_formed_if_any}
use Rattle.pc_check.proofs.Breaking.{self_among, self_agrees, way_more, way_before, starts_settled, noted_more}
use Rattle.pc_check.proofs.Breaking.{noted_settles}
use Rattle.pc_check.proofs.Subsuming.{branch_out, otherwise_settles}
use Rattle.pc_check.proofs.Agreed.{branch_parts, while_parts, first_among, later_among, step_agrees}
use Rattle.pc_check.proofs.Agreed.{narrowed_agrees, branches_agree, if_parts, while_agrees, for_agrees}
use Rattle.pc_check.proofs.Walked.{no_statement_left, no_branch_left, branch_walked, branches_from, otherwise_walked}
use Rattle.pc_check.proofs.Walked.{found_reached, found_stands, same_narrowed, quiet_stands, quiet_reached}
use Rattle.pc_check.proofs.Walked.{narrowed_from}
use Rattle.pc_check.proofs.Walked.{finds_from, in_turn, walks_on}
use denote.Param.Weighed.{at_most}
use Rattle.pc_check.proofs.statements.+statements.Goals as goal

-- ---- suites

pub check_suite-check_next-requires : goal.check_suite-check_next-requires
check_suite-check_next-requires g t c κs within = (
  let least = at_most the_size c.args.body.now c.loop-statement.statement-index c.statement-item.result
      c.loop-statement-test.true in
      omega (arith, c.decreases, ap the_size c.statement-item.is, least),
  (
    within.0,
    (
      within.1,
      (c.loop-statement.invariant.stands, (c.loop-statement.invariant.long, c.loop-statement.invariant.breaks)),
    ),
  ),
)

pub check_suite-loop-statement-init : goal.check_suite-loop-statement-init
check_suite-loop-statement-init g t c = record {
  goes_on = same_walk;
  stands = c.requires.stands;
  long = c.requires.long;
  breaks = c.requires.breaks;
  settled = λ locals base h. h;
  is = refl;
}

pub check_suite-loop-statement-preserved : goal.check_suite-loop-statement-preserved
check_suite-loop-statement-preserved g t c =
    let S = g.S.TypeStore in
    let here = c.loop-statement in
    let new = c.check_next.new.walk in
    let w = c.in_ok-env.ensures.walked in
    let on = c.check_next.ensures.goes_on in
    let v = here.invariant in
    let i = here.statement-index in
    let rest = stmts_of_list (drop (i + 1) c.args.body.now) in
    let s = stmt_of c.statement-item.result in
    let context = body_context_in S here.walk in
    let resolve = context.context.resolve in
    let bases = context.context.bases in
    let all = stmts_of_list c.args.body.now in
    let before = reached S here.walk here.env here.exit.env in
    let behind = reached S new c.in_ok-env.env c.check_next.new.exit.env in
    let first = reached S c.args.walk.now c.args.env c.args.exit.now.env in
    let next = stmts_next c.args.body.now i c.statement-item.result c.loop-statement-test.true c.statement-item.is in
    let held = well_formed_if_any (S.has here.walk.store.now) S.tree
    (class_parents here.walk.context.globals.now) here.env
    v.stands.current in
    let unsettled = c.args.exit.now.unsettled.items in
    let middle = here.exit.unsettled.items in
    let later = c.check_next.new.exit.unsettled.items in
    let one = c.in_ok-env.ensures.breaks in
    record {
      goes_on = goes_further v.goes_on on;
      stands = w.stands;
      long = subst HasAllLocals (sym w.is) (step_long context before.table before.env before.exit_env before.found s v.long);
      breaks = c.in_ok-env.ensures.settled;
      settled = in_body_context S here.walk new (λ (f : RustBodyContext _). (locals : List ℕ) (base : Option Env)
          → BreaksAreSubsumed (class_parents f.globals.now) locals (touched_by (meanings f.names.now) all) unsettled
          first.exit_env base first.env
          → BreaksAreSubsumed (class_parents f.globals.now) locals (touched_by (meanings f.names.now) rest) later
          behind.exit_env base behind.env) on
          (λ locals base h.
          let here_settled = v.settled locals base h in
          let touched = subst (λ ss. AreAmong locals (touched_by resolve ss)) next here_settled.among in
          let now = first_among context locals s rest touched in
          record {
            among = later_among context locals s rest touched;
            agree = subst (λ (x : Reached). WaysAgree locals base x.env) (sym w.is)
                (step_agrees context locals before.table before.env before.exit_env before.found s base held v.long now
                here_settled.agree);
            taken_in = one locals base
                (record { among = now; agree = here_settled.agree; taken_in = here_settled.taken_in });
          });
      is = (λ j. walk_suite (body_context_with S.tree (on.context j)) (w.is j) rest)
          ∙ sym (ap (walk_suite context before) next) ∙ v.is;
    }

pub check_suite-returns-clause-breaks : goal.check_suite-returns-clause-breaks
check_suite-returns-clause-breaks g t c =
    let S = g.S.TypeStore in
    let here = c.loop-statement in
    let v = here.invariant in
    let all = stmts_of_list c.args.body.now in
    let first = reached S c.args.walk.now c.args.env c.args.exit.now.env in
    subst (λ (f : RustBodyContext _). BreaksStaySubsumed (class_parents f.globals.now)
    (touched_by (meanings f.names.now) all) c.args.exit.now.unsettled.items here.exit.unsettled.items first.exit_env
    first.env
    (option_map (env_of S.tree) here.exit.env)) v.goes_on.context (λ locals base h. (v.settled locals base h).taken_in)

pub check_suite-returns-clause-walked : goal.check_suite-returns-clause-walked
check_suite-returns-clause-walked g t c =
    let S = g.S.TypeStore in
    let here = c.loop-statement in
    let v = here.invariant in
    let left = no_statement_left c.args.body.now here.statement-index (omega arith) in
    record {
      is = sym (ap (walk_suite (body_context_in S here.walk) (reached S here.walk here.env here.exit.env)) left)
          ∙ v.is;
      stands = v.stands;
    }

-- ---- statements to which a run may come or not

pub check_next-returns-in_ok-declare_unreached-in-None-clause-walked :
    goal.check_next-returns-in_ok-declare_unreached-in-None-clause-walked
check_next-returns-in_ok-declare_unreached-in-None-clause-walked g t c =
    let S = g.S.TypeStore in
    let old = c.args.walk.now in
    let new = c.declare_unreached.new.walk in
    let d = c.in_ok-declare_unreached-in-None.ensures in
    let declared = d.declared c.args.statement.now.first in
    let way = option_map (env_of S.tree) c.args.exit.now.env in
    rw c.in-None.is (record {
      is = λ i. record { table = declared.is i; env = None; exit_env = way; found = d.found i };
      stands = record {
        context = context_on S old new c.requires.stands.context c.declare_unreached.ensures.goes_on;
        declared = declared.holds;
        current = tt;
        out = way_kept S old new c.args.exit.now.env c.declare_unreached.ensures.goes_on c.requires.stands.out;
      };
    })

pub check_next-returns-in_ok-declare_unreached-in-None-clause-breaks :
    goal.check_next-returns-in_ok-declare_unreached-in-None-clause-breaks
check_next-returns-in_ok-declare_unreached-in-None-clause-breaks g t c = λ locals base h. h.taken_in

pub check_next-returns-in_ok-note_touched-in-Some-clause-breaks :
    goal.check_next-returns-in_ok-note_touched-in-Some-clause-breaks
check_next-returns-in_ok-note_touched-in-Some-clause-breaks g t c = λ locals base h.
    let S = g.S.TypeStore in
    let old = c.args.walk.now in
    let later = c.check_stmt.new.walk in
    let bases = (class_parents old.context.globals.now) in
    let s = stmt_of c.args.statement.now in
    let touched = touched_by_stmt (meanings later.context.names.now) s in
    noted_more bases (env_of S.tree) c.check_stmt.new.exit.env c.check_stmt.new.exit.unsettled.items touched
    c.note_touched.new.unsettled.items locals base
    (c.in_ok-note_touched-in-Some.ensures c.args.statement.now.first)
    (c.in_ok-out-in-Some.ensures.breaks locals base
    (subst (λ (o : _). BreaksAreSubsumed bases locals (touched_by_stmt (meanings old.context.names.now) s)
    c.args.exit.now.unsettled.items (option_map (env_of S.tree) c.args.exit.now.env) base
    (option_map (env_of S.tree) o))
    c.in-Some.is h))

pub check_next-returns-in_ok-note_touched-in-Some-clause-settled :
    goal.check_next-returns-in_ok-note_touched-in-Some-clause-settled
check_next-returns-in_ok-note_touched-in-Some-clause-settled g t c =
    let S = g.S.TypeStore in
    let old = c.args.walk.now in
    let later = c.check_stmt.new.walk in
    let context = body_context_in S old in
    let bases = context.context.bases in
    let s = stmt_of c.args.statement.now in
    let touched = touched_by_stmt context.context.resolve s in
    let env = c.in-Some.env in
    let before = reached S old (Some env) c.args.exit.now.env in
    let behind = reached S later c.in_ok-out-in-Some.out c.check_stmt.new.exit.env in
    let w = c.in_ok-out-in-Some.ensures.walked in
    let on = c.check_stmt.ensures.goes_on in
    let stands = subst (λ (o : _). IsValidWith S old o c.args.exit.now.env) c.in-Some.is c.requires.stands in
    let long = subst (λ (o : _). HasAllLocals (reached S old o c.args.exit.now.env)) c.in-Some.is c.requires.long in
    let breaks = subst (λ (o : _). WayTakesIn bases c.args.exit.now.unsettled.items before.exit_env
    (option_map (env_of S.tree) o)) c.in-Some.is c.requires.breaks in
    let noted = subst (λ (f : RustBodyContext _). AreNoted c.check_stmt.new.exit.env
    c.check_stmt.new.exit.unsettled.items
    (touched_by_stmt (meanings f.names.now) s) c.note_touched.new.unsettled.items) on.context
    (c.in_ok-note_touched-in-Some.ensures c.args.statement.now.first) in
    let one = c.in_ok-out-in-Some.ensures.breaks touched (Some (env_of S.tree env))
    (starts_settled bases touched c.args.exit.now.unsettled.items before.exit_env (Some (env_of S.tree env)) breaks) in
    let agree = subst (λ (x : Reached). WaysAgree touched (Some (env_of S.tree env)) x.env) (sym w.is)
    (step_agrees context touched before.table before.env before.exit_env before.found s (Some (env_of S.tree env))
    stands.current.well_formed long (self_among touched) (self_agrees touched (Some (env_of S.tree env)))) in
    in_body_context S old later (λ (f : RustBodyContext _). WayTakesIn (class_parents f.globals.now)
    c.note_touched.new.unsettled.items behind.exit_env behind.env) on
    (noted_settles bases (env_of S.tree) c.check_stmt.new.exit.env c.check_stmt.new.exit.unsettled.items touched
    c.note_touched.new.unsettled.items (env_of S.tree env) behind.env noted one agree)

-- ---- statements

pub check_stmt-returns-in-Pass-clause-breaks : goal.check_stmt-returns-in-Pass-clause-breaks
check_stmt-returns-in-Pass-clause-breaks g t c = λ locals base h. h.taken_in

pub check_stmt-returns-in_ok-break_out-in-Break-clause-breaks :
    goal.check_stmt-returns-in_ok-break_out-in-Break-clause-breaks
check_stmt-returns-in_ok-break_out-in-Break-clause-breaks g t c = λ locals base h.
    let tree = g.S.TypeStore.tree in
    way_before (class_parents c.args.walk.now.context.globals.now) c.break_out.new.unsettled.items locals
    (option_map (env_of tree) c.break_out.new.exit_env) base (env_of tree c.args.env) h.agree
    c.in_ok-break_out-in-Break.ensures.settled

pub check_stmt-returns-in-Pass-clause-walked : goal.check_stmt-returns-in-Pass-clause-walked
check_stmt-returns-in-Pass-clause-walked g t c =
    rw c.in-Pass.is (record { is = refl; stands = c.requires.stands })

pub check_stmt-returns-in_ok-break_out-in-Break-clause-walked :
    goal.check_stmt-returns-in_ok-break_out-in-Break-clause-walked
check_stmt-returns-in_ok-break_out-in-Break-clause-walked g t c =
    let S = g.S.TypeStore in
    let b = c.in_ok-break_out-in-Break.ensures in
    let old = c.args.walk.now in
    let new = c.break_out.new.walk in
    let stood = quiet_stands S old new c.break_out.ensures.goes_on b.quiet
    (Some c.args.env) c.args.exit.now.env c.requires.stands in
    rw c.in-Break.is (record {
      is = λ i. record {
        table = env_of S.tree (b.quiet.declared i);
        env = None;
        exit_env = b.joined.is i;
        found = b.quiet.found i;
      };
      stands = record { context = stood.context; declared = stood.declared; current = tt; out = b.joined.holds };
    })

pub check_stmt-returns-in-Continue-clause-breaks : goal.check_stmt-returns-in-Continue-clause-breaks
check_stmt-returns-in-Continue-clause-breaks g t c = λ locals base h. h.taken_in

pub check_stmt-returns-in-Continue-clause-walked : goal.check_stmt-returns-in-Continue-clause-walked
check_stmt-returns-in-Continue-clause-walked g t c =
    let h = c.requires.stands in
    rw c.in-Continue.is (record {
      is = refl;
      stands = record { context = h.context; declared = h.declared; current = tt; out = h.out };
    })

pub check_stmt-returns-in_ok-find_return-in-Return-clause-breaks :
    goal.check_stmt-returns-in_ok-find_return-in-Return-clause-breaks
check_stmt-returns-in_ok-find_return-in-Return-clause-breaks g t c = λ locals base h. h.taken_in

pub check_stmt-returns-in_ok-find_return-in-Return-clause-walked :
    goal.check_stmt-returns-in_ok-find_return-in-Return-clause-walked
check_stmt-returns-in_ok-find_return-in-Return-clause-walked g t c =
    let S = g.S.TypeStore in
    let old = c.args.walk.now in
    let new = c.find_return.new.walk in
    let a = c.in_ok-find_return-in-Return.ensures.finds in
    let on = c.find_return.ensures.goes_on in
    let way = c.args.exit.now.env in
    rw c.in-Return.is (record {
      is = found_reached S old new c.args.env _ on a None way;
      stands = found_stands S old new c.args.env _ on a None way tt c.requires.stands.out;
    })

pub check_stmt-returns-in_ok-env-in-Assert-clause-breaks : goal.check_stmt-returns-in_ok-env-in-Assert-clause-breaks
check_stmt-returns-in_ok-env-in-Assert-clause-breaks g t c = λ locals base h. h.taken_in

pub check_stmt-returns-in_ok-env-in-Assert-clause-walked : goal.check_stmt-returns-in_ok-env-in-Assert-clause-walked
check_stmt-returns-in_ok-env-in-Assert-clause-walked g t c =
    let S = g.S.TypeStore in
    let old = c.args.walk.now in
    let new = c.check_assert.new.walk in
    let a = c.in_ok-env-in-Assert.ensures in
    let env = c.in_ok-env-in-Assert.env in
    let way = c.args.exit.now.env in
    let F = body_context_in S old in
    let K = standing_in S old c.args.env in
    let condition = expr_of c.in-Assert.condition.value in
    let message = option_expr_of c.in-Assert.text in
    let behind = rw c.deref.ensures at a.behind.is in
    let pushed = rw c.deref.ensures at a.finds.pushed in
    rw c.in-Assert.is (record {
      is = λ i. record {
        table = env_of S.tree (a.finds.declared i);
        env = Some (behind i);
        exit_env = option_map (env_of S.tree) way;
        found = in_turn (notes_of old.found.now) (finds_in K None condition)
            (option_finds F (narrowed_standing K false condition) None message) (notes_of new.found.now) pushed i;
      };
      stands = found_stands S old new c.args.env _ c.check_assert.ensures.goes_on a.finds
          (Some env) way a.behind.holds c.requires.stands.out;
    })

pub check_stmt-returns-in_ok-env-in-Annotated-clause-breaks :
    goal.check_stmt-returns-in_ok-env-in-Annotated-clause-breaks
check_stmt-returns-in_ok-env-in-Annotated-clause-breaks g t c = λ locals base h. h.taken_in

pub check_stmt-returns-in_ok-env-in-Annotated-clause-walked :
    goal.check_stmt-returns-in_ok-env-in-Annotated-clause-walked
check_stmt-returns-in_ok-env-in-Annotated-clause-walked g t c =
    let S = g.S.TypeStore in
    let old = c.args.walk.now in
    let new = c.bind_annotated.new.walk in
    let b = rw c.deref-in-Annotated.ensures at c.in_ok-env-in-Annotated.ensures.bound in
    let way = c.args.exit.now.env in
    rw c.in-Annotated.is (record {
      is = ap (behind_binding (body_context_in S old) (option_map (env_of S.tree) way)) b.is;
      stands = record {
        context = b.stands.context;
        declared = b.stands.declared;
        current = b.stands.current;
        out = way_kept S old new way c.bind_annotated.ensures.goes_on c.requires.stands.out;
      };
    })

pub check_stmt-returns-in_ok-env-in-Assign-clause-breaks : goal.check_stmt-returns-in_ok-env-in-Assign-clause-breaks
check_stmt-returns-in_ok-env-in-Assign-clause-breaks g t c = λ locals base h. h.taken_in

pub check_stmt-returns-in_ok-env-in-Assign-clause-walked : goal.check_stmt-returns-in_ok-env-in-Assign-clause-walked
check_stmt-returns-in_ok-env-in-Assign-clause-walked g t c =
    let S = g.S.TypeStore in
    let old = c.args.walk.now in
    let new = c.assign_target.new.walk in
    let b = rw c.deref-in-Assign.ensures at c.in_ok-env-in-Assign.ensures.bound in
    let way = c.args.exit.now.env in
    rw c.in-Assign.is (record {
      is = ap (behind_binding (body_context_in S old) (option_map (env_of S.tree) way)) b.is;
      stands = record {
        context = b.stands.context;
        declared = b.stands.declared;
        current = b.stands.current;
        out = way_kept S old new way c.assign_target.ensures.goes_on c.requires.stands.out;
      };
    })

pub check_stmt-returns-in_ok-type_in-in-Expr-clause-breaks : goal.check_stmt-returns-in_ok-type_in-in-Expr-clause-breaks
check_stmt-returns-in_ok-type_in-in-Expr-clause-breaks g t c = λ locals base h. h.taken_in

pub check_stmt-returns-in_ok-type_in-in-Expr-clause-walked : goal.check_stmt-returns-in_ok-type_in-in-Expr-clause-walked
check_stmt-returns-in_ok-type_in-in-Expr-clause-walked g t c =
    let S = g.S.TypeStore in
    let old = c.args.walk.now in
    let new = c.type_in.new.walk in
    let env = c.args.env in
    let way = c.args.exit.now.env in
    let a = c.in_ok-type_in-in-Expr.ensures.finds in
    let on = c.type_in.ensures.goes_on in
    rw c.in-Expr.is (record {
      is = found_reached S old new env _ on a (Some env) way;
      stands = found_stands S old new env _ on a (Some env) way a.stands.current c.requires.stands.out;
    })

pub check_stmt-returns-in-While-clause-breaks : goal.check_stmt-returns-in-While-clause-breaks
check_stmt-returns-in-While-clause-breaks g t c = on_ok c.check_while.result (λ locals base h. h.taken_in)

pub check_stmt-returns-in-While-clause-walked : goal.check_stmt-returns-in-While-clause-walked
check_stmt-returns-in-While-clause-walked g t c =
    let S = g.S.TypeStore in
    let way = c.args.exit.now.env in
    let kind = c.in-While in
    let new = c.check_while.new.walk in
    let is = ap (λ ss. while_loop c.args.first (expr_of c.deref-in-While-2.result.now) (stmts_of_list ss))
    c.deref-in-While.ensures.value
    ∙ ap (λ e. while_loop c.args.first (expr_of e) (stmts_of_list kind.body.items)) c.deref-in-While-2.ensures
    ∙ sym (while_tree c.args.first kind.condition kind.body) ∙ sym (ap (stmt_of_kind c.args.first) kind.is) in
    subst (λ (s : Stmt). IfOk c.check_while.result (λ out. Walked S c.args.walk.now (Some c.args.env) way new out way
    (λ f w. step f w.table w.env w.exit_env w.found s))) is
    (c.check_while.ensures.walked c.args.first way c.requires.stands.out)

pub check_stmt-returns-in-For-clause-breaks : goal.check_stmt-returns-in-For-clause-breaks
check_stmt-returns-in-For-clause-breaks g t c = on_ok c.check_for.result (λ locals base h. h.taken_in)

pub check_stmt-returns-in-For-clause-walked : goal.check_stmt-returns-in-For-clause-walked
check_stmt-returns-in-For-clause-walked g t c =
    let S = g.S.TypeStore in
    let way = c.args.exit.now.env in
    let kind = c.in-For in
    let new = c.check_for.new.walk in
    let name = name_of kind.name in
    let is = ap (λ ss. for_loop c.args.first name (expr_of c.deref-in-For-2.result.now) (stmts_of_list ss))
    c.deref-in-For.ensures.value
    ∙ ap (λ e. for_loop c.args.first name (expr_of e) (stmts_of_list kind.body.items)) c.deref-in-For-2.ensures
    ∙ sym (for_tree c.args.first kind.name kind.iterable kind.body) ∙ sym (ap (stmt_of_kind c.args.first) kind.is) in
    subst (λ (s : Stmt). IfOk c.check_for.result (λ out. Walked S c.args.walk.now (Some c.args.env) way new out way
    (λ f w. step f w.table w.env w.exit_env w.found s))) is
    (c.check_for.ensures.walked c.args.first way c.requires.stands.out)

pub check_stmt-check_branches-requires : goal.check_stmt-check_branches-requires
check_stmt-check_branches-requires g t c κs within = (
  first_of (search (rules, the_lemmas), grind (the_lemmas, arith)),
  (within.0, (within.1, (c.requires.stands, (c.requires.long, c.requires.breaks)))),
)

pub check_stmt-check_otherwise-requires : goal.check_stmt-check_otherwise-requires
check_stmt-check_otherwise-requires g t c κs within =
    let f = c.in_ok-if_state-in-If.ensures in (
      first_of (search (rules, the_lemmas), grind (the_lemmas, arith)),
      (within.0, (within.1, (f.walked.stands, (f.walked.met, (f.settled, f.breaks_subsumed))))),
    )

pub check_stmt-returns-in_ok-out-in-If-clause-breaks : goal.check_stmt-returns-in_ok-out-in-If-clause-breaks
check_stmt-returns-in_ok-out-in-If-clause-breaks g t c = λ locals base h.
    let S = g.S.TypeStore in
    let old = c.args.walk.now in
    let mid = c.check_branches.new.walk in
    let context = body_context_in S old in
    let resolve = context.context.resolve in
    let first = c.args.first in
    let f = c.in_ok-if_state-in-If.ensures in
    let if_state = c.in_ok-if_state-in-If.if_state in
    let later = branches_of_list c.deref-in-If.result.now in
    let suite = stmts_of_list c.deref-in-If-2.result.now in
    let before = branching S old c.args.env None c.args.exit.now.env in
    let behind = branching S mid if_state.last if_state.ways.met c.check_branches.new.exit.env in
    let out = option_map (env_of S.tree) c.check_otherwise.new.exit.env in
    let if_is : stmt_of_kind first c.args.kind.now ≡ conditional first later suite =
    ap (stmt_of_kind first) c.in-If.is ∙ if_tree first c.in-If.branches c.in-If.suite
    ∙ sym (ap (λ ss. conditional first (branches_of_list c.in-If.branches.items) (stmts_of_list ss))
    c.deref-in-If-2.ensures.value)
    ∙ sym (ap (λ bs. conditional first (branches_of_list bs) suite) c.deref-in-If.ensures.value) in
    let parts = if_parts context locals first later suite
    (subst (λ s. AreAmong locals (touched_by_stmt resolve s)) if_is h.among) in
    let one = f.breaks locals base (record { among = parts.0; agree = h.agree; taken_in = h.taken_in }) in
    let agree = subst (λ (r : BranchesResult). WaysAgree locals base (Some r.last)) (sym f.walked.is)
    (branches_agree context locals before.table before.last before.exit_env before.found later base
    c.requires.stands.current.well_formed c.requires.long.env_long parts.0 h.agree) in
    let two = subst (λ (x : RustBodyContext _). BreaksStaySubsumed (class_parents x.globals.now)
    (touched_by (meanings x.names.now) suite) c.check_branches.new.exit.unsettled.items
    c.check_otherwise.new.exit.unsettled.items
    behind.exit_env (Some behind.last) out) c.check_branches.ensures.goes_on.context c.in_ok-out-in-If.ensures.breaks in
    two locals base (record { among = parts.1; agree = agree; taken_in = one })

pub check_stmt-returns-in_ok-out-in-If-clause-walked : goal.check_stmt-returns-in_ok-out-in-If-clause-walked
check_stmt-returns-in_ok-out-in-If-clause-walked g t c =
    let S = g.S.TypeStore in
    let old = c.args.walk.now in
    let mid = c.check_branches.new.walk in
    let context = body_context_in S old in
    let first = c.args.first in
    let f = c.in_ok-if_state-in-If.ensures.walked in
    let if_state = c.in_ok-if_state-in-If.if_state in
    let o = c.in_ok-out-in-If.ensures.walked in
    let suite = stmts_of_list c.deref-in-If-2.result.now in
    let behind = branching S mid if_state.last if_state.ways.met c.check_branches.new.exit.env in
    let before = reached S old (Some c.args.env) c.args.exit.now.env in
    let stepped : Stmt → Reached = step context before.table before.env before.exit_env before.found in
    let is = ap (λ bs. conditional first (branches_of_list bs) suite) c.deref-in-If.ensures.value
    ∙ ap (λ ss. conditional first (branches_of_list c.in-If.branches.items) (stmts_of_list ss))
    c.deref-in-If-2.ensures.value
    ∙ sym (if_tree first c.in-If.branches c.in-If.suite) ∙ sym (ap (stmt_of_kind first) c.in-If.is) in
    record {
      is = walks_on S old mid c.check_otherwise.new.walk (Some if_state.last) c.check_branches.new.exit.env
          c.in_ok-out-in-If.out c.check_otherwise.new.exit.env
          (λ f w. behind_branches f behind.ways (walk_suite f w suite)) c.check_branches.ensures.goes_on o
          ∙ branches_from context behind _ suite f.is ∙ ap stepped is;
      stands = o.stands;
    }

-- ---- loops

pub check_while-type_condition-requires : goal.check_while-type_condition-requires
check_while-type_condition-requires g t c =
    let q = c.in_ok-head.ensures.quiet in
    let stood = stands_on g.S.TypeStore c.args.walk.now c.while_start.new.walk c.args.env.now
    c.requires.stands
    c.while_start.ensures.goes_on q.declared in
    record { context = stood.context; declared = stood.declared; current = c.in_ok-head.ensures.head.holds }

pub check_while-check_suite-requires : goal.check_while-check_suite-requires
check_while-check_suite-requires g t c κs within =
    let S = g.S.TypeStore in
    let old = c.args.walk.now in
    let mid = c.while_start.new.walk in
    let new = c.type_condition.new.walk in
    let q = c.in_ok-head.ensures.quiet in
    let start = c.in_ok-head.ensures.head in
    let a = c.in_ok-where_true.ensures in
    let ways = c.in_ok-where_true.field-0 in
    let context = body_context_in S new in
    let resolve = context.context.resolve in
    let table = env_of S.tree new.declared.now in
    let head = env_of S.tree c.in_ok-head.head in
    let condition = expr_of c.args.condition.now in
    let body = stmts_of_list c.args.body.now in
    let locals = c.in_ok-unsettled.unsettled.items in
    let bases = context.context.bases in
    let where_true : env_of S.tree ways.where_true ≡ narrowed_at context table true condition head =
    a.where_true.is ∙ sym (same_narrowed S mid new c.in_ok-head.head _ c.type_condition.ensures.goes_on a.finds true
    condition) in
    let where_false : env_of S.tree ways.where_false ≡ narrowed_at context table false condition head =
    a.where_false.is ∙ sym (same_narrowed S mid new c.in_ok-head.head _ c.type_condition.ensures.goes_on a.finds
    false condition) in
    let same_table : length table ≡ length (env_of S.tree old.declared.now) =
    ap (λ ds. length (env_of S.tree ds)) (a.finds.declared ∙ q.declared) in
    let head_long : length head ≡ length table = ap (λ (e : Env). length e) start.is
    ∙ head_at_long (body_context_in S old) (env_of S.tree old.declared.now) (bound_by body)
    (env_of S.tree c.args.env.now)
    c.requires.long ∙ sym same_table in
    let touched = among_same locals (touched_by_while resolve condition body) (λ x. c.in_ok-unsettled.ensures x) in
    let agree = while_agrees context locals table head condition body a.finds.stands.current.well_formed head_long
    touched in
    let out = subst (λ (e : Env). AgreeOutside locals e (narrowed_at context table true condition head))
    (sym where_false) agree in
    let breaks = agreed_taken_in bases locals (env_of S.tree ways.where_false) (env_of S.tree ways.where_true)
    a.where_false.holds.well_formed
    (subst (λ (e : Env). AgreeOutside locals (env_of S.tree ways.where_false) e) (sym where_true) out) in (
      first_of (omega (arith, c.decreases), search rules, grind (arith, c.decreases)),
      (
        within.0,
        (
          within.1,
          (
            record {
              context = a.finds.stands.context;
              declared = a.finds.stands.declared;
              current = a.where_true.holds;
              out = a.where_false.holds;
            },
            (
              record {
                env_long = ap (λ (e : Env). length e) where_true ∙ narrowed_long context table true condition head
                    head_long;
                exit_env_long = ap (λ (e : Env). length e) where_false
                    ∙ narrowed_long context table false condition head head_long;
              },
              breaks,
            ),
          ),
        ),
      ),
    )

pub check_while-returns-clause-walked : goal.check_while-returns-clause-walked
check_while-returns-clause-walked g t c = λ p way held.
    let S = g.S.TypeStore in
    let old = c.args.walk.now in
    let mid = c.while_start.new.walk in
    let later = c.type_condition.new.walk in
    let new = c.check_suite.new.walk in
    let q = c.in_ok-head.ensures.quiet in
    let start = c.in_ok-head.ensures.head in
    let a = c.in_ok-where_true.ensures in
    let ways = c.in_ok-where_true.field-0 in
    let s = c.in_ok-check_suite.ensures.walked in
    let on = c.while_start.ensures.goes_on in
    let out = c.check_suite.new.exit.env in
    let head = c.in_ok-head.head in
    let condition = expr_of c.args.condition.now in
    let body = stmts_of_list c.args.body.now in
    let table = env_of S.tree old.declared.now in
    let context = body_context_in S old in
    let first = head_at context table (bound_by body) (env_of S.tree c.args.env.now) in
    let before = goes_further c.while_start.ensures.goes_on c.type_condition.ensures.goes_on in
    let all = goes_further before c.check_suite.ensures.goes_on in
    let from : reached S later (Some ways.where_true) (Some ways.where_false) ≡ record {
      table = table;
      env = Some (narrowed_at context table true condition first);
      exit_env = Some (narrowed_at context table false condition first);
      found = notes_of old.found.now ++ finds_in (standing_here context table first) None condition;
    } = λ i. record {
      table = env_of S.tree ((a.finds.declared ∙ q.declared) i);
      env = Some ((a.where_true.is ∙ narrowed_from S old mid on q head first start.is true condition) i);
      exit_env = Some ((a.where_false.is ∙ narrowed_from S old mid on q head first start.is false condition) i);
      found = (a.finds.pushed ∙ finds_from S old mid on q head first start.is condition) i;
    } in
    let walked = walks_on S old later new (Some ways.where_true) (Some ways.where_false) c.in_ok-check_suite.field-0
    out
    (λ f w. walk_suite f w body) before s in
    record {
      is = ap (behind_loop context (option_map (env_of S.tree) way))
          (walked ∙ ap (λ (w : Reached). walk_suite context w body) from);
      stands = record {
        context = s.stands.context;
        declared = s.stands.declared;
        current = s.stands.out;
        out = way_kept S old new way all held;
      };
    }

pub check_for-bind_item-requires-clause-stands : goal.check_for-bind_item-requires-clause-stands
check_for-bind_item-requires-clause-stands g t c =
    let q = c.in_ok-head.ensures.quiet in
    let stood = stands_on g.S.TypeStore c.item_type.new.walk c.for_start.new.walk c.args.env.now
    c.in_ok-item.ensures.finds.stands c.for_start.ensures.goes_on q.declared in
    record { context = stood.context; declared = stood.declared; current = c.in_ok-head.ensures.head.holds }

pub check_for-bind_item-requires-clause-item : goal.check_for-bind_item-requires-clause-item
check_for-bind_item-requires-clause-item g t c =
    one_kept g.S.TypeStore c.item_type.new.walk c.for_start.new.walk c.in_ok-item.item
    c.for_start.ensures.goes_on c.in_ok-item.ensures.typed.0

pub check_for-check_suite-requires : goal.check_for-check_suite-requires
check_for-check_suite-requires g t c κs within =
    let S = g.S.TypeStore in
    let old = c.args.walk.now in
    let first = c.item_type.new.walk in
    let mid = c.for_start.new.walk in
    let new = c.bind_item.new.walk in
    let a = c.in_ok-item.ensures in
    let start = c.in_ok-head.ensures.head in
    let q = c.in_ok-head.ensures.quiet in
    let b = c.in_ok-inside.ensures.bound in
    let on = c.bind_item.ensures.goes_on in
    let copied = c.in_ok-copy_env in
    let context = body_context_in S mid in
    let resolve = context.context.resolve in
    let table = env_of S.tree mid.declared.now in
    let head = env_of S.tree c.in_ok-head.head in
    let name = name_of c.args.name.now in
    let body = stmts_of_list c.args.body.now in
    let place = c.place.result in
    let item = S.tree c.in_ok-item.item in
    let found = notes_of mid.found.now in
    let inside = Some (env_of S.tree c.in_ok-inside.inside) in
    let locals = c.in_ok-unsettled.unsettled.items in
    let env_long : length (env_of S.tree c.args.env.now) ≡ length (env_of S.tree first.declared.now) =
    c.requires.long ∙ sym (ap (λ ds. length (env_of S.tree ds)) a.finds.declared) in
    let head_long : length head ≡ length table = ap (λ (e : Env). length e) start.is
    ∙ head_at_long (body_context_in S first) (env_of S.tree first.declared.now) (name ∷ bound_by body)
    (env_of S.tree c.args.env.now) env_long
    ∙ sym (ap (λ ds. length (env_of S.tree ds)) q.declared) in
    let sizes = item_long context table head (resolve name.text) name.place place item found head_long in
    let table_long = ap (λ (r : BindingResult). length r.table) b.is ∙ sizes.0 in
    let touched = in_body_context S old mid (λ (f : RustBodyContext _). AreAmong locals
    (touched_by_for (meanings f.names.now) name body))
    (goes_further c.item_type.ensures.goes_on c.for_start.ensures.goes_on)
    (among_same locals (touched_by_for (meanings old.context.names.now) name body)
    (λ x. c.in_ok-unsettled.ensures x)) in
    let agree = for_agrees context locals table head name body place item found start.holds.well_formed head_long
    touched in
    let copy = env_of S.tree copied.field-0 in
    let here = subst (λ (r : BindingResult). AgreeOutside locals head r.env) (sym b.is) agree in
    let held = gives_types S.has S.tree (class_parents mid.context.globals.now) mid.store.now copied.field-0
    head copied.ensures
    start.holds.well_formed in (
      first_of (omega (arith, c.decreases), search rules, grind (arith, c.decreases)),
      (
        within.0,
        (
          within.1,
          (
            record {
              context = b.stands.context;
              declared = b.stands.declared;
              current = b.stands.current;
              out = env_kept S mid new copied.field-0 on held.holds;
            },
            (
              record {
                env_long = ap (λ (r : BindingResult). length r.env) b.is ∙ sizes.1 ∙ sym table_long;
                exit_env_long = ap (λ (e : Env). length e) copied.ensures.is ∙ head_long ∙ sym table_long;
              },
              in_body_context S mid new (λ (f : RustBodyContext _). WayTakesIn (class_parents f.globals.now)
                  locals (Some copy) (Some (env_of S.tree c.in_ok-inside.inside))) on
                  (agreed_taken_in context.context.bases locals copy (env_of S.tree c.in_ok-inside.inside)
                  held.holds.well_formed
                  (subst (λ (e : Env). AgreeOutside locals e (env_of S.tree c.in_ok-inside.inside))
                  (sym copied.ensures.is) here)),
            ),
          ),
        ),
      ),
    )

pub check_for-returns-clause-walked : goal.check_for-returns-clause-walked
check_for-returns-clause-walked g t c = λ p way held.
    let S = g.S.TypeStore in
    let old = c.args.walk.now in
    let later = c.bind_item.new.walk in
    let new = c.check_suite.new.walk in
    let a = c.in_ok-item.ensures in
    let start = c.in_ok-head.ensures.head in
    let q = c.in_ok-head.ensures.quiet in
    let b = c.in_ok-inside.ensures.bound in
    let s = c.in_ok-check_suite.ensures.walked in
    let on = c.item_type.ensures.goes_on in
    let copied = c.in_ok-copy_env in
    let name = name_of c.args.name.now in
    let body = stmts_of_list c.args.body.now in
    let names = name ∷ bound_by body in
    let env = env_of S.tree c.args.env.now in
    let before = goes_further on c.for_start.ensures.goes_on in
    let entry = goes_further before c.bind_item.ensures.goes_on in
    let all = goes_further entry c.check_suite.ensures.goes_on in
    let context = body_context_in S old in
    let table = env_of S.tree old.declared.now in
    let standing = standing_in S old c.args.env.now in
    let resolve = context.context.resolve in
    let e = expr_of c.args.iterable.now in
    let label = item_label_of context standing e in
    let told = notes_of old.found.now in
    let asked = iterable_finds context standing e in
    let codes = codes_at (place_of e) label.codes in
    let first = head_at context table names env in
    let mid = c.for_start.new.walk in
    let here = env_of S.tree c.in_ok-head.head in
    let head : here ≡ first = start.is
    ∙ (λ i. head_at (body_context_with S.tree (on.context i)) (env_of S.tree (a.finds.declared i)) names env) in
    let tables : mid.declared.now ≡ old.declared.now = q.declared ∙ a.finds.declared in
    let notes : notes_of mid.found.now ≡ (told ++ asked) ++ codes =
    in_turn told asked codes (notes_of mid.found.now) (q.found ∙ a.finds.pushed) in
    let item = S.tree c.in_ok-item.item in
    let there = body_context_in S mid in
    let binding : with_note there true (there.context.resolve name.text) name.place
    (bind_item there (env_of S.tree mid.declared.now) here (there.context.resolve name.text) c.place.result item
    (notes_of mid.found.now)) ≡ with_note context true (resolve name.text) name.place
    (bind_item context table first (resolve name.text) (place_of e) label.type ((told ++ asked) ++ codes)) =
    λ i. with_note (body_context_with S.tree (before.context i)) true (meanings (before.context i).names.now name.text)
    name.place (bind_item (body_context_with S.tree (before.context i)) (env_of S.tree (tables i)) (head i)
    (meanings (before.context i).names.now name.text) (c.place.ensures i) (a.typed.1 i) (notes i)) in
    let bound = b.is ∙ binding in
    let copy = copied.ensures.is ∙ head in
    let from : reached S later (Some c.in_ok-inside.inside) (Some copied.field-0) ≡ inside_for context first
    (with_note context true (resolve name.text) name.place
    (bind_item context table first (resolve name.text) (place_of e) label.type ((told ++ asked) ++ codes))) =
    λ i. inside_for context (copy i) (bound i) in
    let walked = walks_on S old later new (Some c.in_ok-inside.inside) (Some copied.field-0)
    c.in_ok-check_suite.field-0 c.check_suite.new.exit.env (λ f w. walk_suite f w body) entry s in
    record {
      is = ap (behind_loop context (option_map (env_of S.tree) way))
          (walked ∙ ap (λ (w : Reached). walk_suite context w body) from);
      stands = record {
        context = s.stands.context;
        declared = s.stands.declared;
        current = s.stands.out;
        out = way_kept S old new way all held;
      };
    }

-- ---- the suite of `else`

pub check_otherwise-check_suite-requires : goal.check_otherwise-check_suite-requires
check_otherwise-check_suite-requires g t c κs within = (
  first_of (omega (arith, c.decreases), search rules, grind (arith, c.decreases)),
  (
    within.0,
    (
      within.1,
      (
        c.requires.stands,
        (
          record { env_long = c.requires.settled.last_long; exit_env_long = c.requires.settled.exit_env_long },
          c.requires.breaks,
        ),
      ),
    ),
  ),
)

pub check_otherwise-join_exit-requires-clause-ways : goal.check_otherwise-join_exit-requires-clause-ways
check_otherwise-join_exit-requires-clause-ways g t c =
    way_kept g.S.TypeStore c.args.walk.now c.check_suite.new.walk c.args.if_state.ways.met
    c.check_suite.ensures.goes_on c.requires.ways

pub check_otherwise-join_exit-requires-clause-taken_in : goal.check_otherwise-join_exit-requires-clause-taken_in
check_otherwise-join_exit-requires-clause-taken_in g t c =
    let S = g.S.TypeStore in
    let old = c.args.walk.now in
    let new = c.check_suite.new.walk in
    let on = c.check_suite.ensures.goes_on in
    let context = body_context_in S old in
    let ways = c.args.if_state.ways in
    let touched = c.in_ok-touched.touched.items in
    let out = option_map (env_of S.tree) c.in_ok-out.out in
    let if_state = branching S old c.args.if_state.last ways.met c.args.exit.now.env in
    let o = stmts_of_list c.args.otherwise.now in
    let later = among_same touched (touched_by (meanings new.context.names.now) o) (λ x. c.in_ok-touched.ensures x) in
    let among = subst (λ (f : RustBodyContext _). AreAmong touched (touched_by (meanings f.names.now) o)) on.context
    later in
    let agrees = subst (λ (x : Reached). AgreesIfAny touched if_state.last x.env) (sym c.in_ok-out.ensures.walked.is)
    (otherwise_settles context touched if_state.table if_state.last if_state.exit_env if_state.found o
    c.requires.stands.current.well_formed c.requires.settled.last_long among) in
    in_body_context S old new (λ (f : RustBodyContext _). WayTakesIn (class_parents f.globals.now)
    (ways.unsettled.items ++ touched) if_state.ways out) on
    (suite_taken_in context.context.bases ways.unsettled.items touched if_state.ways out if_state.last
    c.requires.settled.taken_in agrees)

pub check_otherwise-returns-clause-breaks : goal.check_otherwise-returns-clause-breaks
check_otherwise-returns-clause-breaks g t c = c.in_ok-out.ensures.breaks

pub check_otherwise-returns-clause-walked : goal.check_otherwise-returns-clause-walked
check_otherwise-returns-clause-walked g t c =
    let S = g.S.TypeStore in
    let mid = c.check_suite.new.walk in
    let new = c.join_exit.new.walk in
    let context = body_context_in S c.args.walk.now in
    let s = c.in_ok-out.ensures.walked in
    let j = c.in_ok-joined.ensures in
    let joined = c.in_ok-joined.joined.met in
    let exit_env = c.check_suite.new.exit.env in
    let ways = option_map (env_of S.tree) c.args.if_state.ways.met in
    let out = reached S mid c.in_ok-out.out exit_env in
    let met : option_map (env_of S.tree) joined ≡ with_way context.context.bases out.table ways out.env =
    j.joined.is ∙ (λ i. with_way (c.check_suite.ensures.goes_on.context i).globals.now.outline.now.parents.now out.table
    ways out.env) in
    let stood = quiet_stands S mid new c.join_exit.ensures.goes_on j.quiet None exit_env
    (record { context = s.stands.context; declared = s.stands.declared; current = tt; out = s.stands.out }) in
    record {
      is = quiet_reached S mid new c.join_exit.ensures.goes_on j.quiet joined exit_env
          ∙ otherwise_walked context ways out _ (option_map (env_of S.tree) joined) s.is met;
      stands = record { context = stood.context; declared = stood.declared; current = j.joined.holds; out = stood.out };
    }

-- ---- branches

pub check_branches-check_branch-requires : goal.check_branches-check_branch-requires
check_branches-check_branch-requires g t c κs within =
    let here = c.loop-branch in
    let v = here.invariant in (
      let least = at_most branch_size c.args.branches.now here.branch-index c.branch-item.result
          c.loop-branch-test.true in
          omega (arith, c.decreases, ap branch_size c.branch-item.is, least),
      (within.0, (within.1, (v.stands, (v.ways, (v.settled, v.breaks))))),
    )

pub check_branches-loop-branch-init : goal.check_branches-loop-branch-init
check_branches-loop-branch-init g t c =
    let long = c.requires.long in
    record {
      goes_on = same_walk;
      stands = c.requires.stands;
      ways = tt;
      settled = record { last_long = long.env_long; exit_env_long = long.exit_env_long; taken_in = tt };
      breaks = c.requires.breaks;
      kept = λ locals base h. h;
      is = refl;
    }

pub check_branches-loop-branch-preserved : goal.check_branches-loop-branch-preserved
check_branches-loop-branch-preserved g t c =
    let S = g.S.TypeStore in
    let here = c.loop-branch in
    let new = c.check_branch.new.walk in
    let w = c.in_ok-if_state.ensures.walked in
    let on = c.check_branch.ensures.goes_on in
    let v = here.invariant in
    let context = body_context_in S here.walk in
    let resolve = context.context.resolve in
    let item = out-Branch c.branch-item.result in
    let rest = branches_of_list (drop (here.branch-index + 1) c.args.branches.now) in
    let all = branches_of_list c.args.branches.now in
    let condition = expr_of item.condition in
    let body = stmts_of_list item.body.items in
    let first = branching S c.args.walk.now c.args.env None c.args.exit.now.env in
    let before = branching S here.walk here.if_state.last here.if_state.ways.met here.exit.env in
    let behind = branching S new c.in_ok-if_state.if_state.last c.in_ok-if_state.if_state.ways.met c.check_branch.new.exit.env in
    let next = branches_next c.args.branches.now here.branch-index c.branch-item.result c.loop-branch-test.true
    c.branch-item.is in
    let one = branch_tree c.branch-item.result no_branches in
    let held = v.stands.current.well_formed in
    let is = w.is ∙ ap (walk_branches context before) one in
    let unsettled = c.args.exit.now.unsettled.items in
    let later = c.check_branch.new.exit.unsettled.items in
    record {
      goes_on = goes_further v.goes_on on;
      stands = w.stands;
      ways = w.met;
      settled = c.in_ok-if_state.ensures.settled;
      breaks = c.in_ok-if_state.ensures.breaks_subsumed;
      kept = in_body_context S here.walk new (λ (f : RustBodyContext _). (locals : List ℕ) (base : Option Env)
          → BreaksAreSubsumed (class_parents f.globals.now) locals (touched_by_branches (meanings f.names.now) all)
          unsettled first.exit_env base (Some first.last)
          → BreaksAreSubsumed (class_parents f.globals.now) locals (touched_by_branches (meanings f.names.now) rest)
          later behind.exit_env base (Some behind.last)) on
          (λ locals base h.
          let kept = v.kept locals base h in
          let touched = subst (λ bs. AreAmong locals (touched_by_branches resolve bs)) next kept.among in
          let now = first_touched resolve locals condition body rest touched in
          record {
            among = later_touched resolve locals condition body rest touched;
            agree = subst (λ (r : BranchesResult). WaysAgree locals base (Some r.last)) (sym is)
                (narrowed_agrees context locals before.table before.last false condition base held v.settled.last_long
                (branch_parts context locals condition body now).0 kept.agree);
            taken_in = c.in_ok-if_state.ensures.breaks locals base (record {
              among = subst (λ bs. AreAmong locals (touched_by_branches resolve bs)) (sym one) now;
              agree = kept.agree;
              taken_in = kept.taken_in;
            });
          });
      is = (λ j. walk_branches (body_context_with S.tree (on.context j)) (is j) rest)
          ∙ sym (ap (walk_branches context before) next) ∙ v.is;
    }

pub check_branches-returns-clause-breaks : goal.check_branches-returns-clause-breaks
check_branches-returns-clause-breaks g t c =
    let S = g.S.TypeStore in
    let here = c.loop-branch in
    let v = here.invariant in
    let all = branches_of_list c.args.branches.now in
    let first = branching S c.args.walk.now c.args.env None c.args.exit.now.env in
    subst (λ (f : RustBodyContext _). BreaksStaySubsumed (class_parents f.globals.now)
    (touched_by_branches (meanings f.names.now) all) c.args.exit.now.unsettled.items here.exit.unsettled.items
    first.exit_env
    (Some first.last) (option_map (env_of S.tree) here.exit.env)) v.goes_on.context
    (λ locals base h. (v.kept locals base h).taken_in)

pub check_branches-returns-clause-walked : goal.check_branches-returns-clause-walked
check_branches-returns-clause-walked g t c =
    let S = g.S.TypeStore in
    let here = c.loop-branch in
    let v = here.invariant in
    let left = no_branch_left c.args.branches.now here.branch-index (omega arith) in
    record {
      is = sym (ap (walk_branches (body_context_in S here.walk)
          (branching S here.walk here.if_state.last here.if_state.ways.met here.exit.env)) left) ∙ v.is;
      stands = v.stands;
      met = v.ways;
    }

-- ---- one branch

pub check_branch-check_suite-requires : goal.check_branch-check_suite-requires
check_branch-check_suite-requires g t c κs within =
    let S = g.S.TypeStore in
    let old = c.args.walk.now in
    let new = c.type_condition.new.walk in
    let a = c.in_ok-where_true.ensures in
    let ways = c.in_ok-where_true.field-0 in
    let last = c.args.if_state.last in
    let context = body_context_in S old in
    let resolve = context.context.resolve in
    let bases = context.context.bases in
    let table = env_of S.tree old.declared.now in
    let exit_env = option_map (env_of S.tree) c.args.exit.now.env in
    let condition = expr_of (out-Branch c.args.branch.now).condition in
    let body = stmts_of_list (out-Branch c.args.branch.now).body.items in
    let touched = c.in_ok-touched.touched.items in
    let noted_now = c.note_locals.new.unsettled.items in
    let same_table : length (env_of S.tree new.declared.now) ≡ length table =
    ap (λ ds. length (env_of S.tree ds)) a.finds.declared in
    let agree = c.requires.settled in
    let here = among_same touched (touched_by_while (meanings new.context.names.now) condition body)
    (λ x. c.in_ok-touched.ensures x ∙ ap (λ ss. is_among (touched_by_while (meanings new.context.names.now) condition
    (stmts_of_list ss)) x) c.deref.ensures.value) in
    let among = subst (λ (f : RustBodyContext _). AreAmong touched (touched_by_while (meanings f.names.now) condition
    body)) c.type_condition.ensures.goes_on.context here in
    let noted : AreNoted c.args.exit.now.env c.args.exit.now.unsettled.items touched noted_now =
    subst (λ (ts : List ℕ). AreNoted c.args.exit.now.env c.args.exit.now.unsettled.items ts noted_now)
    c.deref-2.ensures.value
    c.in_ok-note_locals.ensures in
    let start = narrowed_agrees context touched table (env_of S.tree last) true condition (Some (env_of S.tree last))
    c.requires.stands.current.well_formed agree.last_long (while_parts context touched condition body among).0
    (self_agrees touched (Some (env_of S.tree last))) in
    let breaks = noted_settles bases (env_of S.tree) c.args.exit.now.env c.args.exit.now.unsettled.items touched
    noted_now
    (env_of S.tree last) (Some (narrowed_at context table true condition (env_of S.tree last))) noted
    (way_more bases c.args.exit.now.unsettled.items touched exit_env (Some (env_of S.tree last)) c.requires.breaks)
    start in (
      first_of (search (rules, the_lemmas), grind (the_lemmas, arith)),
      (
        within.0,
        (
          within.1,
          (
            found_stands S old new last _ c.type_condition.ensures.goes_on a.finds
                (Some ways.where_true) c.args.exit.now.env a.where_true.holds
                c.requires.stands.out,
            (
              subst (λ (t : _). HasAllLocals (record {
                table = t;
                env = Some (env_of S.tree ways.where_true);
                exit_env = exit_env;
                found = notes_of new.found.now;
              })) (sym (ap (env_of S.tree) a.finds.declared)) (record {
                env_long = ap (λ (e : Env). length e) a.where_true.is
                    ∙ narrowed_long context table true condition (env_of S.tree last) agree.last_long;
                exit_env_long = agree.exit_env_long;
              }),
              in_body_context S old new (λ (f : RustBodyContext _). WayTakesIn (class_parents f.globals.now)
                  noted_now exit_env (Some (env_of S.tree ways.where_true))) c.type_condition.ensures.goes_on
                  (subst (λ (e : Env). WayTakesIn bases noted_now exit_env (Some e)) (sym a.where_true.is) breaks),
            ),
          ),
        ),
      ),
    )

pub check_branch-join_exit-requires-clause-ways : goal.check_branch-join_exit-requires-clause-ways
check_branch-join_exit-requires-clause-ways g t c =
    way_kept g.S.TypeStore c.args.walk.now c.check_suite.new.walk c.args.if_state.ways.met
    (goes_further c.type_condition.ensures.goes_on c.check_suite.ensures.goes_on) c.requires.ways

pub check_branch-join_exit-requires-clause-taken_in : goal.check_branch-join_exit-requires-clause-taken_in
check_branch-join_exit-requires-clause-taken_in g t c =
    let S = g.S.TypeStore in
    let old = c.args.walk.now in
    let mid = c.type_condition.new.walk in
    let later = c.check_suite.new.walk in
    let a = c.in_ok-where_true.ensures in
    let where_true = c.in_ok-where_true.field-0.where_true in
    let s = c.in_ok-out.ensures.walked in
    let context = body_context_in S old in
    let g1 = c.type_condition.ensures.goes_on in
    let g2 = goes_further g1 c.check_suite.ensures.goes_on in
    let ways = c.args.if_state.ways in
    let touched = c.in_ok-touched.touched.items in
    let condition = expr_of (out-Branch c.args.branch.now).condition in
    let body = stmts_of_list (out-Branch c.args.branch.now).body.items in
    let if_state = branching S old c.args.if_state.last ways.met c.args.exit.now.env in
    let out = reached S later c.in_ok-out.out c.check_suite.new.exit.env in
    let found = notes_of mid.found.now in
    let start : reached S mid (Some where_true) c.args.exit.now.env ≡ record {
      table = if_state.table;
      env = Some (narrowed_at context if_state.table true condition if_state.last);
      exit_env = if_state.exit_env;
      found = found;
    } = λ i. record {
      table = env_of S.tree (a.finds.declared i);
      env = Some (a.where_true.is i);
      exit_env = if_state.exit_env;
      found = found;
    } in
    let walked = walks_on S old mid later (Some where_true) c.args.exit.now.env c.in_ok-out.out
    c.check_suite.new.exit.env
    (λ f w. walk_suite f w (stmts_of_list c.deref-3.result.now)) g1 s
    ∙ ap (λ ss. walk_suite context (reached S mid (Some where_true) c.args.exit.now.env) (stmts_of_list ss))
    c.deref-3.ensures.value in
    let last = among_same touched (touched_by_while (meanings mid.context.names.now) condition body)
    (λ x. c.in_ok-touched.ensures x ∙ ap (λ ss. is_among (touched_by_while (meanings mid.context.names.now) condition
    (stmts_of_list ss)) x) c.deref.ensures.value) in
    let among = subst (λ (f : RustBodyContext _). AreAmong touched (touched_by_while (meanings f.names.now) condition
    body)) g1.context last in
    let branched = branch_out context touched if_state.table if_state.last if_state.exit_env found condition body
    (reached S mid (Some where_true) c.args.exit.now.env) out c.requires.stands.current.well_formed
    c.requires.settled.last_long c.requires.settled.exit_env_long among start walked in
    in_body_context S old later (λ (f : RustBodyContext _). WayTakesIn (class_parents f.globals.now)
    (ways.unsettled.items ++ touched) if_state.ways out.env) g2
    (suite_taken_in context.context.bases ways.unsettled.items touched if_state.ways out.env if_state.last
    c.requires.settled.taken_in branched.agrees)

pub check_branch-returns-clause-breaks : goal.check_branch-returns-clause-breaks
check_branch-returns-clause-breaks g t c = λ locals base h.
    let S = g.S.TypeStore in
    let old = c.args.walk.now in
    let a = c.in_ok-where_true.ensures in
    let where_true = c.in_ok-where_true.field-0.where_true in
    let context = body_context_in S old in
    let resolve = context.context.resolve in
    let bases = context.context.bases in
    let g1 = c.type_condition.ensures.goes_on in
    let condition = expr_of (out-Branch c.args.branch.now).condition in
    let body = stmts_of_list (out-Branch c.args.branch.now).body.items in
    let touched = c.in_ok-touched.touched.items in
    let unsettled = c.args.exit.now.unsettled.items in
    let noted_now = c.note_locals.new.unsettled.items in
    let left = c.check_suite.new.exit.unsettled.items in
    let later = c.note_locals-2.new.unsettled.items in
    let if_state = branching S old c.args.if_state.last c.args.if_state.ways.met c.args.exit.now.env in
    let exit_env = option_map (env_of S.tree) c.check_suite.new.exit.env in
    let parts = branch_parts context locals condition body
    (subst (λ bs. AreAmong locals (touched_by_branches resolve bs)) (branch_tree c.args.branch.now no_branches) h.among)
    in
    let agree = subst (λ (e : Env). WaysAgree locals base (Some e)) (sym a.where_true.is)
    (narrowed_agrees context locals if_state.table if_state.last true condition base c.requires.stands.current.well_formed
    c.requires.settled.last_long parts.0 h.agree) in
    let suite = subst (λ (x : RustBodyContext _). BreaksStaySubsumed (class_parents x.globals.now)
    (touched_by (meanings x.names.now) body) noted_now left if_state.exit_env (Some (env_of S.tree where_true)) exit_env)
    g1.context (subst (λ ss. BreaksStaySubsumed (class_parents c.type_condition.new.walk.context.globals.now)
    (touched_by (meanings c.type_condition.new.walk.context.names.now) (stmts_of_list ss)) noted_now left if_state.exit_env
    (Some (env_of S.tree where_true)) exit_env) c.deref-3.ensures.value c.in_ok-out.ensures.breaks) in
    let noted : AreNoted c.args.exit.now.env unsettled touched noted_now =
    subst (λ (ts : List ℕ). AreNoted c.args.exit.now.env unsettled ts noted_now) c.deref-2.ensures.value
    c.in_ok-note_locals.ensures in
    let again : AreNoted c.check_suite.new.exit.env left touched later =
    subst (λ (ts : List ℕ). AreNoted c.check_suite.new.exit.env left ts later) c.deref-4.ensures.value
    c.in_ok-note_locals-2.ensures in
    noted_more bases (env_of S.tree) c.check_suite.new.exit.env left touched later locals base again
    (suite locals base (record {
      among = parts.1;
      agree = agree;
      taken_in = noted_more bases (env_of S.tree) c.args.exit.now.env unsettled touched noted_now locals base noted
          h.taken_in;
    }))

pub check_branch-returns-clause-breaks_subsumed : goal.check_branch-returns-clause-breaks_subsumed
check_branch-returns-clause-breaks_subsumed g t c =
    let S = g.S.TypeStore in
    let old = c.args.walk.now in
    let mid = c.type_condition.new.walk in
    let new = c.join_exit.new.walk in
    let a = c.in_ok-where_true.ensures in
    let ways = c.in_ok-where_true.field-0 in
    let context = body_context_in S old in
    let bases = context.context.bases in
    let g1 = c.type_condition.ensures.goes_on in
    let g3 = goes_further (goes_further g1 c.check_suite.ensures.goes_on) c.join_exit.ensures.goes_on in
    let condition = expr_of (out-Branch c.args.branch.now).condition in
    let body = stmts_of_list (out-Branch c.args.branch.now).body.items in
    let touched = c.in_ok-touched.touched.items in
    let unsettled = c.args.exit.now.unsettled.items in
    let noted_now = c.note_locals.new.unsettled.items in
    let left = c.check_suite.new.exit.unsettled.items in
    let later = c.note_locals-2.new.unsettled.items in
    let if_state = branching S old c.args.if_state.last c.args.if_state.ways.met c.args.exit.now.env in
    let exit_env = option_map (env_of S.tree) c.check_suite.new.exit.env in
    let here = among_same touched (touched_by_while (meanings mid.context.names.now) condition body)
    (λ x. c.in_ok-touched.ensures x ∙ ap (λ ss. is_among (touched_by_while (meanings mid.context.names.now) condition
    (stmts_of_list ss)) x) c.deref.ensures.value) in
    let parts = while_parts context touched condition body
    (subst (λ (f : RustBodyContext _). AreAmong touched (touched_by_while (meanings f.names.now) condition body))
    g1.context here) in
    let narrowed = λ (holds : Test). narrowed_agrees context touched if_state.table if_state.last holds condition
    (Some if_state.last) c.requires.stands.current.well_formed c.requires.settled.last_long parts.0
    (self_agrees touched (Some if_state.last)) in
    let where_true = subst (λ (e : Env). WaysAgree touched (Some if_state.last) (Some e)) (sym a.where_true.is)
    (narrowed true) in
    let where_false = subst (λ (e : Env). WaysAgree touched (Some if_state.last) (Some e)) (sym a.where_false.is)
    (narrowed false) in
    let suite = subst (λ (x : RustBodyContext _). BreaksStaySubsumed (class_parents x.globals.now)
    (touched_by (meanings x.names.now) body) noted_now left if_state.exit_env (Some (env_of S.tree ways.where_true)) exit_env)
    g1.context (subst (λ ss. BreaksStaySubsumed (class_parents mid.context.globals.now)
    (touched_by (meanings mid.context.names.now) (stmts_of_list ss)) noted_now left if_state.exit_env
    (Some (env_of S.tree ways.where_true)) exit_env) c.deref-3.ensures.value c.in_ok-out.ensures.breaks) in
    let noted : AreNoted c.args.exit.now.env unsettled touched noted_now =
    subst (λ (ts : List ℕ). AreNoted c.args.exit.now.env unsettled ts noted_now) c.deref-2.ensures.value
    c.in_ok-note_locals.ensures in
    let again : AreNoted c.check_suite.new.exit.env left touched later =
    subst (λ (ts : List ℕ). AreNoted c.check_suite.new.exit.env left ts later) c.deref-4.ensures.value
    c.in_ok-note_locals-2.ensures in
    let before = noted_more bases (env_of S.tree) c.args.exit.now.env unsettled touched noted_now touched
    (Some if_state.last) noted (way_more bases unsettled touched if_state.exit_env (Some if_state.last) c.requires.breaks) in
    let behind = suite touched (Some if_state.last) (record { among = parts.1; agree = where_true; taken_in = before }) in
    in_body_context S old new (λ (f : RustBodyContext _). WayTakesIn (class_parents f.globals.now) later exit_env
    (Some (env_of S.tree ways.where_false))) g3
    (noted_settles bases (env_of S.tree) c.check_suite.new.exit.env left touched later if_state.last
    (Some (env_of S.tree ways.where_false)) again behind where_false)

pub check_branch-returns-clause-walked : goal.check_branch-returns-clause-walked
check_branch-returns-clause-walked g t c =
    let S = g.S.TypeStore in
    let old = c.args.walk.now in
    let mid = c.type_condition.new.walk in
    let later = c.check_suite.new.walk in
    let new = c.join_exit.new.walk in
    let a = c.in_ok-where_true.ensures in
    let ways = c.in_ok-where_true.field-0 in
    let s = c.in_ok-out.ensures.walked in
    let j = c.in_ok-ways.ensures in
    let joined = c.in_ok-ways.ways.met in
    let exit_env = c.check_suite.new.exit.env in
    let context = body_context_in S old in
    let condition = expr_of (out-Branch c.args.branch.now).condition in
    let body = stmts_of_list (out-Branch c.args.branch.now).body.items in
    let if_state = branching S old c.args.if_state.last c.args.if_state.ways.met c.args.exit.now.env in
    let out = reached S later c.in_ok-out.out exit_env in
    let last = env_of S.tree ways.where_false in
    let met = option_map (env_of S.tree) joined in
    let g1 = c.type_condition.ensures.goes_on in
    let g2 = goes_further g1 c.check_suite.ensures.goes_on in
    let walked = walks_on S old mid later (Some ways.where_true) c.args.exit.now.env c.in_ok-out.out exit_env
    (λ f w. walk_suite f w (stmts_of_list c.deref-3.result.now)) g1 s
    ∙ ap (λ ss. walk_suite context (reached S mid (Some ways.where_true) c.args.exit.now.env) (stmts_of_list ss))
    c.deref-3.ensures.value in
    let ways_met : met ≡ with_way context.context.bases out.table if_state.ways out.env =
    j.joined.is ∙ (λ i. with_way (g2.context i).globals.now.outline.now.parents.now out.table if_state.ways out.env) in
    let start : reached S mid (Some ways.where_true) c.args.exit.now.env ≡ record {
      table = if_state.table;
      env = Some (narrowed_at context if_state.table true condition if_state.last);
      exit_env = if_state.exit_env;
      found = if_state.found ++ finds_in (standing_here context if_state.table if_state.last) None condition;
    } = λ i. record {
      table = env_of S.tree (a.finds.declared i);
      env = Some (a.where_true.is i);
      exit_env = if_state.exit_env;
      found = a.finds.pushed i;
    } in
    let quiet : branching S new ways.where_false joined exit_env ≡ record {
      table = out.table;
      last = last;
      ways = met;
      exit_env = out.exit_env;
      found = out.found;
    } = λ i. record {
      table = env_of S.tree (j.quiet.declared i);
      last = last;
      ways = met;
      exit_env = out.exit_env;
      found = j.quiet.found i;
    } in
    let stood = quiet_stands S later new c.join_exit.ensures.goes_on j.quiet None exit_env
    (record { context = s.stands.context; declared = s.stands.declared; current = tt; out = s.stands.out }) in
    record {
      is = quiet
          ∙ branch_walked context if_state.table if_state.last if_state.ways if_state.exit_env if_state.found condition body
          (reached S mid (Some ways.where_true) c.args.exit.now.env) out last met start walked a.where_false.is ways_met
          ∙ sym (ap (walk_branches context if_state) (branch_tree c.args.branch.now no_branches));
      stands = record {
        context = stood.context;
        declared = stood.declared;
        current = env_kept S mid new ways.where_false
            (goes_further c.check_suite.ensures.goes_on c.join_exit.ensures.goes_on) a.where_false.holds;
        out = stood.out;
      };
      met = j.joined.holds;
    }

pub check_branch-returns-clause-settled : goal.check_branch-returns-clause-settled
check_branch-returns-clause-settled g t c =
    let S = g.S.TypeStore in
    let old = c.args.walk.now in
    let mid = c.type_condition.new.walk in
    let later = c.check_suite.new.walk in
    let a = c.in_ok-where_true.ensures in
    let where_true = c.in_ok-where_true.field-0.where_true in
    let s = c.in_ok-out.ensures.walked in
    let context = body_context_in S old in
    let g1 = c.type_condition.ensures.goes_on in
    let g2 = goes_further g1 c.check_suite.ensures.goes_on in
    let ways = c.args.if_state.ways in
    let touched = c.in_ok-touched.touched.items in
    let condition = expr_of (out-Branch c.args.branch.now).condition in
    let body = stmts_of_list (out-Branch c.args.branch.now).body.items in
    let if_state = branching S old c.args.if_state.last ways.met c.args.exit.now.env in
    let out = reached S later c.in_ok-out.out c.check_suite.new.exit.env in
    let found = notes_of mid.found.now in
    let start : reached S mid (Some where_true) c.args.exit.now.env ≡ record {
      table = if_state.table;
      env = Some (narrowed_at context if_state.table true condition if_state.last);
      exit_env = if_state.exit_env;
      found = found;
    } = λ i. record {
      table = env_of S.tree (a.finds.declared i);
      env = Some (a.where_true.is i);
      exit_env = if_state.exit_env;
      found = found;
    } in
    let walked = walks_on S old mid later (Some where_true) c.args.exit.now.env c.in_ok-out.out
    c.check_suite.new.exit.env
    (λ f w. walk_suite f w (stmts_of_list c.deref-3.result.now)) g1 s
    ∙ ap (λ ss. walk_suite context (reached S mid (Some where_true) c.args.exit.now.env) (stmts_of_list ss))
    c.deref-3.ensures.value in
    let last = among_same touched (touched_by_while (meanings mid.context.names.now) condition body)
    (λ x. c.in_ok-touched.ensures x ∙ ap (λ ss. is_among (touched_by_while (meanings mid.context.names.now) condition
    (stmts_of_list ss)) x) c.deref.ensures.value) in
    let among = subst (λ (f : RustBodyContext _). AreAmong touched (touched_by_while (meanings f.names.now) condition
    body)) g1.context last in
    let branched = branch_out context touched if_state.table if_state.last if_state.exit_env found condition body
    (reached S mid (Some where_true) c.args.exit.now.env) out c.requires.stands.current.well_formed
    c.requires.settled.last_long c.requires.settled.exit_env_long among start walked in
    let new = c.join_exit.new.walk in
    let next = env_of S.tree c.in_ok-where_true.field-0.where_false in
    let left = c.in_ok-ways.ways.unsettled.items in
    let met = option_map (env_of S.tree) c.in_ok-ways.ways.met in
    let q = c.in_ok-ways.ensures.quiet in
    let next_is : next ≡ narrowed_at context if_state.table false condition if_state.last = a.where_false.is in
    let table_is : env_of S.tree new.declared.now ≡ out.table = ap (env_of S.tree) q.declared in
    let before = in_body_context S old later (λ (f : RustBodyContext _).
    TakesInIfAny (class_parents f.globals.now) ways.unsettled.items if_state.ways if_state.last) g2
    c.requires.settled.taken_in in
    let settled = c.in_ok-ways.ensures.settled if_state.last branched.agrees before in
    let onwards = in_body_context S later new (λ (f : RustBodyContext _).
    TakesInIfAny (class_parents f.globals.now) left met if_state.last) c.join_exit.ensures.goes_on settled in
    let agree = subst (λ (e : Env). AgreeOutside touched e if_state.last) (sym next_is) branched.next_agrees in
    record {
      last_long = ap length next_is ∙ branched.last_long ∙ ap length (sym table_is);
      exit_env_long = subst (λ (table : _). IsAsLongIfAny table out.exit_env) (sym table_is) branched.exit_env_long;
      taken_in = next_taken_in (class_parents new.context.globals.now) left touched met if_state.last next
          (λ x h. c.in_ok-ways.ensures.touched x h) agree onwards;
    }
