use Rattle.std.proofs.Common.{◌≡◌, ℕ, List, Option, drop}
use Rattle.std.specs.Prelude.{Some, None}
use Rattle.pc_tree.specs.Tree.{stmts_of_list}
use Rattle.pc_tree.specs.Lists.{branches_of_list}
use Rattle.pc_flow.specs.Environment.{Env}
use Rattle.pc_flow.specs.Naming.{meanings}
use Rattle.pc_rules.specs.Computed.ModuleParents.{class_parents}
use Rattle.pc_module_rules.specs.Computed.Statements.{walk_suite, walk_branches}
use Rattle.pc_walk.specs.Touched.{touched_by, touched_by_branches}
use Rattle.pc_walk.specs.Walks.{WalkKept, HoldsWay, body_context_in}
use Rattle.pc_check.specs.Internal.StatementWalk.{HasAllLocals, HoldsIfState, BreaksAreSubsumed}
use Rattle.pc_check.specs.Internal.Walked.{IsValidWith, ExitSubsumes, reached, branching}
use Rattle.pc_check.proofs.statements.+statements.Given as goal

abbrev pub invariant-check_suite-loop-statement : goal.invariant-check_suite-loop-statement
invariant-check_suite-loop-statement g l =
    let S = g.S.TypeStore in
    let rest = stmts_of_list (drop l.statement-index l.body) in
    let before = reached S l.fn.walk l.fn.env l.fn.exit.env in
    let here = reached S l.walk l.env l.exit.env in
    let bases = (class_parents l.walk.context.globals.now) in
    let resolve = meanings l.walk.context.names.now in
    record {
      goes_on : WalkKept S l.fn.walk l.walk;
      stands : IsValidWith S l.walk l.env l.exit.env;
      long : HasAllLocals (reached S l.walk l.env l.exit.env);
      breaks : ExitSubsumes S l.walk l.exit.unsettled.items l.env l.exit.env;
      settled : (locals : List ℕ) (base : Option Env)
          → BreaksAreSubsumed bases locals (touched_by resolve (stmts_of_list l.body)) l.fn.exit.unsettled.items
          before.exit_env base
          before.env
          → BreaksAreSubsumed bases locals (touched_by resolve rest) l.exit.unsettled.items here.exit_env base here.env;
      is : walk_suite (body_context_in S l.walk) (reached S l.walk l.env l.exit.env) rest
          ≡ walk_suite (body_context_in S l.fn.walk) before (stmts_of_list l.body);
    }

abbrev pub invariant-check_branches-loop-branch : goal.invariant-check_branches-loop-branch
invariant-check_branches-loop-branch g l =
    let S = g.S.TypeStore in
    let rest = branches_of_list (drop l.branch-index l.branches) in
    let here = branching S l.walk l.if_state.last l.if_state.ways.met l.exit.env in
    let before = branching S l.fn.walk l.fn.env None l.fn.exit.env in
    let bases = (class_parents l.walk.context.globals.now) in
    let resolve = meanings l.walk.context.names.now in
    record {
      goes_on : WalkKept S l.fn.walk l.walk;
      stands : IsValidWith S l.walk (Some l.if_state.last) l.exit.env;
      ways : HoldsWay S l.walk l.if_state.ways.met;
      settled : HoldsIfState (class_parents l.walk.context.globals.now) l.if_state.ways.unsettled.items here;
      breaks : ExitSubsumes S l.walk l.exit.unsettled.items (Some l.if_state.last) l.exit.env;
      kept : (locals : List ℕ) (base : Option Env)
          → BreaksAreSubsumed bases locals (touched_by_branches resolve (branches_of_list l.branches))
          l.fn.exit.unsettled.items
          before.exit_env base (Some before.last)
          → BreaksAreSubsumed bases locals (touched_by_branches resolve rest) l.exit.unsettled.items here.exit_env base
          (Some here.last);
      is : walk_branches (body_context_in S l.walk) here rest
          ≡ walk_branches (body_context_in S l.fn.walk) before (branches_of_list l.branches);
    }
