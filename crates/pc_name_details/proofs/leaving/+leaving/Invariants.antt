use Rattle.std.proofs.Common.{None, drop}
use Rattle.std.specs.Option.{option_map}
use Rattle.pc_tree.specs.Lists.{branches_of_list}
use Rattle.pc_tree.specs.Tree.{stmts_of_list}
use Rattle.pc_name_details.specs.declared.offers.Offers.{Offers}
use Rattle.pc_name_details.specs.Naming.{branches_rule, suite_rule}
use Rattle.pc_detail_facts.specs.Held.{stmt_lent}
use Rattle.pc_name_details.specs.Offered.{AddsDetails}
use Rattle.pc_name_details.proofs.leaving.+leaving.Given as goal

abbrev pub invariant-add_suite-loop-statement : goal.invariant-add_suite-loop-statement
invariant-add_suite-loop-statement l = (last : Offers)
    → AddsDetails l.facts (suite_rule (option_map stmt_lent l.before) (stmts_of_list (drop l.statement-index l.suite))) l.offers last
    → AddsDetails l.facts (suite_rule None (stmts_of_list l.suite)) l.fn.offers last

abbrev pub invariant-add_branches-loop-branch : goal.invariant-add_branches-loop-branch
invariant-add_branches-loop-branch l = (last : Offers)
    → AddsDetails l.facts (branches_rule (branches_of_list (drop l.branch-index l.branches))) l.offers last
    → AddsDetails l.facts (branches_rule (branches_of_list l.branches)) l.fn.offers last
