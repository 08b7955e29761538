use Rattle.std.proofs.Common.{◌≡◌, map, drop, ◌++◌}
use Rattle.pc_tree.specs.Tree.{stmts_of_list}
use Rattle.pc_machine.specs.Names.{unbound, names_bound, names_bound_in}
use Rattle.pc_machine.specs.Machine.{local_of as local_seen}
use Rattle.pc_tree.specs.Lists.{branches_of_list}
use Rattle.pc_machine.proofs.names.+names.Given as goal

abbrev pub invariant-add_names-loop-statement : goal.invariant-add_names-loop-statement
invariant-add_names-loop-statement l = map local_seen l.frame.items ++ map unbound
    (names_bound (stmts_of_list (drop l.statement-index l.body))) ≡ map local_seen l.fn.frame.items ++ map unbound
    (names_bound (stmts_of_list l.body))

abbrev pub invariant-add_names_in-loop-branch : goal.invariant-add_names_in-loop-branch
invariant-add_names_in-loop-branch l = map local_seen l.frame.items ++ map unbound
    (names_bound_in (branches_of_list (drop l.branch-index l.branches))) ≡ map local_seen l.fn.frame.items
    ++ map unbound (names_bound_in (branches_of_list l.branches))
