use Rattle.std.proofs.Common.{◌≡◌, ◌<◌, ◌≤◌, ◌+◌, ◌*◌, ℕ, drop, ◌++◌, map}
use Rattle.pc_tree.specs.Tree.{expr_of, stmts_of_list}
use Rattle.pc_value.specs.Meaning.{value_of, entry_of}
use Rattle.pc_value.specs.Doing.{iteration_of}
use Rattle.pc_value.specs.declared.action.Action.TheVariants as rust_action
use Rattle.pc_machine.specs.Plain.{Came, and_then}
use Rattle.pc_machine.specs.Runs.{plain_parts}
use Rattle.pc_machine.specs.Machine.{progress_of, named_of}
use Rattle.pc_tree.specs.Lists.{branches_of_list, exprs_of_list, entries_of_list, keywords_of_list}
use Rattle.pc_run.specs.Internal.Nodes.{all_of, entries_in, keywords_in, branches_in}
use Rattle.pc_run.proofs.Bounds.{Above, Turns, turn_index}
use Rattle.pc_run.proofs.+evaluate.Given as goal

abbrev pub decreases-evaluate::eval : goal.decreases-evaluate::eval
decreases-evaluate::eval l = 16 * l.machine.now.fuel + 0

abbrev pub decreases-evaluate::eval_node : goal.decreases-evaluate::eval_node
decreases-evaluate::eval_node l = 16 * l.machine.now.fuel + 12

abbrev pub decreases-evaluate::eval_negative : goal.decreases-evaluate::eval_negative
decreases-evaluate::eval_negative l = 16 * l.machine.now.fuel + 1

abbrev pub decreases-evaluate::eval_not : goal.decreases-evaluate::eval_not
decreases-evaluate::eval_not l = 16 * l.machine.now.fuel + 1

abbrev pub decreases-evaluate::eval_attribute : goal.decreases-evaluate::eval_attribute
decreases-evaluate::eval_attribute l = 16 * l.machine.now.fuel + 1

abbrev pub decreases-evaluate::eval_tuple : goal.decreases-evaluate::eval_tuple
decreases-evaluate::eval_tuple l = 16 * l.machine.now.fuel + 2

abbrev pub decreases-evaluate::eval_list : goal.decreases-evaluate::eval_list
decreases-evaluate::eval_list l = 16 * l.machine.now.fuel + 2

abbrev pub decreases-evaluate::eval_dict : goal.decreases-evaluate::eval_dict
decreases-evaluate::eval_dict l = 16 * l.machine.now.fuel + 2

abbrev pub decreases-evaluate::eval_binary : goal.decreases-evaluate::eval_binary
decreases-evaluate::eval_binary l = 16 * l.machine.now.fuel + 1

abbrev pub decreases-evaluate::eval_compare : goal.decreases-evaluate::eval_compare
decreases-evaluate::eval_compare l = 16 * l.machine.now.fuel + 1

abbrev pub decreases-evaluate::eval_none_test : goal.decreases-evaluate::eval_none_test
decreases-evaluate::eval_none_test l = 16 * l.machine.now.fuel + 1

abbrev pub decreases-evaluate::eval_and : goal.decreases-evaluate::eval_and
decreases-evaluate::eval_and l = 16 * l.machine.now.fuel + 1

abbrev pub decreases-evaluate::eval_or : goal.decreases-evaluate::eval_or
decreases-evaluate::eval_or l = 16 * l.machine.now.fuel + 1

abbrev pub decreases-evaluate::eval_index : goal.decreases-evaluate::eval_index
decreases-evaluate::eval_index l = 16 * l.machine.now.fuel + 1

abbrev pub decreases-evaluate::eval_all : goal.decreases-evaluate::eval_all
decreases-evaluate::eval_all l = 16 * l.machine.now.fuel + 1

abbrev pub decreases-evaluate::eval_entries : goal.decreases-evaluate::eval_entries
decreases-evaluate::eval_entries l = 16 * l.machine.now.fuel + 1

abbrev pub decreases-evaluate::eval_keywords : goal.decreases-evaluate::eval_keywords
decreases-evaluate::eval_keywords l = 16 * l.machine.now.fuel + 1

abbrev pub decreases-calls::eval_callee : goal.decreases-calls::eval_callee
decreases-calls::eval_callee l = 16 * l.machine.now.fuel + 1

abbrev pub decreases-calls::eval_instance_test : goal.decreases-calls::eval_instance_test
decreases-calls::eval_instance_test l = 16 * l.machine.now.fuel + 10

abbrev pub decreases-calls::eval_call : goal.decreases-calls::eval_call
decreases-calls::eval_call l = 16 * l.machine.now.fuel + 11

abbrev pub decreases-calls::call : goal.decreases-calls::call
decreases-calls::call l = 16 * l.machine.now.fuel + 2

abbrev pub decreases-calls::enter : goal.decreases-calls::enter
decreases-calls::enter l = 16 * l.machine.now.fuel + 1

abbrev pub decreases-statements::exec : goal.decreases-statements::exec
decreases-statements::exec l = 16 * l.machine.now.fuel + 0

abbrev pub decreases-statements::exec_node : goal.decreases-statements::exec_node
decreases-statements::exec_node l = 16 * l.machine.now.fuel + 10

abbrev pub decreases-statements::exec_assignment : goal.decreases-statements::exec_assignment
decreases-statements::exec_assignment l = 16 * l.machine.now.fuel + 2

abbrev pub decreases-statements::exec_expression : goal.decreases-statements::exec_expression
decreases-statements::exec_expression l = 16 * l.machine.now.fuel + 2

abbrev pub decreases-statements::exec_assert : goal.decreases-statements::exec_assert
decreases-statements::exec_assert l = 16 * l.machine.now.fuel + 1

abbrev pub decreases-statements::assign : goal.decreases-statements::assign
decreases-statements::assign l = 16 * l.machine.now.fuel + 1

abbrev pub decreases-statements::exec_branches : goal.decreases-statements::exec_branches
decreases-statements::exec_branches l = 16 * l.machine.now.fuel + 1

abbrev pub decreases-loops::run_while : goal.decreases-loops::run_while
decreases-loops::run_while l = 16 * l.machine.now.fuel + 1

abbrev pub decreases-loops::eval_iterable : goal.decreases-loops::eval_iterable
decreases-loops::eval_iterable l = 16 * l.machine.now.fuel + 2

abbrev pub decreases-loops::run_for : goal.decreases-loops::run_for
decreases-loops::run_for l = 16 * l.machine.now.fuel + 1

abbrev pub invariant-evaluate::eval_all-loop-item : goal.invariant-evaluate::eval_all-loop-item
invariant-evaluate::eval_all-loop-item l = record {
  fuel : l.machine.fuel ≤ l.fn.machine.fuel;
  run : (n : ℕ) → l.fn.machine.fuel < n → all_of n (exprs_of_list l.items) (progress_of l.fn.machine)
      ≡ and_then (all_of n (exprs_of_list (drop l.item-index l.items)) (progress_of l.machine))
      (λ vs. Came (map value_of l.values.items ++ vs));
}

abbrev pub invariant-evaluate::eval_entries-loop-item : goal.invariant-evaluate::eval_entries-loop-item
invariant-evaluate::eval_entries-loop-item l = record {
  fuel : l.machine.fuel ≤ l.fn.machine.fuel;
  run : (n : ℕ) → l.fn.machine.fuel < n → entries_in n (entries_of_list l.items) (progress_of l.fn.machine)
      ≡ and_then (entries_in n (entries_of_list (drop l.item-index l.items)) (progress_of l.machine))
      (λ es. Came (map entry_of l.entries.items ++ es));
}

abbrev pub invariant-evaluate::eval_keywords-loop-argument : goal.invariant-evaluate::eval_keywords-loop-argument
invariant-evaluate::eval_keywords-loop-argument l = record {
  fuel : l.machine.fuel ≤ l.fn.machine.fuel;
  run : (n : ℕ) → l.fn.machine.fuel < n → keywords_in n (keywords_of_list l.by_name) (progress_of l.fn.machine)
      ≡ and_then (keywords_in n (keywords_of_list (drop l.argument-index l.by_name)) (progress_of l.machine))
      (λ vs. Came (map named_of l.named.items ++ vs));
}

abbrev pub invariant-statements::exec-loop-statement : goal.invariant-statements::exec-loop-statement
invariant-statements::exec-loop-statement l = record {
  fuel : l.machine.fuel + l.statement-index ≤ l.fn.machine.fuel;
  run : (n : ℕ) → l.fn.machine.fuel < n → (plain_parts n).exec (stmts_of_list l.body) (progress_of l.fn.machine)
      ≡ (plain_parts n).exec (stmts_of_list (drop l.statement-index l.body)) (progress_of l.machine);
}

abbrev pub invariant-statements::exec_branches-loop-branch : goal.invariant-statements::exec_branches-loop-branch
invariant-statements::exec_branches-loop-branch l = record {
  fuel : l.machine.fuel ≤ l.fn.machine.fuel;
  run : (n : ℕ) → l.fn.machine.fuel < n → branches_in n (branches_of_list l.branches) (stmts_of_list l.otherwise)
      (progress_of l.fn.machine) ≡ branches_in n (branches_of_list (drop l.branch-index l.branches))
      (stmts_of_list l.otherwise) (progress_of l.machine);
}

abbrev pub invariant-loops::run_while-loop-v : goal.invariant-loops::run_while-loop-v
invariant-loops::run_while-loop-v l = record {
  fuel : l.machine.fuel ≤ l.fn.machine.fuel;
  run : (n : ℕ) → l.fn.machine.fuel < n → Above l.machine.fuel (expr_of l.condition) (stmts_of_list l.body)
      (progress_of l.machine) ((plain_parts n).again (expr_of l.condition) (stmts_of_list l.body)
      (progress_of l.fn.machine));
}

abbrev pub decreases-loops::run_while-loop-v : goal.decreases-loops::run_while-loop-v
decreases-loops::run_while-loop-v l = l.machine.fuel

abbrev pub invariant-loops::run_for-loop-turn : goal.invariant-loops::run_for-loop-turn
invariant-loops::run_for-loop-turn l = record {
  fuel : l.machine.fuel + turn_index l.turn ≤ l.fn.machine.fuel;
  turn : l.turn ≡ rust_action.Turn l.fn.over (turn_index l.turn);
  run : (n : ℕ) → l.fn.machine.fuel < n → Turns l.machine.fuel (iteration_of l.fn.over) (turn_index l.turn) l.name
      (stmts_of_list l.body) (progress_of l.machine) ((plain_parts n).turns (iteration_of l.fn.over) 0 l.name
      (stmts_of_list l.body) (progress_of l.fn.machine));
}

abbrev pub decreases-loops::run_for-loop-turn : goal.decreases-loops::run_for-loop-turn
decreases-loops::run_for-loop-turn l = l.machine.fuel
