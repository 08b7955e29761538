use Rattle.std.proofs.Common.{arith, sym, ◌∙◌}
use Rattle.pc_tree.specs.Lists.{keywords_of_list}
use Rattle.pc_scope.proofs.TwoArguments.{other_count, with_two}
use Rattle.pc_scope.proofs.instance_test.are_two.Goals as goal

pub returns-then-arguments-ne2 : goal.returns-then-arguments-ne2
returns-then-arguments-ne2 c = sym (other_count c.args.arguments.now (keywords_of_list c.args.by_name.now)
    (omega arith))

pub returns : goal.returns
returns c = c.is_empty.ensures ∙ with_two c.args.arguments.now c.args.by_name.now (omega arith)
