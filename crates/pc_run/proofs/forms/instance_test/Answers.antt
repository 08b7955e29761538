use Rattle.std.proofs.Common.{arith, sym, rules}
use Rattle.pc_tree.specs.Tree.{name_of}
use Rattle.pc_tree.specs.Lists.{keywords_of_list}
use Rattle.pc_run.proofs.CallForms.{other_count, named_too}
use Rattle.pc_run.proofs.forms.instance_test.Goals as goal

pub returns-then-arguments-ne2 : goal.returns-then-arguments-ne2
returns-then-arguments-ne2 c = rw c.in-Name.is
    (sym (other_count (name_of c.in-Name.name) c.args.arguments.now (keywords_of_list c.args.by_name.now)
    (omega arith)))

pub returns-then-not-is_empty : goal.returns-then-not-is_empty
returns-then-not-is_empty c = rw c.in-Name.is
    (sym (named_too (name_of c.in-Name.name) c.args.arguments.now c.args.by_name.now (search rules)))
