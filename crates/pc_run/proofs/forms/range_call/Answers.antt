use Rattle.std.proofs.Common.{◌≡◌}
use Rattle.pc_tree.specs.Tree.{name_of, expr_of}
use Rattle.pc_machine.specs.Evaluation.{iterable_form, range_call}
use Rattle.pc_tree.specs.Lists.{exprs_of_list, keywords_of_list}
use Rattle.pc_run.proofs.CallForms.{range_here}
use Rattle.pc_run.proofs.forms.range_call.Goals as goal

pub returns-then-eq : goal.returns-then-eq
returns-then-eq c =
    let h : iterable_form (expr_of c.args.e.now) ≡ range_call c.in-Call.place (name_of c.in-Name.name)
    (exprs_of_list c.in-Call.arguments.items) (keywords_of_list c.in-Call.by_name.items) =
    rw c.in-Call.is (range_here c.in-Call.place c.in-Call.callee c.in-Call.arguments c.in-Call.by_name
    c.in-Name.name (cc) (cc)) in
    cc
