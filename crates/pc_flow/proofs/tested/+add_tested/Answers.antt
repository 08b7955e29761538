use Rattle.pc_flow.specs.Naming.{meanings}
use Rattle.std.proofs.Common.{◌≡◌, ◌++◌, sym, subst}
use Rattle.std.specs.Prelude.{OnOk}
use Rattle.pc_tree.specs.Tree.{Expr}
use Rattle.pc_tree.proofs.Trees.{call_tree}
use Rattle.pc_flow.specs.Narrowing.{tested_locals}
use Rattle.pc_flow.proofs.tested.+add_tested.Goals as goal

pub returns-in-Call : goal.returns-in-Call
returns-in-Call t c =
    rw c.in-Call.is (subst (λ (x : Expr). OnOk c.add_tested_by_call.result
    (c.add_tested_by_call.new.tested.items ≡ c.args.tested.now.items ++ tested_locals (meanings c.args.names.now)
    x)) (sym (call_tree c.in-Call.place c.in-Call.callee c.in-Call.arguments c.in-Call.by_name))
    (rw (c.deref-in-Call.ensures, c.deref-in-Call-2.ensures.value, c.deref-in-Call-3.ensures.value) at
    c.add_tested_by_call.ensures))
