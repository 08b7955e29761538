use Rattle.std.proofs.Common.{sym, subst}
use Rattle.std.specs.Prelude.{IfOk}
use Rattle.pc_tree.specs.Tree.{Expr}
use Rattle.pc_tree.proofs.Trees.{call_tree}
use Rattle.pc_scope.specs.Resolution.{resolve}
use Rattle.pc_detail_rules.specs.Calls.{builtin_detail}
use Rattle.pc_detail_facts.specs.Held.{ShowsDetail, known_held, module_held}
use Rattle.pc_type_details.proofs.calls.builtin_detail.Goals as goal

pub returns : goal.returns
returns c =
    let m = module_held c.args.facts.now in
    rw c.in-Call.is (subst (λ (x : Expr). IfOk c.builtin_of.result (ShowsDetail c.args.facts.now
    (builtin_detail m (known_held c.args.facts.now) (resolve m c.args.owned.owner) x)))
    (sym (call_tree c.in-Call.place c.in-Call.callee c.in-Call.arguments c.in-Call.keywords))
    (rw (c.deref.ensures, c.deref-2.ensures.value) at c.builtin_of.ensures))
