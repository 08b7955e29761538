use Rattle.std.proofs.Common.{sym, subst}
use Rattle.std.specs.Prelude.{IfOk}
use Rattle.pc_tree.specs.Tree.{Expr}
use Rattle.pc_tree.proofs.Trees.{call_tree}
use Rattle.pc_flow.specs.Naming.{meanings}
use Rattle.pc_flow.specs.Narrowing.{narrow}
use Rattle.pc_flow.specs.Stored.{env_of, declared_of}
use Rattle.pc_flow.specs.Ways.{GivesBoth}
use Rattle.pc_flow.proofs.narrowing.narrow_simple.Goals as goal

pub returns-in-Call-clause-value : goal.returns-in-Call-clause-value
returns-in-Call-clause-value g c =
    let has = g.S.TypeStore.has in
    let tree = g.S.TypeStore.tree in
    let d = c.args.declarations.now in
    let ds = declared_of tree d.declared.now in
    rw c.in-Call.is (subst (λ (x : Expr). IfOk c.narrow_instance.result
    (λ n. GivesBoth has tree c.narrow_instance.new.store n (λ holds. narrow d.parents.now ds (meanings d.names.now)
    holds x (env_of tree c.args.env))))
    (sym (call_tree c.in-Call.place c.in-Call.callee c.in-Call.arguments c.in-Call.by_name))
    (rw (
      c.is_instance_test-is_test.ensures,
      c.deref-in-Call.ensures,
      c.deref-in-Call-2.ensures.value,
      c.deref-in-Call-3.ensures.value,
      c.deref-in-Call-4.ensures.value,
    ) at (c.narrow_instance.ensures.value ds)))
