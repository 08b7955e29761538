use Rattle.std.proofs.Common.{sym}
use Rattle.pc_types.specs.Computed.{static_test}
use Rattle.pc_flow.proofs.Given.{keeps_both, all_kept}
use Rattle.pc_operations.proofs.Displayed.{all_later, not_all}
use Rattle.pc_operations.proofs.display.are_static.Goals as goal

pub returns-then-not-is_static-clause-value : goal.returns-then-not-is_static-clause-value
returns-then-not-is_static-clause-value g c =
    not_all g.S.TypeStore.tree (λ t. static_test c.args.parents.now t (g.S.TypeStore.tree c.args.into.now))
    c.args.types.now c.loop-ty.ty-index c.ty-item.result c.loop-ty-test.true c.ty-item.is
    (sym c.if-not-is_static.ensures.test) c.loop-ty.invariant.so_far

pub loop-ty-preserved : goal.loop-ty-preserved
loop-ty-preserved g c =
    let v = c.loop-ty.invariant in
    let k = c.is_static.ensures.kept in
    record {
      kept = keeps_both g.S.TypeStore.has _ _ _ v.kept k;
      types = all_kept g.S.TypeStore.has _ _ k c.args.types.now v.types;
      into = k c.args.into.now v.into;
      so_far = all_later g.S.TypeStore.tree (λ t. static_test c.args.parents.now t (g.S.TypeStore.tree c.args.into.now))
          c.args.types.now c.loop-ty.ty-index c.ty-item.result c.loop-ty-test.true c.ty-item.is
          (sym c.if-not-is_static.ensures.test) v.so_far;
    }
