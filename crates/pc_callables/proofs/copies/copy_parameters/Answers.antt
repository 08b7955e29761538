use Rattle.std.proofs.Common.{ap}
use Rattle.pc_tree.proofs.Stops.{cons_at}
use Rattle.pc_class.specs.Tables.{HasParameter, parameter_with, parameters_with}
use Rattle.pc_callables.proofs.HeldSignatures.{held_push}
use Rattle.pc_callables.proofs.SignatureWalks.{stepped, pushed_one}
use Rattle.pc_callables.proofs.copies.copy_parameters.Goals as goal

pub loop-parameter-preserved : goal.loop-parameter-preserved
loop-parameter-preserved g c =
    let tree = g.S.TypeStore.tree in
    let ps = c.args.parameters.now in
    let i = c.loop-parameter.parameter-index in
    let x = c.parameter-item.result in
    let v = c.loop-parameter.invariant in
    let one = c.in_ok-copy_parameter.ensures in
    let old = c.loop-parameter.all.items in
    let new = c.push.new.self.items in
    record {
      given = held_push (HasParameter (g.S.TypeStore.has c.args.store.now)) old new _ v.given one.given
          c.in_ok-push.ensures.items;
      are = stepped (parameters_with tree old) (parameters_with tree new) _ _ _ _ v.are
          (ap (parameters_with tree) (cons_at ps i x c.loop-parameter-test.true c.parameter-item.is))
          (pushed_one (parameter_with tree) old new _ (parameter_with tree x) c.in_ok-push.ensures.items one.is);
    }
