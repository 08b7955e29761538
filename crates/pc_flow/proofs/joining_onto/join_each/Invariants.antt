use Rattle.std.proofs.Common.{take}
use Rattle.pc_types.specs.Store.{KeepsTypes}
use Rattle.pc_flow.specs.Agreement.{is_among}
use Rattle.pc_flow.specs.Stored.{env_of, declared_of, GivesEnv}
use Rattle.pc_flow.proofs.Meeting.{join_where}
use Rattle.pc_flow.proofs.Settled.{HoldsOf, IsSettled}
use Rattle.pc_flow.proofs.joining_onto.join_each.Given as goal

abbrev pub invariant-loop-local : goal.invariant-loop-local
invariant-loop-local g l =
    let has = g.S.TypeStore.has in
    let tree = g.S.TypeStore.tree in
    let bases = l.declarations.parents.now in
    let ds = l.declarations.declared.now in
    let a = l.paths.first.now in
    let b = l.paths.second.now in
    record {
      kept : KeepsTypes has l.fn.store l.store;
      value : GivesEnv has tree l.store l.env (join_where bases (is_among (take l.local-index l.locals))
          (declared_of tree ds) (env_of tree a) (env_of tree b));
      settled : HoldsOf (IsSettled tree bases ds a b) l.locals l.unsettled.items (take l.local-index l.locals);
    }
