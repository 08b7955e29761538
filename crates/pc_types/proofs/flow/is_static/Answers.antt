use Rattle.std.proofs.Common.{◌↔◌, IsTrue}
use Rattle.pc_types.specs.Below.{Static}
use Rattle.pc_types.specs.Boxed.{tree_of}
use Rattle.pc_types.proofs.Deciding.{static_is_flow}
use Rattle.pc_types.proofs.DecidedSubtyping.{static_decided}
use Rattle.pc_types.proofs.Truth.{through_is, same_test}
use Rattle.pc_types.proofs.flow.is_static.Goals as goal

pub returns-clause-value : goal.returns-clause-value
returns-clause-value c = through_is c.flows.ensures (static_is_flow c.args.parents.now _ _ c.requires.left
    c.requires.right)

pub returns-clause-test : goal.returns-clause-test
returns-clause-test c =
    let v : IsTrue c.flows.result ↔ Static c.args.parents.now (tree_of c.args.s.now) (tree_of c.args.t.now) =
    through_is c.flows.ensures (static_is_flow c.args.parents.now _ _ c.requires.left c.requires.right) in
    same_test _ _ v (static_decided c.args.parents.now _ _ c.ordered.ensures c.requires.left c.requires.right)
