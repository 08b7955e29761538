use Rattle.std.proofs.Common.{refl}
use Rattle.pc_walk.proofs.Walks.{grown, stands_on}
use Rattle.pc_check.proofs.entering.enter_receiver.Goals as goal

pub enter_name-requires-clause-stands : goal.enter_name-requires-clause-stands
enter_name-requires-clause-stands g c =
    stands_on g.S.TypeStore c.args.walk.now _ c.args.env.now c.requires (grown c.class.ensures.kept) refl
