use Rattle.std.proofs.Common.{map}
use Rattle.pc_intern.specs.Store.{tree_of_type}
use Rattle.pc_intern.proofs.Held.{known_as}
use Rattle.pc_intern.proofs.store.InternStoreTypeStore.tuple.Goals as goal

pub returns-in-Some-clause-value : goal.returns-in-Some-clause-value
returns-in-Some-clause-value c =
    let us = map tree_of_type c.args.parts.now in
    known_as c.args.self.now c.in-Some.known _ us c.in-Some.ensures.held c.in-Some.ensures.head
    (c.in-Some.ensures.parts us c.in_ok-numbers.ensures.trees)
