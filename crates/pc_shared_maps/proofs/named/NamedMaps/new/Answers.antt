use Rattle.pc_scope.specs.Internal.WalkViews.{texts_in}
use Rattle.pc_shared_maps.proofs.Naming.{nothing_named}
use Rattle.pc_shared_maps.proofs.named.NamedMaps.new.Goals as goal

pub returns-clause-empty : goal.returns-clause-empty
returns-clause-empty c = nothing_named
    (record { texts = texts_in c.with_hasher-texts.result; nodes = c.in_ok-maps.maps })
    c.in_ok-maps.ensures.empty
