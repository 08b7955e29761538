use Rattle.std.proofs.Common.{map, take}
use Rattle.std.specs.Prelude.{flat_map}
use Rattle.pc_detail_facts.specs.Held.{body_of}
use Rattle.pc_name_details.specs.Uses.{AreBound, bindings_of}
use Rattle.pc_name_details.proofs.bindings.Bindings.of.Given as goal

abbrev pub invariant-loop-body : goal.invariant-loop-body
invariant-loop-body l = AreBound l.bindings (flat_map bindings_of (map body_of (take l.body-index l.bodies)))
