use Rattle.std.proofs.Common.{map, take}
use Rattle.pc_tree.specs.declared.code.Code.TheVariants.{E29}
use Rattle.pc_tree.specs.Lists.{name_seen}
use Rattle.pc_name_details.specs.Naming.{reserved_of_names}
use Rattle.pc_name_details.specs.Offered.{AddsDetails, of_code}
use Rattle.pc_name_details.proofs.naming.add_all_reserved.Given as goal

abbrev pub invariant-loop-name : goal.invariant-loop-name
invariant-loop-name l =
    AddsDetails l.facts (of_code E29 (reserved_of_names (map name_seen (take l.name-index l.names)))) l.initial.offers l.offers
