use Rattle.std.proofs.Common.{List, ◌++◌, map, take}
use Rattle.pc_tree.specs.Lists.{name_seen}
use Rattle.pc_detail_facts.specs.Held.{body_of}
use Rattle.pc_name_details.specs.Uses.{AreBound, Binding, binding}
use Rattle.pc_name_details.proofs.bindings.Bindings.add_body.Given as goal

abbrev pub invariant-loop-name : goal.invariant-loop-name
invariant-loop-name l = (before : List Binding) → AreBound l.fn.self before
    → AreBound l.self (before ++ map (binding (body_of l.body)) (map name_seen (take l.name-index l.name-items)))
