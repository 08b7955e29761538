use Rattle.std.proofs.Common.{List, map, subst, sym, take, arith}
use Rattle.pc_tree.specs.Lists.{name_seen}
use Rattle.pc_tree.specs.Tree.{Name}
use Rattle.pc_name_details.specs.Naming.{AreFirst}
use Rattle.std.proofs.lemmas.List.{take_all}
use Rattle.pc_tree.specs.declared.tree.Name.{Name as RustName}
use Rattle.std.specs.Borrow.{Bor}
use Rattle.pc_name_details.proofs.NamingSteps.{mapped_more}
use Rattle.pc_name_details.proofs.first_places.FirstPlaces.of.Goals as goal

pub loop-name-preserved : goal.loop-name-preserved
loop-name-preserved c = subst (λ (l : List Name). AreFirst c.add.new.self l)
    (sym (mapped_more name_seen c.args.names.now c.loop-name.name-index c.name-item.result c.loop-name-test.true
    c.name-item.is))
    (c.in_ok-add.ensures (map name_seen (take c.loop-name.name-index c.args.names.now)) c.loop-name.invariant)

pub loop-name-init : goal.loop-name-init
loop-name-init c = c.new-first.ensures

pub returns : goal.returns
returns c = subst (λ (l : List (Bor RustName)). AreFirst c.loop-name.first (map name_seen l))
    (take_all c.loop-name.name-index c.args.names.now (omega arith)) c.loop-name.invariant
