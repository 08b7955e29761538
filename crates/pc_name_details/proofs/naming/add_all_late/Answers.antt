use Rattle.std.proofs.Common.{List, map, subst, sym, take, arith}
use Rattle.pc_tree.specs.declared.code.Code.TheVariants.{E24}
use Rattle.pc_tree.specs.Lists.{name_seen}
use Rattle.pc_tree.specs.Tree.{Name}
use Rattle.pc_detail_rules.specs.Names.{late_after, place_of_name}
use Rattle.pc_name_details.specs.Naming.{AreFirst}
use Rattle.pc_name_details.specs.Offered.{AddsDetails, of_code}
use Rattle.pc_detail_rules.specs.Names.{late_among}
use Rattle.std.proofs.lemmas.List.{take_all}
use Rattle.pc_tree.specs.declared.tree.Name.{Name as RustName}
use Rattle.std.specs.Borrow.{Bor}
use Rattle.pc_name_details.proofs.NamingSteps.{code_added, from_next, mapped_more}
use Rattle.pc_name_details.proofs.naming.add_all_late.Goals as goal

pub loop-name-init : goal.loop-name-init
loop-name-init c = record { first = c.new-first.ensures; added = code_added c.args.facts.now E24 c.args.offers.now }

pub loop-name-preserved : goal.loop-name-preserved
loop-name-preserved c =
    let names = c.args.names.now in
    let i = c.loop-name.name-index in
    let x = c.name-item.result in
    record {
      first = subst (λ (l : List Name). AreFirst c.add.new.self l)
          (sym (mapped_more name_seen names i x c.loop-name-test.true c.name-item.is))
          (c.in_ok-add.ensures (map name_seen (take i names)) c.loop-name.invariant.first);
      added = from_next name_seen c.args.facts.now names i x c.loop-name-test.true c.name-item.is c.args.offers.now
          c.loop-name.offers c.add_late.new.offers E24 place_of_name late_after c.loop-name.invariant.added
          (c.in_ok-add_late.ensures (map name_seen (take i names)) c.loop-name.invariant.first);
    }

pub returns : goal.returns
returns c = subst (λ (l : List (Bor RustName)). AddsDetails c.args.facts.now
    (of_code E24 (λ p. late_among p (map name_seen l))) c.args.offers.now c.loop-name.offers)
    (take_all c.loop-name.name-index c.args.names.now (omega arith)) c.loop-name.invariant.added
