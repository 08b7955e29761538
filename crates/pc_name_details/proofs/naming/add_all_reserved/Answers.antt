use Rattle.std.proofs.Common.{◌∙◌, ◌+◌, List, Some, ap, map, sym, take, arith, subst}
use Rattle.pc_tree.specs.declared.code.Code.TheVariants.{E29}
use Rattle.pc_tree.specs.Lists.{name_seen}
use Rattle.pc_tree.specs.Tree.{Name}
use Rattle.pc_detail_texts.specs.Details as detail
use Rattle.pc_name_details.specs.Naming.{reserved_of_names}
use Rattle.pc_name_details.specs.Offered.{at_place}
use Rattle.pc_name_details.specs.Offered.{AddsDetails, of_code}
use Rattle.std.proofs.lemmas.List.{take_all}
use Rattle.pc_tree.specs.declared.tree.Name.{Name as RustName}
use Rattle.std.specs.Borrow.{Bor}
use Rattle.pc_name_details.proofs.NamingSteps.{code_added, mapped_more, next_added, reserved_more}
use Rattle.pc_name_details.proofs.naming.add_all_reserved.Goals as goal

pub loop-name-init : goal.loop-name-init
loop-name-init c = code_added c.args.facts.now E29 c.args.offers.now

pub loop-name-preserved : goal.loop-name-preserved
loop-name-preserved c =
    let names = c.args.names.now in
    let i = c.loop-name.name-index in
    let x = c.name-item.result in
    next_added c.args.facts.now E29 (reserved_of_names (map name_seen (take i names)))
    (at_place (name_seen x).place (Some (detail.reserved (name_seen x).text)))
    (reserved_of_names (map name_seen (take (i + 1) names))) c.args.offers.now c.loop-name.offers c.add_reserved.new.offers
    c.loop-name.invariant c.in_ok-add_reserved.ensures
    (λ p. sym (ap (λ (l : List Name). reserved_of_names l p) (mapped_more name_seen names i x c.loop-name-test.true c.name-item.is)
    ∙ reserved_more p (map name_seen (take i names)) (name_seen x)))

pub returns : goal.returns
returns c = subst (λ (l : List (Bor RustName)). AddsDetails c.args.facts.now
    (of_code E29 (reserved_of_names (map name_seen l))) c.args.offers.now c.loop-name.offers)
    (take_all c.loop-name.name-index c.args.names.now (omega arith)) c.loop-name.invariant
