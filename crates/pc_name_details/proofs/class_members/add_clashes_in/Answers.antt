use Rattle.std.proofs.Common.{◌<◌, [], List, arith, length, map, subst}
use Rattle.std.proofs.lemmas.List.{take-map, take_all}
use Rattle.pc_tree.specs.declared.code.Code.TheVariants.{E06}
use Rattle.pc_tree.specs.declared.tree.Member.{Member as RustMember}
use Rattle.pc_tree.specs.Tree.{Member, member_of}
use Rattle.pc_detail_facts.specs.Held.{module_held}
use Rattle.pc_detail_rules.specs.Names.{clash_detail, first_from, place_of_member}
use Rattle.pc_name_details.specs.Naming.{numbered_held}
use Rattle.pc_name_details.specs.Offered.{AddsDetails, of_code, at_place}
use Rattle.pc_name_details.proofs.MemberDetails.{member_at}
use Rattle.pc_name_details.proofs.MemberOrders.{item_at}
use Rattle.pc_name_details.proofs.NamingSteps.{code_added, from_next}
use Rattle.pc_name_details.proofs.class_members.add_clashes_in.Goals as goal

pub loop-position-init : goal.loop-position-init
loop-position-init c = code_added c.args.facts.now E06 c.args.offers.now

pub loop-position-preserved : goal.loop-position-preserved
loop-position-preserved c =
    let xs = c.args.class.now.members.items in
    let i = c.loop-position.position in
    let n = numbered_held c.args.number c.args.class.now in
    let m = module_held c.args.facts.now in
    let less : i < length xs = omega arith in
    let item = item_at xs i less in
    let x = item.0 in
    from_next member_of c.args.facts.now xs i x less item.1 c.args.offers.now c.loop-position.offers c.add_clash.new.offers
    E06 place_of_member (clash_detail m n) c.loop-position.invariant
    (subst (λ (l : List Member). AddsDetails c.args.facts.now (of_code E06 (at_place (place_of_member (member_of x))
    (clash_detail m n l (member_of x)))) c.loop-position.offers c.add_clash.new.offers) (take-map member_of i xs)
    (c.in_ok-add_clash.ensures (member_of x) (member_at xs i x less item.1)))

pub returns : goal.returns
returns c =
    let xs = c.args.class.now.members.items in
    let n = numbered_held c.args.number c.args.class.now in
    let m = module_held c.args.facts.now in
    subst (λ (l : List RustMember). AddsDetails c.args.facts.now (of_code E06 (λ p. first_from place_of_member
    (clash_detail m n) p [] (map member_of l))) c.args.offers.now c.loop-position.offers)
    (take_all c.loop-position.position xs (omega arith)) c.loop-position.invariant
