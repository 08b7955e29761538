use Rattle.std.proofs.Common.{◌∙◌, ap, sym}
use Rattle.std.specs.Option.{option_map, option_to_list}
use Rattle.std.specs.Prelude.{find}
use Rattle.pc_tree.specs.Tree.{Name, member_of}
use Rattle.pc_detail_facts.specs.Held.{module_held}
use Rattle.pc_name_details.specs.Naming.{member_bound, owned_member}
use Rattle.pc_name_details.proofs.BoundMembers.{clash_is, either_field, one_clash}
use Rattle.pc_name_details.proofs.class_members.clash_in.Goals as goal

pub returns-in_err-other : goal.returns-in_err-other
returns-in_err-other c =
    let m = module_held c.args.facts.now in
    let x = member_of c.args.member.now in
    ap (option_map owned_member) c.from_residual.ensures ∙ ap (λ o. find (either_field x) (option_to_list o))
    (sym (ap (option_map owned_member) c.in_err-other.was) ∙ c.member_bound.ensures
    ∙ ap (member_bound m c.args.above) (c.as_str.ensures.value ∙ ap (λ (n : Name). n.text) c.name.ensures))
    ∙ sym (clash_is m c.args.above x)

pub returns-then-is_either_field : goal.returns-then-is_either_field
returns-then-is_either_field c =
    let m = module_held c.args.facts.now in
    let x = member_of c.args.member.now in
    one_clash x (owned_member c.in_ok-other.other) _ (sym c.is_either_field.ensures ∙ c.if-is_either_field.true)
    ∙ ap (λ o. find (either_field x) (option_to_list o))
    (sym (ap (option_map owned_member) c.in_ok-other.was) ∙ c.member_bound.ensures
    ∙ ap (member_bound m c.args.above) (c.as_str.ensures.value ∙ ap (λ (n : Name). n.text) c.name.ensures))
    ∙ sym (clash_is m c.args.above x)

pub returns-else-is_either_field : goal.returns-else-is_either_field
returns-else-is_either_field c =
    let m = module_held c.args.facts.now in
    let x = member_of c.args.member.now in
    one_clash x (owned_member c.in_ok-other.other) _ (sym c.is_either_field.ensures ∙ c.if-is_either_field.false)
    ∙ ap (λ o. find (either_field x) (option_to_list o))
    (sym (ap (option_map owned_member) c.in_ok-other.was) ∙ c.member_bound.ensures
    ∙ ap (member_bound m c.args.above) (c.as_str.ensures.value ∙ ap (λ (n : Name). n.text) c.name.ensures))
    ∙ sym (clash_is m c.args.above x)
