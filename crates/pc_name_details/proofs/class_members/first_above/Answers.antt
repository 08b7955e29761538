use Rattle.std.proofs.Common.{◌∙◌, ◌<◌, ◌≤◌, ap, arith, length, sym}
use Rattle.std.specs.Option.{option_map}
use Rattle.pc_types.specs.Below.{Bases, base_of}
use Rattle.pc_detail_facts.specs.Held.{module_held}
use Rattle.pc_name_details.specs.Naming.{owned_member}
use Rattle.pc_detail_facts.proofs.Held.{found_at}
use Rattle.pc_name_details.proofs.MemberOrders.{above_default, no_default}
use Rattle.pc_name_details.proofs.class_members.first_above.Goals as goal

pub returns-in_err-base : goal.returns-in_err-base
returns-in_err-base c = ap (option_map owned_member) c.from_residual.ensures
    ∙ no_default (module_held c.args.facts.now) c.args.number
    (sym (c.base.ensures.value ∙ ap (λ (bs : Bases). base_of bs c.args.number) c.requires.facts.outline.parents)
    ∙ c.in_err-base.was)

pub returns-in_err-get : goal.returns-in_err-get
returns-in_err-get c =
    let less : c.in_ok-base.base < c.args.number =
    c.base.ensures.ordered c.args.number c.in_ok-base.base (sym c.base.ensures.value ∙ c.in_ok-base.was) in
    let past : length c.args.first.now ≤ c.in_ok-base.base = c.in_err-get.ensures.lookup.3 in
    absurd (omega (arith, less, past, c.requires.before))

pub returns : goal.returns
returns c = above_default (module_held c.args.facts.now) c.args.first.now c.args.number c.in_ok-base.base
    c.in_ok-get.field-0.now c.requires.first
    (sym (c.base.ensures.value ∙ ap (λ (bs : Bases). base_of bs c.args.number) c.requires.facts.outline.parents)
    ∙ c.in_ok-base.was)
    (sym (found_at c.args.first.now c.in_ok-base.base c.in_ok-get.field-0.now c.in_ok-get.ensures.lookup.0
    c.in_ok-get.ensures.lookup.1))
