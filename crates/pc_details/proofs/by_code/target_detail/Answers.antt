use Rattle.std.proofs.Common.{Option, ap, inl, inr, sym}
use Rattle.std.specs.Option.{option_map}
use Rattle.pc_tree.specs.Tree.{target_of}
use Rattle.pc_types.specs.Tree.{Tree}
use Rattle.pc_detail_texts.specs.Details.{Detail}
use Rattle.pc_detail_texts.specs.Mapped.{map_detail}
use Rattle.pc_detail_facts.specs.Held.{known_held, module_held, text_held}
use Rattle.pc_details.proofs.OtherCodes.{other_target}
use Rattle.pc_details.proofs.by_code.target_detail.Goals as goal

pub returns-in-A3 : goal.returns-in-A3
returns-in-A3 c = elim c.in-A3.is [
  | inl e ↦ rw e c.store_detail.ensures
  | inr e ↦ rw e c.store_detail.ensures
]

pub returns-in-A4 : goal.returns-in-A4
returns-in-A4 c = elim c.in-A4.is [
  | inl e ↦ rw e c.attribute_target.ensures
  | inr e ↦ rw e c.attribute_target.ensures
]

pub returns-in-E23 : goal.returns-in-E23
returns-in-E23 c = rw c.in-E23.is c.method_target.ensures

pub returns-in_default : goal.returns-in_default
returns-in_default c = sym (ap (λ (d : Option (Detail Tree)). option_map (map_detail (text_held c.args.facts.now)) d)
    (other_target (module_held c.args.facts.now) (known_held c.args.facts.now) c.args.code (target_of c.args.target.now)
    c.in_default.not-A3 c.in_default.not-E17 c.in_default.not-A4 c.in_default.not-E15 c.in_default.not-E23))
