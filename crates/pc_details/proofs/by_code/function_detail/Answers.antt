use Rattle.std.proofs.Common.{Option, Some, ap, inl, inr, sym}
use Rattle.std.specs.Option.{option_map}
use Rattle.pc_types.specs.Tree.{Tree}
use Rattle.pc_detail_texts.specs.Details.{Detail}
use Rattle.pc_detail_texts.specs.Mapped.{map_detail}
use Rattle.pc_detail_texts.specs.Sentences.{Words}
use Rattle.pc_detail_facts.specs.Held.{body_of, module_held, text_held}
use Rattle.pc_details.proofs.OtherCodes.{other_function}
use Rattle.pc_details.proofs.by_code.function_detail.Goals as goal

pub returns-in-A8 : goal.returns-in-A8
returns-in-A8 c = elim c.in-A8.is [
  | inl e ↦ rw e (rw e at c.override_detail.ensures)
  | inr e ↦ rw e (rw e at c.override_detail.ensures)
]

pub returns-in_ok-no_return_detail-in-E21 : goal.returns-in_ok-no_return_detail-in-E21
returns-in_ok-no_return_detail-in-E21 c =
    rw c.in-E21.is (ap (λ (d : Detail Words). Some d) c.in_ok-no_return_detail-in-E21.ensures)

pub returns-in_default : goal.returns-in_default
returns-in_default c = sym (ap (λ (d : Option (Detail Tree)). option_map (map_detail (text_held c.args.facts.now)) d)
    (other_function (module_held c.args.facts.now) c.args.code (body_of c.args.body)
    c.in_default.not-A8 c.in_default.not-E11 c.in_default.not-E21))
