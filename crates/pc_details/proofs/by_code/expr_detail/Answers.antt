use Rattle.std.proofs.Common.{Option, Some, ap, inl, inr, subst, sym}
use Rattle.std.specs.Option.{option_map}
use Rattle.std.specs.Prelude.{IfOk}
use Rattle.pc_types.specs.Tree.{Tree}
use Rattle.pc_detail_texts.specs.Details.{Detail}
use Rattle.pc_detail_texts.specs.Mapped.{map_detail}
use Rattle.pc_detail_texts.specs.Sentences.{Words}
use Rattle.pc_detail_facts.specs.Held.{ShowsDetail, known_held, module_held, owned_of, text_held}
use Rattle.pc_details.proofs.OtherCodes.{other_expr}
use Rattle.pc_details.proofs.by_code.expr_detail.Goals as goal

pub returns-in-A2 : goal.returns-in-A2
returns-in-A2 c = elim c.in-A2.is [
  | inl e ↦ rw e c.operator_detail.ensures
  | inr v ↦ elim v [
    | inl e ↦ rw e c.operator_detail.ensures
    | inr e ↦ rw e c.operator_detail.ensures
  ]
]

pub returns-in-A3 : goal.returns-in-A3
returns-in-A3 c = elim c.in-A3.is [
  | inl e ↦ rw e c.index_detail.ensures
  | inr e ↦ rw e c.index_detail.ensures
]

pub returns-in-A4 : goal.returns-in-A4
returns-in-A4 c =
    let m = module_held c.args.facts.now in
    let known = known_held c.args.facts.now in
    let used = c.use_of.ensures m known (owned_of c.args.owned).expr in
    let same = subst (λ (d : Option (Detail Tree)). IfOk c.used_attribute_detail.result (ShowsDetail c.args.facts.now d)) used
    c.used_attribute_detail.ensures in
    elim c.in-A4.is [
      | inl e ↦ rw e same
      | inr e ↦ rw e same
    ]

pub returns-in-A5 : goal.returns-in-A5
returns-in-A5 c = elim c.in-A5.is [
  | inl e ↦ rw e c.loop_detail.ensures
  | inr e ↦ rw e c.loop_detail.ensures
]

pub returns-in-A6 : goal.returns-in-A6
returns-in-A6 c = rw c.in-A6.is c.any_call_detail.ensures

pub returns-in-A7 : goal.returns-in-A7
returns-in-A7 c = rw c.in-A7.is c.list_test_detail.ensures

pub returns-in-E02 : goal.returns-in-E02
returns-in-E02 c = rw c.in-E02.is c.unknown_detail.ensures

pub returns-in-E03 : goal.returns-in-E03
returns-in-E03 c = rw c.in-E03.is c.early_detail.ensures

pub returns-in-E04 : goal.returns-in-E04
returns-in-E04 c = rw c.in-E04.is c.unassigned_detail.ensures

pub returns-in-E14 : goal.returns-in-E14
returns-in-E14 c = rw c.in-E14.is c.call_detail.ensures

pub returns-in-E20 : goal.returns-in-E20
returns-in-E20 c = rw c.in-E20.is c.value_detail.ensures

pub returns-in-E22 : goal.returns-in-E22
returns-in-E22 c = rw c.in-E22.is c.keys_detail.ensures

pub returns-in_ok-no_test_detail-in-E25 : goal.returns-in_ok-no_test_detail-in-E25
returns-in_ok-no_test_detail-in-E25 c =
    rw c.in-E25.is (ap (λ (d : Detail Words). Some d) c.in_ok-no_test_detail-in-E25.ensures)

pub returns-in-E26 : goal.returns-in-E26
returns-in-E26 c = rw c.in-E26.is c.size_detail.ensures

pub returns-in-E27 : goal.returns-in-E27
returns-in-E27 c = rw c.in-E27.is c.builtin_detail.ensures

pub returns-in_default : goal.returns-in_default
returns-in_default c = sym (ap (λ (d : Option (Detail Tree)). option_map (map_detail (text_held c.args.facts.now)) d)
    (other_expr (module_held c.args.facts.now) (known_held c.args.facts.now) c.args.is_callee c.args.code
    (owned_of c.args.owned) (record {
      operators = (c.in_default.not-A2, c.in_default.not-E13, c.in_default.not-E19);
      items = (c.in_default.not-A3, c.in_default.not-E16);
      attributes = (c.in_default.not-A4, c.in_default.not-E15);
      loops = (c.in_default.not-A5, c.in_default.not-E18);
      calls = (c.in_default.not-A6, c.in_default.not-E14, c.in_default.not-E27);
      names = (c.in_default.not-E02, c.in_default.not-E03, c.in_default.not-E04, c.in_default.not-E20);
      tests = (c.in_default.not-A7, c.in_default.not-E25);
      displays = (c.in_default.not-E22, c.in_default.not-E26);
    })))
