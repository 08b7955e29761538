use Rattle.std.proofs.Common.{◌∙◌, ◌∷◌, [], ◌++◌, refl, sym, ap}
use Rattle.std.specs.Prelude.{if◌then◌else◌}
use Rattle.pc_tree.specs.declared.code.Code.TheVariants.{A5}
use Rattle.pc_types.specs.Tree.{Any, Int, Object}
use Rattle.pc_rules.specs.Operations.{Label, clean}
use Rattle.pc_rules.specs.Calls.{is_suited, range_signature}
use Rattle.pc_rules.specs.Computed.Findings.{brief}
use Rattle.pc_calls.proofs.CallLabels.{label_is}
use Rattle.pc_calls.proofs.ranging.range_item.Goals as goal

pub returns-then-is_suited_by-clause-label : goal.returns-then-is_suited_by-clause-label
returns-then-is_suited_by-clause-label g c =
    let unsuited : Label = record { type = Any; codes = A5 ∷ [] } in
    record {
      given = c.in_ok-ty.ensures.value.0;
      is = label_is g.S.TypeStore.tree (record { ty = c.in_ok-ty.ty; codes = c.new-codes.result }) (clean Int)
          c.in_ok-ty.ensures.value.1 c.new-codes.ensures.items
          ∙ ap (λ b. brief (if b then clean Int else unsuited)) (sym c.if-is_suited_by.true
          ∙ c.is_suited_by.ensures (Int ∷ []) Object refl ∙ ap (λ given. is_suited given range_signature)
          c.in_ok-given.ensures);
    }

pub returns-clause-label : goal.returns-clause-label
returns-clause-label g c =
    let unsuited : Label = record { type = Any; codes = A5 ∷ [] } in
    record {
      given = c.in_ok-ty-2.ensures.value.0;
      is = label_is g.S.TypeStore.tree (record { ty = c.in_ok-ty-2.ty; codes = c.push.new.self }) unsuited
          c.in_ok-ty-2.ensures.value.1 (c.in_ok-push.ensures.items ∙ ap (λ cs. cs ++ A5 ∷ []) c.new-codes.ensures.items)
          ∙ ap (λ b. brief (if b then clean Int else unsuited)) (sym c.if-is_suited_by.false
          ∙ c.is_suited_by.ensures (Int ∷ []) Object refl ∙ ap (λ given. is_suited given range_signature)
          c.in_ok-given.ensures);
    }
