use Rattle.std.proofs.Common.{◌≡◌, ◌∙◌, ◌∷◌, All, List, map, subst, sym}
use Rattle.std.proofs.lemmas.List.Elements.{All-tail}
use Rattle.pc_types.specs.Boxed.{tree_of, IsGiven}
use Rattle.pc_types.specs.declared.boxed.BoxType.{BoxType}
use Rattle.pc_annotations.specs.Bases.{bases_of}
use Rattle.pc_detail_texts.specs.Mapped.{map_clash}
use Rattle.pc_detail_rules.specs.Annotations.{clash_among, clash_with}
use Rattle.pc_detail_facts.specs.Held.{module_held, text_held}
use Rattle.pc_type_details.proofs.ClashSteps.{clash_later, clash_member}
use Rattle.pc_type_details.proofs.annotating.clash.Goals as goal

pub down-preserved : goal.down-preserved
down-preserved c =
    let f = c.args.facts.now in
    let bases = bases_of (module_held f) in
    let all = c.down.rest.now in
    let t = c.in-Some.first.now in
    let rest = c.in-Some.others.now in
    let is : all ≡ t ∷ rest = c.in-Some.ensures.cases.0 in
    record {
      among = sym (clash_later (map_clash (text_held f)) (clash_with bases (tree_of t) (map tree_of rest))
          (clash_among bases (map tree_of rest)) c.in_ok-clash.clash (sym c.is_some.ensures ∙ c.if-is_some.false)
          c.in_ok-clash.ensures)
          ∙ sym (clash_member bases all t rest is (sym c.is_member.ensures ∙ c.if-not-is_member.false))
          ∙ c.down.invariant.among;
      given = All-tail IsGiven t rest (subst (λ (l : List BoxType). All IsGiven l) is c.down.invariant.given);
    }
