use Rattle.std.proofs.Common.{◌≡◌, ◌≢◌, ◌∙◌, ℕ, List, Some, ap, arith, length, sym}
use Rattle.std.specs.Option.{option_map}
use Rattle.pc_scope.specs.declared.resolution.Builtin.{Builtin}
use Rattle.pc_scope.specs.declared.resolution.Builtin.TheVariants as builtin
use Rattle.pc_tree.specs.Tree.{ann_of}
use Rattle.pc_types.specs.Tree.{Tree}
use Rattle.pc_annotations.specs.Annotations.{read_anns, reading}
use Rattle.pc_annotations.specs.Bases.{bases_of}
use Rattle.pc_annotations.specs.Listed.{anns_of_list}
use Rattle.pc_detail_texts.specs.Details as detail
use Rattle.pc_detail_texts.specs.Details.{AnnotationFault}
use Rattle.pc_detail_texts.specs.Mapped.{map_annotation}
use Rattle.pc_detail_rules.specs.Annotations.{fault_of_applied, shown_fault}
use Rattle.pc_detail_facts.specs.Held.{module_held, text_held}
use Rattle.pc_type_details.proofs.AnnotationFaults.{dict_key, dict_takes, takes_shown}
use Rattle.pc_type_details.proofs.AnnotationNodes.{as_many}
use Rattle.pc_detail_facts.proofs.Results.{if_ok}
use Rattle.pc_type_details.proofs.annotating.fault_of_applied.Goals as goal
use Rattle.pc_type_details.proofs.annotating.fault_of_applied.Goals.{in-List, in-Dict}
use Rattle.pc_type_details.proofs.annotating.fault_of_applied.Goals.{else-takes-eq2-via-then-takes-eq2+else-types-eq2}
use Rattle.pc_type_details.proofs.annotating.fault_of_applied.Goals.{else-takes-eq2-via-else-takes-eq2}

pub returns-then-types-eq2 : goal.returns-then-types-eq2
returns-then-types-eq2 c =
    let f = c.args.facts.now in
    let m = module_held f in
    let word = c.args.word.now in
    let xs = c.args.types.now in
    let is : c.args.builtin ≡ builtin.Dict = elim c.match-builtin.branch [
      | in-List w ↦ absurd (omega (arith, w.takes-is))
      | in-Dict w ↦ w.in-Dict.is
    ] in
    let two : length xs ≡ 2 = omega arith in
    let same : fault_of_applied word c.args.builtin (read_anns m (bases_of m) (anns_of_list xs))
    ≡ detail.key_type (reading m (bases_of m) (ann_of c.index-types-0.result)) =
    ap (λ (b : Builtin). fault_of_applied word b (read_anns m (bases_of m) (anns_of_list xs))) is
    ∙ dict_key m (bases_of m) word xs c.index-types-0.result two c.index-types-0.is in
    if_ok c.key_fault.result (λ o e. e
    ∙ ap (λ (fault : AnnotationFault Tree). option_map (map_annotation (text_held f)) (shown_fault fault)) (sym same))
    c.key_fault.ensures

pub returns : goal.returns
returns c =
    let f = c.args.facts.now in
    let m = module_held f in
    let word = c.args.word.now in
    let xs = c.args.types.now in
    let ts = read_anns m (bases_of m) (anns_of_list xs) in
    let takes = c.match-builtin.takes in
    let applied : fault_of_applied word c.args.builtin ts ≡ detail.takes_types word takes (length ts) =
    elim c.match-builtin.branch [
      | in-List w ↦ ap (λ (b : Builtin). fault_of_applied word b ts) w.in-List.is
          ∙ ap (λ k. detail.takes_types word k (length ts)) (sym w.takes-is)
      | in-Dict w ↦
          let other : length ts ≢ 2 = λ e. elim c.else-takes-eq2.branch [
            | else-takes-eq2-via-then-takes-eq2+else-types-eq2 q ↦ omega (arith, as_many m xs)
            | else-takes-eq2-via-else-takes-eq2 q ↦ omega (arith, w.takes-is)
          ] in
          ap (λ (b : Builtin). fault_of_applied word b ts) w.in-Dict.is ∙ dict_takes word ts other
          ∙ ap (λ k. detail.takes_types word k (length ts)) (sym w.takes-is)
    ] in
    ap (λ (w : List ℕ). Some (detail.takes_types w takes (length xs))) c.in_ok-words.ensures
    ∙ takes_shown m xs word c.args.builtin takes (text_held f) applied
