use Rattle.std.proofs.Common.{◌∙◌, ◌++◌, ◌∷◌, [], List, All, ap, ap₂, map, subst, sym, take}
use Rattle.std.proofs.lemmas.List.{map-append}
use Rattle.std.proofs.lemmas.List.Elements.{All-push}
use Rattle.pc_tree.specs.Tree.{param_of}
use Rattle.pc_types.specs.Boxed.{tree_of, IsGiven}
use Rattle.pc_types.specs.declared.boxed.BoxType.{BoxType}
use Rattle.pc_class.specs.Facts.{TypedParameter, typed_parameter}
use Rattle.pc_class.specs.Tables.{HasParameter, parameter_with, parameters_with}
use Rattle.pc_class.specs.declared.table.Parameter.{Parameter as RustParameter}
use Rattle.pc_detail_facts.specs.Held.{module_held}
use Rattle.pc_name_details.proofs.NamingSteps.{mapped_more}
use Rattle.pc_details.proofs.overriding.params_read.Goals as goal

pub loop-param-preserved : goal.loop-param-preserved
loop-param-preserved c =
    let m = module_held c.args.facts.now in
    let params = c.args.params.now in
    let i = c.loop-param.param-index in
    let x = c.param-item.result in
    record {
      means = ap (parameters_with tree_of) c.in_ok-push.ensures.items
          ∙ map-append (parameter_with tree_of) c.loop-param.read.items _
          ∙ ap₂ (λ (l : List TypedParameter) (p : TypedParameter). l ++ p ∷ []) c.loop-param.invariant.means
          c.in_ok-param_read.ensures.means
          ∙ sym (ap (map (typed_parameter m)) (mapped_more param_of params i x c.loop-param-test.true c.param-item.is)
          ∙ map-append (typed_parameter m) (map param_of (take i params)) (param_of x ∷ []));
      given = subst (λ (l : List (RustParameter BoxType)). All (HasParameter IsGiven) l) (sym c.in_ok-push.ensures.items)
          (All-push (HasParameter IsGiven) c.loop-param.read.items _ c.loop-param.invariant.given
          c.in_ok-param_read.ensures.given);
    }
