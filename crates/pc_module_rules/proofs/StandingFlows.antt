-- The laws on computed flows: the computed flow at a place is the first one there under the lawful labelling.
use Rattle.std.proofs.Common.{◌≡◌, Option, Some, None, refl, sym, ap, ◌∙◌, subst, true, false, ◌↔◌}
use Rattle.std.specs.Prelude.{IsSome, unwrap_or}
use Rattle.pc_source.specs.declared.place.Place.{Place}
use Rattle.pc_tree.specs.declared.code.Code.{Code}
use Rattle.pc_tree.specs.declared.code.Code.TheVariants.{A1, E12}
use Rattle.pc_tree.specs.Code.{finding}
use Rattle.pc_tree.specs.Tree.{Module}
use Rattle.pc_types.specs.Tree.{Tree}
use Rattle.pc_notes.specs.Notes.{ExplainsFlow}
use Rattle.pc_rules.specs.Labels.{is_of_scopes}
use Rattle.pc_module_rules.specs.Computed.DynamicFlows.{computed_flow, dynamic_flow}
use Rattle.pc_module_rules.specs.FirstAt.{first_flow_at}
use Rattle.pc_module_rules.specs.Modules.{Labelling, IsLawful, IsFinding}
use Rattle.pc_module_rules.proofs.LabelledModule.{every_module_has_a_labelling}
use Rattle.pc_module_rules.specs.FlowsOfModules.{FlowsWith, HasFlow, coded_flows}
use Rattle.pc_module_rules.specs.Laws.Flows.{ExplainsPlace, DynamicFlowsAreFound}
use Rattle.pc_module_rules.specs.Laws.Flows.{DynamicFlowsAreDynamic, DynamicFlowsAreWellFormed, DynamicFlowsAreUnique}
use Rattle.pc_module_rules.specs.Laws.Flows.{DynamicFlowsAreComputed, FlowsAreComputed, WrongFlowsAreFound}
use Rattle.pc_module_rules.specs.Laws.Flows.{WrongFlowsAreWrong, WrongFlowsAreWellFormed, FirstFlowsAreNoted}
use Rattle.pc_module_rules.proofs.FirstFlows.{Pair, first_is, is_first}
use Rattle.pc_module_rules.proofs.PlainCodes.{tells_flow}
use Rattle.pc_module_rules.proofs.RightFlows.{flow_found, flow_dynamic, flow_wrong, flow_well_formed}
use Rattle.pc_module_rules.proofs.ToldModules.{module_tells}

-- the flow computed with a code at a place is the first flow there under a lawful labelling
module _ (c : Code) (own : is_of_scopes c ≡ false) where
  computed_is : (m : Module) (labels : Labelling m) → IsLawful m labels → (p : Place)
      → computed_flow c m p ≡ first_flow_at p (coded_flows c m labels)
  computed_is m labels l p = (module_tells c own false m labels l).is p

  stands : (m : Module) (p : Place) (s t : Tree) → computed_flow c m p ≡ Some (s, t) ↔ FlowsWith c m p s t
  stands m p s t = (
    λ e labels l. is_first p s t (coded_flows c m labels) (sym (computed_is m labels l p) ∙ e),
    λ h. let k = every_module_has_a_labelling m in computed_is m k.labels k.lawful p
        ∙ first_is p s t (coded_flows c m k.labels) (h k.labels k.lawful),
  )

  -- a flow that is computed is one under every lawful labelling
  has_flow : (m : Module) (p : Place) (o : Pair) → computed_flow c m p ≡ o → IsSome o → HasFlow c m p
  has_flow m p None e h = absurd (cc h)
  has_flow m p (Some f) e h = record { from = f.0; into = f.1; flows = (stands m p f.0 f.1).0 e }

  found : tells_flow c ≡ true → (m : Module) (p : Place) → IsFinding m (finding p c) ↔ HasFlow c m p
  found of_flows m p = (
    λ h. has_flow m p (computed_flow c m p) refl ((flow_found c m p of_flows).0 h),
    λ h. (flow_found c m p of_flows).1 (subst IsSome (sym ((stands m p h.from h.into).1 h.flows)) refl),
  )

pub all_computed : FlowsAreComputed
all_computed c own m p s t = stands c own m p s t

-- a walk that keeps types notes the same flows
pub first_flows_noted : FirstFlowsAreNoted
first_flows_noted c own m labels l p = (module_tells c own true m labels l).is p

-- ---- dynamic flows

pub flows_computed : DynamicFlowsAreComputed
flows_computed m p s t = stands A1 refl m p s t

pub flows_found : DynamicFlowsAreFound
flows_found m p = found A1 refl refl m p

pub flows_dynamic : DynamicFlowsAreDynamic
flows_dynamic m p s t h = flow_dynamic A1 m p s t refl ((flows_computed m p s t).1 h)

pub flows_well_formed : DynamicFlowsAreWellFormed
flows_well_formed m p s t h = flow_well_formed A1 m p s t ((flows_computed m p s t).1 h)

pub flows_unique : DynamicFlowsAreUnique
flows_unique m p s t u v h k =
    let types : (s, t) ≡ (u, v) = ap (λ (o : Pair). unwrap_or o (s, t)) (sym ((flows_computed m p s t).1 h)
    ∙ (flows_computed m p u v).1 k) in
    (ap (λ (f : Tree × Tree). f.0) types, ap (λ (f : Tree × Tree). f.1) types)

-- an explanation of the flow that is computed at a place explains the place
pub explains : {Store Ty : Type 0} (has : Store → Ty → Type 0) (tree : Ty → Tree) (m : Module) (p : Place)
    (store : Store) (found : Option (Ty × Ty)) → ExplainsFlow has tree store found (dynamic_flow m p)
    → ExplainsPlace has tree m p store found
explains has tree m p store None h = λ f. absurd (cc (subst IsSome h ((flow_found A1 m p refl).0 f)))
explains has tree m p store (Some pair) h = (h.0, h.1, (flows_computed m p (tree pair.0) (tree pair.1)).0 h.2)

-- ---- wrong flows

pub wrong_found : WrongFlowsAreFound
wrong_found m p = found E12 refl refl m p

pub wrong_wrong : WrongFlowsAreWrong
wrong_wrong m p s t h = flow_wrong E12 m p s t refl ((stands E12 refl m p s t).1 h)

pub wrong_well_formed : WrongFlowsAreWellFormed
wrong_well_formed m p s t h = flow_well_formed E12 m p s t ((stands E12 refl m p s t).1 h)
