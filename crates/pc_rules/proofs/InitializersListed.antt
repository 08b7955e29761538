-- The list of the notes of an initializer holds exactly the findings under its lawful labels and of its flow, except
-- those of scope analysis; and its type is that of those labels.
use Rattle.std.specs.Prelude.{false}
use Rattle.std.proofs.Common.{◌≡◌, ◌⊎◌, List, [], ◌∷◌, ◌++◌, refl, sym, ap, ◌∙◌, subst}
use Rattle.pc_tree.specs.declared.code.Finding.{Finding}
use Rattle.pc_tree.specs.Tree.{Expr, Module}
use Rattle.pc_tree.specs.Depth.{place_of}
use Rattle.pc_types.specs.Tree.{Tree}
use Rattle.pc_types.specs.Below.{Bases}
use Rattle.pc_annotations.proofs.Earlier.{smaller}
use Rattle.pc_class.specs.Bases.{bases_of}
use Rattle.pc_flow.specs.WellFormed.{AreWellFormed, IsWellFormedIfAny}
use Rattle.pc_rules.specs.Operations.{Label}
use Rattle.pc_rules.specs.Context.{Context, FlowsInto}
use Rattle.pc_rules.specs.Computed.Expressions.{labels_of, flows_of}
use Rattle.pc_rules.specs.Computed.Findings.{notes_under, flows_at}
use Rattle.pc_rules.specs.Labels.{FlowLabels, Labels, whole_label, Finds, IsFlowAt}
use Rattle.pc_rules.specs.Lawful.{Lawful}
use Rattle.pc_rules.specs.Signatures.{initializer_context, first_of_types}
use Rattle.pc_rules.specs.Computed.Signatures.{ItemsReached, initial, value_findings}
use Rattle.pc_notes.specs.Notes.{Note}
use Rattle.pc_rules.specs.Computed.Standing.{label_in, finds_in}
use Rattle.pc_rules.proofs.ComputedFlows.{flows_are_lawful}
use Rattle.pc_rules.proofs.ComputedLawful.{labels_are_lawful}
use Rattle.pc_rules.proofs.Contexts.{initializers_well_formed}
use Rattle.pc_rules.proofs.FoundList.{Noted, noted_in_turn as in_turn, noted_flows as at_flows, findings_listed}
use Rattle.pc_rules.proofs.One.{into_one, one_labelling}

pub first_well_formed : (bases : Bases) (ts : List Tree) → AreWellFormed bases ts
    → IsWellFormedIfAny bases (first_of_types ts)
first_well_formed bases [] k = tt
first_well_formed bases (t ∷ ts) k = k.0

module _ (m : Module) (r : ItemsReached) (known : AreWellFormed (bases_of m) r.constants) (into : List Tree)
    (wanted : AreWellFormed (bases_of m) into) (e : Expr) where
  abbrev context : Context
  context = initializer_context m r.constants r.classes

  abbrev computed : Labels e
  computed = labels_of context [] [] (first_of_types into) e

  -- the computed label of an initializer, by its lawful labels
  module _ (labels : Labels e) (lawful : Lawful context [] [] (first_of_types into) e labels) where
    is_computed : computed ≡ labels
    is_computed =
        let h = labels_are_lawful context [] [] (first_of_types into) e
        (initializers_well_formed m r.constants r.classes known) tt tt
        (first_well_formed (bases_of m) into wanted) in
        one_labelling context [] [] refl (first_of_types into) e computed labels h.0 lawful

    pub initializer_label : label_in (initial m false r.constants r.classes) (first_of_types into) e
        ≡ whole_label e labels
    unfolding label_in
    initializer_label = ap (whole_label e) is_computed

    initializer_found : finds_in (initial m false r.constants r.classes) (first_of_types into) e
        ≡ notes_under false e labels
    unfolding finds_in
    initializer_found = ap (notes_under false e) is_computed

    flows_computed : (flows : FlowLabels) → FlowsInto (bases_of m) (whole_label e labels) into flows
        → flows_of (bases_of m) (label_in (initial m false r.constants r.classes) (first_of_types into) e) into ≡ flows
    flows_computed flows h =
        let w = labels_are_lawful context [] [] (first_of_types into) e
        (initializers_well_formed m r.constants r.classes known) tt tt
        (first_well_formed (bases_of m) into wanted) in
        let k = subst (λ (x : Labels e). FlowsInto (bases_of m) (whole_label e x) into
        (flows_of (bases_of m) (whole_label e x) into)) is_computed
        (flows_are_lawful (bases_of m) (whole_label e computed) into (smaller m) w.1 wanted) in
        ap (λ (x : Label). flows_of (bases_of m) x into) initializer_label
        ∙ into_one (bases_of m) (whole_label e labels) into (flows_of (bases_of m) (whole_label e labels) into)
        flows k h

    listed_own : (f : Finding) → Noted f (notes_under false e labels) (Finds e labels f)
    listed_own f = let l = findings_listed e labels f in (
      λ c. let o = l.0 c in (o.stands, o.own),
      λ s own. l.1 (record { stands = s; own = own }),
    )

    -- the findings of an initializer, by its lawful labels and its lawful flow
    pub value_listed : (flows : FlowLabels) → FlowsInto (bases_of m) (whole_label e labels) into flows → (f : Finding)
        → Noted f (value_findings m false r into e) (Finds e labels f ⊎ IsFlowAt (place_of e) flows f)
    value_listed flows h f =
        let p = place_of e in
        let all : value_findings m false r into e ≡ notes_under false e labels
        ++ flows_at p flows = λ i. initializer_found i
        ++ flows_at p (flows_computed flows h i) in
        subst (λ (l : List Note). Noted f l (Finds e labels f ⊎ IsFlowAt p flows f)) (sym all)
        (in_turn f (notes_under false e labels) (flows_at p flows) (listed_own f) (at_flows f p flows))
