-- The details of findings as the program makes them: private to this crate. Own rule of the profile.
use Rattle.std.specs.Prelude.{◌≡◌, List, map, flat_map, Option, Some, IfSome, Contains}
use Rattle.std.specs.Option.{option_map}
use Rattle.pc_source.specs.declared.place.Place.{Place}
use Rattle.pc_tree.specs.declared.code.Code.{Code}
use Rattle.pc_tree.specs.declared.code.Code.TheVariants.{A1, E12}
use Rattle.pc_tree.specs.declared.code.Finding.{Finding}
use Rattle.pc_scope.specs.Bindings.{bodies}
use Rattle.pc_types.specs.Tree.{Tree}
use Rattle.pc_detail_texts.specs.Details.{Detail}
use Rattle.pc_detail_texts.specs.Mapped.{map_detail}
use Rattle.pc_detail_texts.specs.Sentences.{Words}
use Rattle.pc_detail_texts.specs.Shown.{detail_of_value}
use Rattle.pc_detail_texts.specs.declared.details.Detail.{Detail as RustDetail}
use Rattle.pc_details.specs.declared.explained.DetailedFinding.{DetailedFinding as RustDetailed}
use Rattle.pc_details.specs.declared.walked.WalkedModule.{WalkedModule}
use Rattle.pc_details.specs.Listed.{ListedDetail}
use Rattle.pc_detail_facts.specs.declared.facts.Facts.{Facts}
use Rattle.pc_detail_rules.specs.Explains.{annotation_for, detail_for}
use Rattle.pc_detail_facts.specs.Held.{AreFacts, known_held, module_held, text_held}
use Rattle.pc_flow_details.specs.Kept.{flow_kept}
use Rattle.pc_name_details.specs.Naming.{walked_detail}
use Rattle.pc_detail_nodes.specs.NodesHeld.{HoldsNodes}
use Rattle.pc_name_details.specs.Offered.{kept_of}
use Rattle.pc_detail_rules.specs.Sinks.{sinks_of}
use Rattle.pc_detail_rules.specs.ToldTypes.{told_among, told_detail}
use Rattle.pc_name_details.specs.Uses.{AreBound, bindings_of}

-- words, if there are any, are those of a detail that is wanted
abbrev pub AreOf : Facts → Option (Detail Tree) → Option (Detail Words) → Type 0
AreOf f want made = IfSome made (λ d. Some d ≡ option_map (map_detail (text_held f)) want)

-- words, if there are any, are these
abbrev pub AreThese : Option (Detail Words) → Option (Detail Words) → Type 0
AreThese want made = IfSome made (λ d. Some d ≡ want)

-- the flow of a code at a place as it is told, if there is one
abbrev pub flow_told : Facts → Code → Place → Option (Detail Words)
flow_told f c p =
    told_among (module_held f) (sinks_of (module_held f) (known_held f)) p ((known_held f).flows c p)

-- the detail of a code at a place as it is told, if there is one
abbrev pub told_at : Facts → Place → Code → Option (Detail Words)
told_at f p c = option_map (told_detail (module_held f) (annotation_for (module_held f) (known_held f) p c))
    (detail_for (module_held f) (known_held f) p c)

-- a detail of the program, if there is one, is that of a code at a place as it is told
abbrev pub IsToldAt : Facts → Place → Code → Option RustDetail → Type 0
IsToldAt f p c made = AreThese (told_at f p c) (option_map detail_of_value made)

-- a detail of the program is that of a code at a place as it is told, and there is one exactly if there is one
abbrev pub ShowsToldAt : Facts → Place → Code → Option RustDetail → Type 0
ShowsToldAt f p c made = option_map detail_of_value made ≡ told_at f p c

-- a detail of the program, if there is one, is this one with its types as texts
abbrev pub IsOf : Facts → Option (Detail Tree) → Option RustDetail → Type 0
IsOf f want made = AreOf f want (option_map detail_of_value made)

-- the module that a walk goes over
abbrev pub facts_walked : WalkedModule → Facts
facts_walked w = w.facts.now

-- a walk holds the nodes, names and flows of its module, at the findings
pub record HoldsWalk (findings : List Finding) (w : WalkedModule) : Type 0 where
  pub facts : AreFacts (facts_walked w)
  pub nodes : HoldsNodes (module_held (facts_walked w)) findings w.nodes
  pub bound : AreBound w.bindings (flat_map bindings_of (bodies (module_held (facts_walked w))))
  pub wrong : (p : Place) → AreThese (flow_told (facts_walked w) E12 p) (flow_kept w.sinks.wrong p)
  pub dynamic : (p : Place) → AreThese (flow_told (facts_walked w) A1 p) (flow_kept w.sinks.dynamic p)
  pub names : (f : Finding) → Contains findings f → AreOf (facts_walked w)
      (walked_detail (module_held (facts_walked w)) f.place f.code) (kept_of w.offers f)

-- a walk holds what is its module's at a finding
abbrev pub HoldsOf : Finding → WalkedModule → Type 0
HoldsOf f w = (findings : List Finding) × (HoldsWalk findings w × Contains findings f)

-- a walk still holds the details of some findings: of the flow of each, and of what it found at each
pub record HoldsLeft (left : List Finding) (w : WalkedModule) : Type 0 where
  pub wrong : (f : Finding) → Contains left f → f.code ≡ E12
      → flow_kept w.sinks.wrong f.place ≡ flow_told (facts_walked w) E12 f.place
  pub dynamic : (f : Finding) → Contains left f → f.code ≡ A1
      → flow_kept w.sinks.dynamic f.place ≡ flow_told (facts_walked w) A1 f.place
  pub names : (f : Finding) → Contains left f → kept_of w.offers f
      ≡ option_map (map_detail (text_held (facts_walked w)))
      (walked_detail (module_held (facts_walked w)) f.place f.code)

-- a finding is none of these
abbrev pub IsNoneOf : List Finding → Finding → Type 0
IsNoneOf left f = (g : Finding) → Contains left g → ¬ (g ≡ f)

-- the detail of a finding, if it has one, by what is held
abbrev pub detail_by : Facts → Finding → Option ListedDetail
detail_by f x = option_map (λ d. record { finding = x; words = d }) (told_at f x.place x.code)

-- a finding of a list with a detail by the rule of its code
pub record IsDetailOf (f : Facts) (findings : List Finding) (d : RustDetailed) : Type 0 where
  pub listed : Contains findings d.finding
  pub by_rule : Some (detail_of_value d.detail) ≡ told_at f d.finding.place d.finding.code
