-- The details of A1 and of E12 have the types of the first flow at their place with that code.
use Rattle.std.proofs.Common.{◌≡◌, List, Option, Some, None, ap}
use Rattle.std.specs.Option.{option_map}
use Rattle.pc_source.specs.declared.place.Place.{Place}
use Rattle.pc_tree.specs.declared.code.Code.TheVariants.{A1, E12}
use Rattle.pc_tree.specs.Code.{finding}
use Rattle.pc_tree.specs.Tree.{Module}
use Rattle.pc_types.specs.Tree.{Tree}
use Rattle.pc_module_rules.specs.FirstAt.{first_flow_at}
use Rattle.pc_module_rules.specs.FlowsOfModules.{coded_flows, FlowsDynamically, FlowsWrongly}
use Rattle.pc_module_rules.proofs.FirstFlows.{is_first}
use Rattle.pc_module_rules.proofs.StandingFlows.{flows_dynamic, wrong_wrong}
use Rattle.pc_detail_texts.specs.Details as detail
use Rattle.pc_detail_texts.specs.Details.{Detail, Sink}
use Rattle.pc_detail_rules.specs.Explains.{Explains}
use Rattle.pc_detail_rules.specs.Facts.{known_under}
use Rattle.pc_detail_rules.specs.Laws.{DynamicDetailsAreFlows, DynamicFlowsAreNotStatic, WrongFlowsAreNotAssignable}
use Rattle.pc_detail_rules.specs.Sinks.{SinkAt, flow_among, sink_among, sinks_of}

-- the two types of a detail of a flow
abbrev types_in_detail : Option (Detail Tree) → Option (Tree × Tree)
types_in_detail (Some (detail.flow s t sink)) = Some (s, t)
types_in_detail _ = None

module _ (s t : Tree) (sink : Sink Tree) where
  with_sink : (a b : Tree) (k : Option (Sink Tree)) → option_map (detail.flow a b) k ≡ Some (detail.flow s t sink)
      → ◌≡◌ {A = Option (Tree × Tree)} (Some (a, b)) (Some (s, t))
  with_sink a b None e = absurd (cc e)
  with_sink a b (Some k) e = ap types_in_detail e

  -- where a flow among sinks has this detail, these are its types
  among_types : (ss : List SinkAt) (p : Place) (types : Option (Tree × Tree))
      → flow_among ss p types ≡ Some (detail.flow s t sink) → types ≡ Some (s, t)
  among_types ss p None e = absurd (cc e)
  among_types ss p (Some f) e = with_sink f.0 f.1 (sink_among ss p f.1) e

  module _ (m : Module) (p : Place) where
    dynamic_there : Explains m (finding p A1) (detail.flow s t sink) → FlowsDynamically m p s t
    dynamic_there h labels l = is_first p s t (coded_flows A1 m labels)
        (among_types (sinks_of m (known_under m labels)) p (first_flow_at p (coded_flows A1 m labels)) (h labels l))

    wrong_there : Explains m (finding p E12) (detail.flow s t sink) → FlowsWrongly m p s t
    wrong_there h labels l = is_first p s t (coded_flows E12 m labels)
        (among_types (sinks_of m (known_under m labels)) p (first_flow_at p (coded_flows E12 m labels)) (h labels l))

pub details_are_flows : DynamicDetailsAreFlows
details_are_flows m p s t sink found h = dynamic_there s t sink m p h

pub not_static : DynamicFlowsAreNotStatic
not_static m p s t sink found h =
    let flow = flows_dynamic m p s t (dynamic_there s t sink m p h) in
    record { assignable = flow.0; not_static = flow.1 }

pub not_assignable : WrongFlowsAreNotAssignable
not_assignable m p s t sink found h = wrong_wrong m p s t (wrong_there s t sink m p h)
