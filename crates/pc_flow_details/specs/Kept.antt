-- The flows of a module with their sinks, as the program keeps them by place: private to this crate. Own rule of the
-- profile.
use Rattle.std.specs.Prelude.{List, map, flat_map, Option, false}
use Rattle.std.specs.Option.{option_map, option_or}
use Rattle.std.specs.BTreeMap.{BTreeMap, get}
use Rattle.pc_source.specs.declared.place.Place.{Place}
use Rattle.pc_tree.specs.declared.code.Code.{Code}
use Rattle.pc_tree.specs.declared.code.Code.TheVariants.{E12}
use Rattle.pc_tree.specs.Tree.{Expr}
use Rattle.pc_scope.specs.declared.resolution.Owner.{Owner}
use Rattle.pc_scope.specs.Bindings.{Body}
use Rattle.pc_scope.specs.Expressions.{exprs_in_all, parts_in}
use Rattle.pc_notes.specs.Texts.{place_cmp}
use Rattle.pc_detail_texts.specs.Details.{Detail}
use Rattle.pc_detail_texts.specs.Sentences.{Words}
use Rattle.pc_detail_texts.specs.Shown.{type_fault_of_value}
use Rattle.pc_detail_texts.specs.declared.details.Flow.{Flow}
use Rattle.pc_detail_texts.specs.declared.details.TypeFault.TheVariants as type
use Rattle.pc_detail_facts.specs.declared.facts.Facts.{Facts}
use Rattle.pc_flow_details.specs.declared.sink.Sinks.{Sinks}
use Rattle.pc_detail_facts.specs.Held.{known_held, module_held}
use Rattle.pc_detail_rules.specs.Nodes.{owned}
use Rattle.pc_detail_rules.specs.Sinks.{SinkAt, sinks_in}
use Rattle.pc_detail_rules.specs.ToldTypes.{told_among}

-- the detail of a kept flow
abbrev pub flow_of_value : Flow → Detail Words
flow_of_value w = type_fault_of_value (type.Flow w)

-- the detail of the flow that is kept at a place, if there is one
abbrev pub flow_kept : BTreeMap Place Flow → Place → Option (Detail Words)
flow_kept kept p = option_map flow_of_value (get place_cmp kept p)

-- details of flows by code and place, with types as texts
abbrev pub FlowDetails : Type 0
FlowDetails = Code → Place → Option (Detail Words)

-- the flows that are kept: the wrong ones, or else the dynamic ones
unfoldable pub flows_kept : Sinks → Code → Place → Option (Detail Words)
flows_kept s E12 p = flow_kept s.wrong p
flows_kept s c p = flow_kept s.dynamic p

-- the flows of a module that some sinks take, each with the first sink that takes it
unfoldable pub flows_to_sinks : Facts → List SinkAt → Code → Place → Option (Detail Words)
flows_to_sinks f ss c p = told_among (module_held f) ss p ((known_held f).flows c p)

-- the first flows, and the others where there is none of the first
unfoldable pub first_of_both : (first others : FlowDetails) → Code → Place → Option (Detail Words)
first_of_both a b c p = option_or (a c p) (b c p)

-- the sinks of what some expressions of this function take
unfoldable pub taken_in : Facts → Owner → List Expr → List SinkAt
taken_in f owner es = flat_map (sinks_in (module_held f) (known_held f)) (map (owned owner) es)

-- the sinks of what some expressions of this function and their parts take
unfoldable pub taken_below : Facts → Owner → List Expr → List SinkAt
taken_below f owner es = taken_in f owner (flat_map (parts_in false) es)

-- the sinks of what the expressions of a function or method take
abbrev pub taken_in_body : Facts → Body → List SinkAt
taken_in_body f b = taken_below f b.owner (exprs_in_all false b.function.body)
