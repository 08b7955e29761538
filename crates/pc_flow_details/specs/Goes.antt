-- Where a value goes, as the program holds it: private to this crate. Own rule of the profile.
use Rattle.std.specs.Prelude.{ℕ, List, Bool as Test, true, false, slice_get}
use Rattle.std.specs.Option.{option_map}
use Rattle.pc_types.specs.Tree.{Tree}
use Rattle.pc_annotations.specs.Text.{class_text}
use Rattle.pc_detail_texts.specs.Details as detail
use Rattle.pc_detail_texts.specs.Details.{Callable, Sink}
use Rattle.pc_detail_facts.specs.declared.called.CallTarget.{CallTarget}
use Rattle.pc_detail_facts.specs.declared.facts.Facts.{Facts}
use Rattle.pc_flow_details.specs.declared.sink.SinkAt.{SinkAt as RustSinkAt}
use Rattle.pc_flow_details.specs.declared.sink.SinkOf.{SinkOf}
use Rattle.pc_flow_details.specs.declared.sink.SinkOf.TheVariants as goes
use Rattle.pc_detail_facts.specs.Annotated.{annotation_lent}
use Rattle.pc_detail_facts.specs.Callees.{IsHeldCalled, called_of, name_of_parameter, parameters_called, takes_names_in}
use Rattle.pc_detail_facts.specs.Held.{IsGivenLent, body_of, module_held, tree_lent}
use Rattle.pc_detail_rules.specs.Nodes.{function_name}
use Rattle.pc_detail_rules.specs.Sinks.{SinkAt}

-- a parameter with this name as a sink; what takes arguments by position only has no names for them
abbrev pub named_sink : (takes_names : Test) → (name : List ℕ) → Callable Tree → Sink Tree
named_sink true word what = detail.a_parameter word what
named_sink false word what = detail.an_argument what

-- the parameter of what is called at a position, as a sink
abbrev pub sink_of_callee : Facts → CallTarget → (position : ℕ) → Sink Tree
sink_of_callee f c k = named_sink (takes_names_in (called_of f c).signature)
    (name_of_parameter (slice_get (parameters_called f c) k)) (called_of f c).what

-- where a value goes, as the rules see it
abbrev pub sink_held : Facts → SinkOf → Sink Tree
sink_held f (goes.Parameter c k) = sink_of_callee f c k
sink_held f (goes.Return b) = detail.a_return (function_name (module_held f) (body_of b))
sink_held f (goes.Field c word) = detail.a_field (class_text (module_held f) c) word.now
sink_held f (goes.Local word) = detail.a_local word.now
sink_held f (goes.LoopTarget word) = detail.a_loop_target word.now
sink_held f (goes.Constant word) = detail.a_constant word.now
sink_held f (goes.ParameterDefault b word) =
    detail.a_parameter_default word.now (function_name (module_held f) (body_of b))
sink_held f (goes.FieldDefault class word) = detail.a_field_default class.now word.now
sink_held f (goes.Item t) = detail.an_item (tree_lent t)
sink_held f (goes.Key t) = detail.a_key (tree_lent t)
sink_held f (goes.Value t) = detail.a_value (tree_lent t)
sink_held f (goes.Index t) = detail.an_index (tree_lent t)
sink_held f (goes.Sought t) = detail.a_sought (tree_lent t)

-- a sink of the value at a place, as the rules see it
abbrev pub sink_at_held : Facts → RustSinkAt → SinkAt
sink_at_held f s = record {
  place = s.place;
  into = option_map tree_lent s.into;
  sink = sink_held f s.sink;
  written = option_map annotation_lent s.written;
}

-- the types of a sink are such as a store may give
abbrev pub IsHeldSink : SinkOf → Type 0
IsHeldSink (goes.Parameter c k) = IsHeldCalled c
IsHeldSink (goes.Item t) = IsGivenLent t
IsHeldSink (goes.Key t) = IsGivenLent t
IsHeldSink (goes.Value t) = IsGivenLent t
IsHeldSink (goes.Index t) = IsGivenLent t
IsHeldSink (goes.Sought t) = IsGivenLent t
IsHeldSink s = Unit {0}
