-- The details of the program's values, with types as texts. Own rule of the profile.
use Rattle.std.specs.Prelude.{List, map}
use Rattle.std.specs.Option.{option_map}
use Rattle.std.specs.Rc.{rc_str_bytes}
use Rattle.std.specs.declared.rc.RcStr.{RcStr}
use Rattle.std.specs.declared.alloc.Global.{Global}
use Rattle.pc_detail_texts.specs.declared.details.AnnotationFault.{AnnotationFault as RustAnnotationFault}
use Rattle.pc_detail_texts.specs.declared.details.AnnotationFault.TheVariants as rust_annotation
use Rattle.pc_detail_texts.specs.declared.details.AttributeHint.{AttributeHint as RustHint}
use Rattle.pc_detail_texts.specs.declared.details.AttributeHint.TheVariants as rust_hint
use Rattle.pc_detail_texts.specs.declared.details.Callable.{Callable as RustCallable}
use Rattle.pc_detail_texts.specs.declared.details.Callable.TheVariants as rust_callable
use Rattle.pc_detail_texts.specs.declared.details.Clash.{Clash as RustClash}
use Rattle.pc_detail_texts.specs.declared.details.Clash.TheVariants as rust_clash
use Rattle.pc_detail_texts.specs.declared.details.Detail.{Detail as RustDetail}
use Rattle.pc_detail_texts.specs.declared.details.Detail.TheVariants as rust
use Rattle.pc_detail_texts.specs.declared.details.Early.{Early as RustEarly}
use Rattle.pc_detail_texts.specs.declared.details.Early.TheVariants as rust_early
use Rattle.pc_detail_texts.specs.declared.details.Earlier.{Earlier as RustEarlier}
use Rattle.pc_detail_texts.specs.declared.details.Earlier.TheVariants as rust_earlier
use Rattle.pc_detail_texts.specs.declared.details.Elsewhere.{Elsewhere as RustElsewhere}
use Rattle.pc_detail_texts.specs.declared.details.Elsewhere.TheVariants as rust_elsewhere
use Rattle.pc_detail_texts.specs.declared.details.FunctionName.{FunctionName as RustFunctionName}
use Rattle.pc_detail_texts.specs.declared.details.Leaving.{Leaving as RustLeaving}
use Rattle.pc_detail_texts.specs.declared.details.Leaving.TheVariants as rust_leaving
use Rattle.pc_detail_texts.specs.declared.details.Misfit.{Misfit as RustMisfit}
use Rattle.pc_detail_texts.specs.declared.details.Misfit.TheVariants as rust_misfit
use Rattle.pc_detail_texts.specs.declared.details.NoMain.{NoMain as RustNoMain}
use Rattle.pc_detail_texts.specs.declared.details.NoMain.TheVariants as rust_main
use Rattle.pc_detail_texts.specs.declared.details.NoValue.{NoValue as RustNoValue}
use Rattle.pc_detail_texts.specs.declared.details.NoValue.TheVariants as rust_value
use Rattle.pc_detail_texts.specs.declared.details.OperatorUse.{OperatorUse as RustOperatorUse}
use Rattle.pc_detail_texts.specs.declared.details.OperatorUse.TheVariants as rust_operator
use Rattle.pc_detail_texts.specs.declared.details.OverrideFault.{OverrideFault as RustOverrideFault}
use Rattle.pc_detail_texts.specs.declared.details.OverrideFault.TheVariants as rust_override
use Rattle.pc_detail_texts.specs.declared.details.RuleFault.{RuleFault}
use Rattle.pc_detail_texts.specs.declared.details.RuleFault.TheVariants as rule
use Rattle.pc_detail_texts.specs.declared.details.Sink.{Sink as RustSink}
use Rattle.pc_detail_texts.specs.declared.details.Sink.TheVariants as rust_sink
use Rattle.pc_detail_texts.specs.declared.details.Holder.{Holder}
use Rattle.pc_detail_texts.specs.declared.details.Holder.TheVariants as holder
use Rattle.pc_detail_texts.specs.declared.details.TypeFault.{TypeFault}
use Rattle.pc_detail_texts.specs.declared.details.TypeFault.TheVariants as type
use Rattle.pc_detail_texts.specs.Details as detail
use Rattle.pc_detail_texts.specs.Details.{FunctionName, Callable, Misfit, Sink, OperatorUse, AttributeHint, NoValue}
use Rattle.pc_detail_texts.specs.Details.{Elsewhere, Early, AnnotationFault, Clash, OverrideFault, Earlier, NoMain}
use Rattle.pc_detail_texts.specs.Details.{Leaving, Detail}
use Rattle.pc_detail_texts.specs.Sentences.{Words}

-- the bytes of a shared text
abbrev pub words : RcStr Global → Words
words t = rc_str_bytes t

-- the texts of shared texts, in order
abbrev pub all_words : List (RcStr Global) → List Words
all_words ts = map words ts

-- the name of a function
abbrev pub function_of_value : RustFunctionName → FunctionName
function_of_value f = record { class = option_map words f.class; name = words f.name }

-- a callee
abbrev pub callable_of_value : RustCallable → Callable Words
callable_of_value (rust_callable.Function f) = detail.called_function (function_of_value f)
callable_of_value (rust_callable.Class n) = detail.called_class (words n)
callable_of_value (rust_callable.Builtin n) = detail.called_builtin (words n)
callable_of_value (rust_callable.Member t n) = detail.called_member (words t) (words n)
callable_of_value (rust_callable.Value t) = detail.called_value (words t)

-- a misfit
abbrev pub misfit_of_value : RustMisfit → Misfit
misfit_of_value (rust_misfit.TooMany c) = detail.too_many c.takes c.given
misfit_of_value (rust_misfit.TooFew c) = detail.too_few c.takes c.given
misfit_of_value rust_misfit.ByPositionOnly = detail.by_position_only
misfit_of_value (rust_misfit.NoParameter n) = detail.no_parameter (words n)
misfit_of_value (rust_misfit.GivenTwice n) = detail.given_twice (words n)
misfit_of_value (rust_misfit.Missing ns others) = detail.missing (all_words ns.items) others
misfit_of_value rust_misfit.NotCallable = detail.not_callable

-- a sink that keeps a value
abbrev pub holder_of_value : Holder → Sink Words
holder_of_value (holder.Parameter n c) = detail.a_parameter (words n) (callable_of_value c)
holder_of_value (holder.Field m) = detail.a_field (words m.class) (words m.name)
holder_of_value (holder.Local n) = detail.a_local (words n)
holder_of_value (holder.LoopTarget n) = detail.a_loop_target (words n)
holder_of_value (holder.Constant n) = detail.a_constant (words n)
holder_of_value (holder.ParameterDefault n f) = detail.a_parameter_default (words n) (function_of_value f)
holder_of_value (holder.FieldDefault m) = detail.a_field_default (words m.class) (words m.name)
holder_of_value (holder.Item t) = detail.an_item (words t)
holder_of_value (holder.Key t) = detail.a_key (words t)
holder_of_value (holder.Value t) = detail.a_value (words t)
holder_of_value (holder.Index t) = detail.an_index (words t)

-- a sink
abbrev pub sink_of_value : RustSink → Sink Words
sink_of_value (rust_sink.Argument c) = detail.an_argument (callable_of_value c)
sink_of_value (rust_sink.Return f) = detail.a_return (function_of_value f)
sink_of_value (rust_sink.Sought t) = detail.a_sought (words t)
sink_of_value (rust_sink.Holder s) = holder_of_value s

-- an operator with the types of its operands
abbrev pub operator_of_value : RustOperatorUse → OperatorUse Words
operator_of_value (rust_operator.Binary o l r) = detail.of_binary o (words l) (words r)
operator_of_value (rust_operator.Comparison o l r) = detail.of_comparison o (words l) (words r)
operator_of_value (rust_operator.Minus t) = detail.of_minus (words t)

-- the hint about an attribute
abbrev pub hint_of_value : RustHint → AttributeHint
hint_of_value rust_hint.Nothing = detail.no_hint
hint_of_value rust_hint.OnlyCalled = detail.only_called
hint_of_value (rust_hint.Below n) = detail.below (words n)

-- the meaning of a name that is not a value
abbrev pub no_value_of_value : RustNoValue → NoValue
no_value_of_value (rust_value.Function n) = detail.means_function (words n)
no_value_of_value (rust_value.Class n) = detail.means_class (words n)
no_value_of_value (rust_value.Reserved n) = detail.means_reserved (words n)
no_value_of_value (rust_value.Method f) = detail.means_method (function_of_value f)

-- the place where a name is bound elsewhere
abbrev pub elsewhere_of_value : RustElsewhere → Elsewhere
elsewhere_of_value rust_elsewhere.Nowhere = detail.nowhere
elsewhere_of_value (rust_elsewhere.InClass n) = detail.in_class (words n)
elsewhere_of_value (rust_elsewhere.InFunction f at) = detail.in_function (function_of_value f) at
elsewhere_of_value rust_elsewhere.NotImported = detail.not_imported

-- a name or callee that is used too early
abbrev pub early_of_value : RustEarly → Early
early_of_value (rust_early.Function n) = detail.early_function (words n)
early_of_value (rust_early.Name n at) = detail.early_name (words n) at
early_of_value rust_early.Callee = detail.early_callee

-- the reason why an annotation is not a type
abbrev pub annotation_of_value : RustAnnotationFault → AnnotationFault Words
annotation_of_value (rust_annotation.UnknownType n) = detail.unknown_type (words n)
annotation_of_value (rust_annotation.NoType n at) = detail.no_type (words n) at
annotation_of_value (rust_annotation.ReservedNoType n) = detail.reserved_no_type (words n)
annotation_of_value rust_annotation.AnyNotImported = detail.any_not_imported
annotation_of_value (rust_annotation.Bare n) = detail.bare (words n)
annotation_of_value (rust_annotation.TakesTypes n c) = detail.takes_types (words n) c.takes c.given
annotation_of_value (rust_annotation.TakesNone n) = detail.takes_none (words n)
annotation_of_value (rust_annotation.KeyType t) = detail.key_type (words t)

-- the reason why parts do not make a union
abbrev pub clash_of_value : RustClash → Clash Words
clash_of_value (rust_clash.NoMember t) = detail.no_member (words t)
clash_of_value (rust_clash.Two s t) = detail.two (words s) (words t)

-- the part in which two methods differ
abbrev pub override_of_value : RustOverrideFault → OverrideFault Words
override_of_value (rust_override.OtherCount above here) = detail.other_count above here
override_of_value (rust_override.OtherName k above here) = detail.other_name k (words above) (words here)
override_of_value (rust_override.NoDefault n) = detail.no_default (words n)
override_of_value (rust_override.OtherReturn t) = detail.other_return (words t.above) (words t.here)
override_of_value (rust_override.OtherParameter n t) = detail.other_parameter (words n) (words t.above) (words t.here)

-- an earlier binding
abbrev pub earlier_of_value : RustEarlier → Earlier
earlier_of_value (rust_earlier.Item at) = detail.earlier_item at
earlier_of_value (rust_earlier.Parameter at) = detail.earlier_parameter at
earlier_of_value rust_earlier.Receiver = detail.earlier_self
earlier_of_value (rust_earlier.Argument at) = detail.earlier_argument at

-- the reason why there is no `main`
abbrev pub main_of_value : RustNoMain → NoMain
main_of_value rust_main.NoSuchName = detail.no_such_name
main_of_value (rust_main.HasParameters at) = detail.has_parameters at
main_of_value (rust_main.IsNoFunction at) = detail.is_no_function at

-- a statement that leaves its suite
abbrev pub leaving_of_value : RustLeaving → Leaving
leaving_of_value rust_leaving.Return = detail.leaves_by_return
leaving_of_value rust_leaving.Break = detail.leaves_by_break
leaving_of_value rust_leaving.Continue = detail.leaves_by_continue
leaving_of_value rust_leaving.If = detail.leaves_by_if

-- a fault of types
abbrev pub type_fault_of_value : TypeFault → Detail Words
type_fault_of_value (type.Flow f) = detail.flow (words f.from) (words f.into) (sink_of_value f.sink)
type_fault_of_value (type.Operator o) = detail.operator (operator_of_value o)
type_fault_of_value (type.Call c misfit) = detail.call (callable_of_value c) (misfit_of_value misfit)
type_fault_of_value (type.Attribute a) =
    detail.attribute (words a.of.object) (all_words a.of.lacking.items) (words a.name) (hint_of_value a.hint)
type_fault_of_value (type.Index u key) = detail.index (words u.object) (all_words u.lacking.items) (words key)
type_fault_of_value (type.Store u) = detail.store (words u.object) (all_words u.lacking.items)
type_fault_of_value (type.Iterate u) = detail.iterate (words u.object) (all_words u.lacking.items)
type_fault_of_value (type.IterateRange misfit) = detail.iterate_range (misfit_of_value misfit)
type_fault_of_value (type.Contain sought u) = detail.contain (words sought) (words u.object) (all_words u.lacking.items)
type_fault_of_value (type.Length u) = detail.length (words u.object) (all_words u.lacking.items)
type_fault_of_value (type.ListTest n t) = detail.list_test (words n) (words t)
type_fault_of_value (type.Override f at fault) = detail.override (function_of_value f) at (override_of_value fault)

-- a fault against a rule
abbrev pub rule_fault_of_value : RuleFault → Detail Words
rule_fault_of_value (rule.NotAValue v) = detail.not_a_value (no_value_of_value v)
rule_fault_of_value (rule.NoReturn f t) = detail.no_return (function_of_value f) (words t)
rule_fault_of_value (rule.Keys ts) = detail.keys (all_words ts.items)
rule_fault_of_value (rule.MethodStore f) = detail.method_store (function_of_value f)
rule_fault_of_value (rule.NoTest n) = detail.no_test (option_map words n)
rule_fault_of_value (rule.Size n) = detail.size n
rule_fault_of_value rule.RangeElsewhere = detail.range_elsewhere
rule_fault_of_value (rule.Twice n e) = detail.twice (words n) (earlier_of_value e)
rule_fault_of_value (rule.UnknownName n e) = detail.unknown_name (words n) (elsewhere_of_value e)
rule_fault_of_value (rule.Early e) = detail.early (early_of_value e)
rule_fault_of_value (rule.Unassigned n bound) = detail.unassigned (words n) bound.items
rule_fault_of_value (rule.OutsideLoop w) = detail.outside_loop (leaving_of_value w)
rule_fault_of_value (rule.Member m at) = detail.member (words m.name) (words m.class) at
rule_fault_of_value (rule.Base n later) = detail.base (words n) later
rule_fault_of_value (rule.FieldOrder l class) = detail.field_order (words l.name) (words class) (words l.before) l.at
rule_fault_of_value (rule.Annotation fault) = detail.annotation (annotation_of_value fault)
rule_fault_of_value (rule.Union clash) = detail.union (clash_of_value clash)
rule_fault_of_value (rule.LateAnnotation n at) = detail.late_annotation (words n) at
rule_fault_of_value (rule.Main why) = detail.main (main_of_value why)
rule_fault_of_value (rule.Reserved n) = detail.reserved (words n)
rule_fault_of_value (rule.Unreachable w at) = detail.unreachable (leaving_of_value w) at
rule_fault_of_value (rule.DefaultOrder l) = detail.default_order (words l.name) (words l.before) l.at

-- a detail
abbrev pub detail_of_value : RustDetail → Detail Words
detail_of_value (rust.Types fault) = type_fault_of_value fault
detail_of_value (rust.Rule fault) = rule_fault_of_value fault
