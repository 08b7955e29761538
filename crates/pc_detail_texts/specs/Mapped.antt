-- A detail as it is told: with its types given in another way, as texts, and its names shortened. Own rule of the profile.
use Rattle.std.specs.Prelude.{map}
use Rattle.std.specs.Option.{option_map}
use Rattle.pc_detail_texts.specs.Details as detail
use Rattle.pc_detail_texts.specs.Details.{FunctionName, Callable, Misfit, Sink, OperatorUse, AttributeHint, NoValue, Elsewhere}
use Rattle.pc_detail_texts.specs.Details.{Early, AnnotationFault, Clash, OverrideFault, Detail}
use Rattle.pc_detail_texts.specs.Shortened.{shortened}

-- the name of a function as it is told
abbrev pub short_function : FunctionName → FunctionName
short_function f = record { class = option_map shortened f.class; name = shortened f.name }

-- a misfit with its names as they are told
abbrev pub short_misfit : Misfit → Misfit
short_misfit (detail.no_parameter name) = detail.no_parameter (shortened name)
short_misfit (detail.given_twice name) = detail.given_twice (shortened name)
short_misfit (detail.missing names others) = detail.missing (map shortened names) others
short_misfit misfit = misfit

-- a hint about an attribute with its class as it is told
abbrev pub short_hint : AttributeHint → AttributeHint
short_hint (detail.below class) = detail.below (shortened class)
short_hint hint = hint

-- the meaning of a name that is not a value, with names as they are told
abbrev pub short_value : NoValue → NoValue
short_value (detail.means_function name) = detail.means_function (shortened name)
short_value (detail.means_class name) = detail.means_class (shortened name)
short_value (detail.means_reserved name) = detail.means_reserved (shortened name)
short_value (detail.means_method f) = detail.means_method (short_function f)

-- the place where a name is bound elsewhere, with names as they are told
abbrev pub short_elsewhere : Elsewhere → Elsewhere
short_elsewhere (detail.in_class class) = detail.in_class (shortened class)
short_elsewhere (detail.in_function f at) = detail.in_function (short_function f) at
short_elsewhere elsewhere = elsewhere

-- a name or callee that is used too early, with its name as it is told
abbrev pub short_early : Early → Early
short_early (detail.early_function name) = detail.early_function (shortened name)
short_early (detail.early_name name at) = detail.early_name (shortened name) at
short_early detail.early_callee = detail.early_callee

module _ {S T : Type 0} (given : S → T) where
  -- a callee as it is told
  abbrev pub map_callable : Callable S → Callable T
  map_callable (detail.called_function f) = detail.called_function (short_function f)
  map_callable (detail.called_class name) = detail.called_class (shortened name)
  map_callable (detail.called_builtin name) = detail.called_builtin (shortened name)
  map_callable (detail.called_member object name) = detail.called_member (given object) (shortened name)
  map_callable (detail.called_value t) = detail.called_value (given t)

  -- a sink as it is told
  abbrev pub map_sink : Sink S → Sink T
  map_sink (detail.a_parameter name c) = detail.a_parameter (shortened name) (map_callable c)
  map_sink (detail.an_argument c) = detail.an_argument (map_callable c)
  map_sink (detail.a_return f) = detail.a_return (short_function f)
  map_sink (detail.a_field class name) = detail.a_field (shortened class) (shortened name)
  map_sink (detail.a_local name) = detail.a_local (shortened name)
  map_sink (detail.a_loop_target name) = detail.a_loop_target (shortened name)
  map_sink (detail.a_constant name) = detail.a_constant (shortened name)
  map_sink (detail.a_parameter_default name f) = detail.a_parameter_default (shortened name) (short_function f)
  map_sink (detail.a_field_default class name) = detail.a_field_default (shortened class) (shortened name)
  map_sink (detail.an_item t) = detail.an_item (given t)
  map_sink (detail.a_key t) = detail.a_key (given t)
  map_sink (detail.a_value t) = detail.a_value (given t)
  map_sink (detail.an_index t) = detail.an_index (given t)
  map_sink (detail.a_sought t) = detail.a_sought (given t)

  -- an operator as it is told
  abbrev pub map_operator : OperatorUse S → OperatorUse T
  map_operator (detail.of_binary o l r) = detail.of_binary o (given l) (given r)
  map_operator (detail.of_comparison o l r) = detail.of_comparison o (given l) (given r)
  map_operator (detail.of_minus t) = detail.of_minus (given t)

  -- the fault of an annotation as it is told
  abbrev pub map_annotation : AnnotationFault S → AnnotationFault T
  map_annotation (detail.unknown_type name) = detail.unknown_type (shortened name)
  map_annotation (detail.no_type name at) = detail.no_type (shortened name) at
  map_annotation (detail.reserved_no_type name) = detail.reserved_no_type (shortened name)
  map_annotation detail.any_not_imported = detail.any_not_imported
  map_annotation (detail.bare name) = detail.bare (shortened name)
  map_annotation (detail.takes_types name takes count) = detail.takes_types (shortened name) takes count
  map_annotation (detail.takes_none name) = detail.takes_none (shortened name)
  map_annotation (detail.key_type t) = detail.key_type (given t)

  -- a clash as it is told
  abbrev pub map_clash : Clash S → Clash T
  map_clash (detail.no_member t) = detail.no_member (given t)
  map_clash (detail.two s t) = detail.two (given s) (given t)

  -- the fault of an override as it is told
  abbrev pub map_override : OverrideFault S → OverrideFault T
  map_override (detail.other_count above here) = detail.other_count above here
  map_override (detail.other_name k above here) = detail.other_name k (shortened above) (shortened here)
  map_override (detail.no_default name) = detail.no_default (shortened name)
  map_override (detail.other_return above here) = detail.other_return (given above) (given here)
  map_override (detail.other_parameter name above here) = detail.other_parameter (shortened name) (given above) (given here)

  -- a detail as it is told
  abbrev pub map_detail : Detail S → Detail T
  map_detail (detail.flow from into sink) = detail.flow (given from) (given into) (map_sink sink)
  map_detail (detail.operator o) = detail.operator (map_operator o)
  map_detail (detail.call c misfit) = detail.call (map_callable c) (short_misfit misfit)
  map_detail (detail.attribute t none name hint) = detail.attribute (given t) (map given none) (shortened name) (short_hint hint)
  map_detail (detail.index t none key) = detail.index (given t) (map given none) (given key)
  map_detail (detail.store t none) = detail.store (given t) (map given none)
  map_detail (detail.iterate t none) = detail.iterate (given t) (map given none)
  map_detail (detail.iterate_range misfit) = detail.iterate_range (short_misfit misfit)
  map_detail (detail.contain s t none) = detail.contain (given s) (given t) (map given none)
  map_detail (detail.not_a_value v) = detail.not_a_value (short_value v)
  map_detail (detail.no_return f t) = detail.no_return (short_function f) (given t)
  map_detail (detail.keys ts) = detail.keys (map given ts)
  map_detail (detail.method_store f) = detail.method_store (short_function f)
  map_detail (detail.no_test name) = detail.no_test (option_map shortened name)
  map_detail (detail.size n) = detail.size n
  map_detail (detail.length t none) = detail.length (given t) (map given none)
  map_detail detail.range_elsewhere = detail.range_elsewhere
  map_detail (detail.list_test name t) = detail.list_test (shortened name) (given t)
  map_detail (detail.override f at fault) = detail.override (short_function f) at (map_override fault)
  map_detail (detail.twice name earlier) = detail.twice (shortened name) earlier
  map_detail (detail.unknown_name name elsewhere) = detail.unknown_name (shortened name) (short_elsewhere elsewhere)
  map_detail (detail.early e) = detail.early (short_early e)
  map_detail (detail.unassigned name bound) = detail.unassigned (shortened name) bound
  map_detail (detail.outside_loop word) = detail.outside_loop word
  map_detail (detail.member name class at) = detail.member (shortened name) (shortened class) at
  map_detail (detail.base name later) = detail.base (shortened name) later
  map_detail (detail.field_order name class field at) = detail.field_order (shortened name) (shortened class) (shortened field) at
  map_detail (detail.annotation fault) = detail.annotation (map_annotation fault)
  map_detail (detail.union clash) = detail.union (map_clash clash)
  map_detail (detail.late_annotation name at) = detail.late_annotation (shortened name) at
  map_detail (detail.main why) = detail.main why
  map_detail (detail.reserved name) = detail.reserved (shortened name)
  map_detail (detail.unreachable word at) = detail.unreachable word at
  map_detail (detail.default_order name parameter at) = detail.default_order (shortened name) (shortened parameter) at
