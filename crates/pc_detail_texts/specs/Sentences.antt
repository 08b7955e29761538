-- The sentence of a detail, with types as texts. Own rule of the profile.
use Rattle.std.specs.Prelude.{ℕ, ◌+◌, ◌-◌, ◌==◌, ◌&&◌, ◌||◌, Bool, true, false, List, [], ◌∷◌, ◌++◌, flat_map}
use Rattle.std.specs.Prelude.{if◌then◌else◌, Option, Some, None, codes, bytes_eq}
use Rattle.std.specs.Fmt.{decimal}
use Rattle.pc_tree.specs.declared.tree.BinaryOperator.{BinaryOperator}
use Rattle.pc_tree.specs.declared.tree.BinaryOperator.TheVariants.{Add, Sub, Mul, FloorDiv, Mod}
use Rattle.pc_tree.specs.declared.tree.ComparisonOperator.{ComparisonOperator}
use Rattle.pc_tree.specs.declared.tree.ComparisonOperator.TheVariants as comparison
use Rattle.pc_tree.specs.declared.code.Code.{Code}
use Rattle.pc_tree.specs.Code.{is_error}
use Rattle.pc_detail_texts.specs.Details.{FunctionName, Callable, called_function, called_class, called_builtin}
use Rattle.pc_detail_texts.specs.Details.{called_member, called_value, Misfit, too_many, too_few, by_position_only}
use Rattle.pc_detail_texts.specs.Details.{no_parameter, given_twice, missing, not_callable, Sink, a_parameter}
use Rattle.pc_detail_texts.specs.Details.{an_argument, a_return, a_field, a_local, a_loop_target, a_constant}
use Rattle.pc_detail_texts.specs.Details.{a_parameter_default}
use Rattle.pc_detail_texts.specs.Details.{a_field_default, an_item, a_key, a_value, an_index, a_sought, OperatorUse}
use Rattle.pc_detail_texts.specs.Details.{of_binary, of_comparison, of_minus, AttributeHint, no_hint, only_called, below}
use Rattle.pc_detail_texts.specs.Details.{NoValue, means_function, means_class, means_reserved, means_method, Elsewhere}
use Rattle.pc_detail_texts.specs.Details.{nowhere, in_class, in_function, not_imported, Early, early_function, early_name}
use Rattle.pc_detail_texts.specs.Details.{early_callee, AnnotationFault, unknown_type, no_type, reserved_no_type}
use Rattle.pc_detail_texts.specs.Details.{any_not_imported, bare, takes_types, takes_none, key_type, Clash, no_member}
use Rattle.pc_detail_texts.specs.Details.{two, OverrideFault, other_count, other_name, no_default, other_return}
use Rattle.pc_detail_texts.specs.Details.{other_parameter, Earlier, earlier_item, earlier_parameter, earlier_self}
use Rattle.pc_detail_texts.specs.Details.{earlier_argument, NoMain, no_such_name, has_parameters, is_no_function, Leaving}
use Rattle.pc_detail_texts.specs.Details.{leaves_by_return, leaves_by_break, leaves_by_continue, leaves_by_if, Detail}
use Rattle.pc_detail_texts.specs.Details.{flow, operator, call, attribute, index, store, iterate, iterate_range, contain}
use Rattle.pc_detail_texts.specs.Details.{not_a_value, no_return, keys, method_store, no_test, size, length}
use Rattle.pc_detail_texts.specs.Details.{range_elsewhere, list_test, override, twice, unknown_name, early, unassigned}
use Rattle.pc_detail_texts.specs.Details.{outside_loop, member, base, field_order, annotation, union, late_annotation}
use Rattle.pc_detail_texts.specs.Details.{main, reserved, unreachable, default_order}

-- a text
abbrev pub Words : Type 0
Words = List ℕ

-- texts, each after a separator
abbrev pub each_after : Words → List Words → Words
each_after between texts = flat_map (λ t. between ++ t) texts

-- texts with a separator between them
abbrev pub joined_by : Words → List Words → Words
joined_by between [] = []
joined_by between (t ∷ ts) = t ++ each_after between ts

-- ---- names and operators

-- a name, with its class and a point before it if it has one
abbrev pub name_in_class : Option Words → Words → Words
name_in_class None name = name
name_in_class (Some class) name = class ++ (codes "." ++ name)

-- the name of a function, with its class and a point before it if it is a method
abbrev pub function_text : FunctionName → Words
function_text f = name_in_class f.class f.name

-- the callee of a call, in words
abbrev pub callable_text : Callable Words → Words
callable_text (called_function f) = function_text f
callable_text (called_class name) = name
callable_text (called_builtin name) = name
callable_text (called_member object name) = name ++ (codes " of " ++ object)
callable_text (called_value type) = codes "a value of type " ++ type

-- the sign of a binary operator
abbrev pub binary_text : BinaryOperator → Words
binary_text Add = codes "+"
binary_text Sub = codes "-"
binary_text Mul = codes "*"
binary_text FloorDiv = codes "//"
binary_text Mod = codes "%"

-- the sign or the words of a comparison
abbrev pub comparison_text : ComparisonOperator → Words
comparison_text comparison.Equal = codes "=="
comparison_text comparison.NotEqual = codes "!="
comparison_text comparison.Less = codes "<"
comparison_text comparison.LessEqual = codes "<="
comparison_text comparison.Greater = codes ">"
comparison_text comparison.GreaterEqual = codes ">="
comparison_text comparison.In = codes "in"
comparison_text comparison.NotIn = codes "not in"

-- the number of open brackets after a byte
abbrev pub depth_after : (byte depth : ℕ) → ℕ
depth_after byte depth = if byte == 91 then depth + 1 else if byte == 93 then depth - 1 else depth

-- a text has a bar outside brackets, given the number of brackets open before it
abbrev pub has_bar : (depth : ℕ) → Words → Bool
has_bar depth [] = false
has_bar depth (byte ∷ bytes) = (byte == 124 && depth == 0) || has_bar (depth_after byte depth) bytes

-- the type of an operand, in parentheses if it is a union
abbrev pub operand_text : Words → Words
operand_text type = if has_bar 0 type then codes "(" ++ (type ++ codes ")") else type

-- a sign between the types of its operands
abbrev pub between_text : (left sign right : Words) → Words
between_text left sign right = operand_text left ++ (codes " " ++ (sign ++ (codes " " ++ operand_text right)))

-- an operator between the types of its operands
abbrev pub operation_text : OperatorUse Words → Words
operation_text (of_binary o l r) = between_text l (binary_text o) r
operation_text (of_comparison o l r) = between_text l (comparison_text o) r
operation_text (of_minus t) = codes "-" ++ operand_text t

-- a name with its type, as an annotation writes it
abbrev pub typed_text : (name type : Words) → Words
typed_text name type = name ++ (codes ": " ++ type)

-- a name with its type, and its owner
abbrev pub typed_of : (name type owner : Words) → Words
typed_of name type owner = name ++ (codes ": " ++ (type ++ (codes " of " ++ owner)))

-- a thing and its owner, with `of` between them
abbrev pub of_text : (thing owner : Words) → Words
of_text thing owner = thing ++ (codes " of " ++ owner)

-- ---- flows

-- the place where a value of this type goes, in words
abbrev pub sink_text : (into : Words) → Sink Words → Words
sink_text into (a_parameter name c) = codes "parameter " ++ typed_of name into (callable_text c)
sink_text into (an_argument c) = codes "the argument of " ++ typed_text (callable_text c) into
sink_text into (a_return f) = codes "the return of " ++ typed_text (function_text f) into
sink_text into (a_field class name) = codes "field " ++ typed_of name into class
sink_text into (a_local name) = codes "local " ++ typed_text name into
sink_text into (a_loop_target name) = codes "loop variable " ++ typed_text name into
sink_text into (a_constant name) = codes "constant " ++ typed_text name into
sink_text into (a_parameter_default name f) = codes "parameter " ++ typed_of name into (function_text f)
sink_text into (a_field_default class name) = codes "field " ++ typed_of name into class
sink_text into (an_item object) = of_text (codes "an item") object
sink_text into (a_key object) = of_text (codes "a key") object
sink_text into (a_value object) = of_text (codes "a value") object
sink_text into (an_index object) = of_text (codes "an index") object
sink_text into (a_sought object) = of_text (codes "an item") object

-- a verb, the type of the value that is its object, and the preposition before the sink
abbrev pub done_with : (verb from preposition : Words) → Words
done_with verb from preposition = verb ++ (codes " " ++ (from ++ (codes " " ++ (preposition ++ codes " "))))

-- the beginning of the sentence of a flow: the verb and the type of the value, up to the sink
abbrev pub flow_lead : (from : Words) → Sink Words → Words
flow_lead from (a_parameter name c) = done_with (codes "pass") from (codes "for")
flow_lead from (an_argument c) = done_with (codes "pass") from (codes "to")
flow_lead from (a_return f) = done_with (codes "return") from (codes "from")
flow_lead from (a_field class name) = done_with (codes "assign") from (codes "to")
flow_lead from (a_local name) = done_with (codes "assign") from (codes "to")
flow_lead from (a_loop_target name) = done_with (codes "assign") from (codes "to")
flow_lead from (a_constant name) = done_with (codes "assign") from (codes "to")
flow_lead from (a_parameter_default name f) = done_with (codes "use") from (codes "as default of")
flow_lead from (a_field_default class name) = done_with (codes "use") from (codes "as default of")
flow_lead from (an_item object) = done_with (codes "use") from (codes "as")
flow_lead from (a_key object) = done_with (codes "use") from (codes "as")
flow_lead from (a_value object) = done_with (codes "use") from (codes "as")
flow_lead from (an_index object) = done_with (codes "use") from (codes "as")
flow_lead from (a_sought object) = done_with (codes "look for") from (codes "in")

-- the end of the sentence of a flow: the sink
abbrev pub flow_end : (into : Words) → Sink Words → Words
flow_end into (an_argument c) = callable_text c ++ (codes ", which takes " ++ into)
flow_end into (a_return f) = function_text f ++ (codes ", which returns " ++ into)
flow_end into (a_sought object) = object
flow_end into sink = sink_text into sink

-- the sentence of a flow, after `cannot`: its beginning, and then its sink
abbrev pub flow_sentence : (from into : Words) → Sink Words → Words
flow_sentence from into sink = flow_lead from sink ++ flow_end into sink

-- ---- calls

-- a number of things, with an `s` unless there is one
abbrev pub counted : ℕ → Words → Words
counted n thing =
    if n == 0 then codes "no " ++ (thing ++ codes "s")
    else if n == 1 then codes "1 " ++ thing
    else decimal n ++ (codes " " ++ (thing ++ codes "s"))

-- the number of arguments by position that a callee takes, and the number that it is given
abbrev pub count_text : (callee : Words) → (bound : Words) → (takes given : ℕ) → Words
count_text callee bound takes given =
    callee ++ (codes " takes " ++ (bound ++ (counted takes (codes "argument")
    ++ (codes " by position and is given " ++ decimal given))))

-- the words `at most`, if any arguments are taken
abbrev pub at_most : (takes : ℕ) → Words
at_most takes = if takes == 0 then [] else codes "at most "

-- the words before the names of parameters without an argument
abbrev pub missing_lead : List Words → Words
missing_lead (name ∷ []) = codes "missing argument "
missing_lead names = codes "missing arguments "

-- the number of further things, if there are any
abbrev pub others_text : ℕ → Words
others_text n = if n == 0 then [] else codes " and " ++ (decimal n ++ codes " more")

-- the reason why the arguments of a call do not suit its callee, in words
abbrev pub misfit_text : (callee : Words) → Misfit → Words
misfit_text callee (too_many takes given) = count_text callee (at_most takes) takes given
misfit_text callee (too_few takes given) = count_text callee [] takes given
misfit_text callee by_position_only = callee ++ codes " takes no arguments by name"
misfit_text callee (no_parameter name) = callee ++ (codes " has no parameter " ++ name)
misfit_text callee (given_twice name) = codes "two arguments for parameter " ++ of_text name callee
misfit_text callee (missing names others) =
    missing_lead names ++ (joined_by (codes ", ") names ++ (others_text others ++ (codes " of " ++ callee)))
misfit_text callee not_callable = callee ++ codes " cannot be called"

-- ---- members

-- the types at fault are the whole type, or there are none
abbrev pub are_whole : (whole : Words) → List Words → Bool
are_whole whole [] = true
are_whole whole (t ∷ []) = bytes_eq whole t
are_whole whole (t ∷ u ∷ types) = false

-- the types at fault, unless they are the whole type
abbrev pub where_it_is : (whole : Words) → List Words → Words
where_it_is whole types =
    if are_whole whole types then [] else codes " where it is " ++ joined_by (codes " or ") types

-- the hint about a missing attribute, in words
abbrev pub hint_text : (name : Words) → AttributeHint → Words
hint_text name no_hint = []
hint_text name only_called = codes ", but a method " ++ (name ++ codes " to call")
hint_text name (below class) = codes ", but its subclass " ++ (class ++ codes " has")

-- ---- names

-- the meaning of a name that is not a value, in words
abbrev pub meaning_text : NoValue → Words
meaning_text (means_function name) = codes "function " ++ name
meaning_text (means_class name) = codes "class " ++ name
meaning_text (means_reserved name) = codes "the reserved name " ++ name
meaning_text (means_method f) = codes "method " ++ function_text f

-- the place where an unknown name is bound elsewhere, in words
abbrev pub elsewhere_text : (name : Words) → Elsewhere → Words
elsewhere_text name nowhere = []
elsewhere_text name (in_class class) = codes ", but " ++ (class ++ (codes " has a member " ++ name))
elsewhere_text name (in_function f at) = codes ", but " ++ (function_text f ++ (codes " has a local " ++ name))
elsewhere_text name not_imported = codes ", since no header imports it"

-- the name or callee that an initializer uses too early, in words
abbrev pub early_text : Early → Words
early_text (early_function name) = codes "a constant cannot use function " ++ name
early_text (early_name name at) = name ++ codes " is not defined yet"
early_text early_callee = codes "a constant cannot call a method or a value"

-- the reason why an annotation is not a type, in words
abbrev pub annotation_text : AnnotationFault Words → Words
annotation_text (unknown_type name) = codes "no class is named " ++ name
annotation_text (no_type name at) = name ++ codes " is no class"
annotation_text (reserved_no_type name) = name ++ codes " is no type"
annotation_text any_not_imported = codes "Any is not imported"
annotation_text (bare name) = name ++ codes " needs the types of what it holds"
annotation_text (takes_types name takes given) =
    name ++ (codes " takes " ++ (counted takes (codes "type") ++ (codes " and is given " ++ decimal given)))
annotation_text (takes_none name) = name ++ codes " takes no types in brackets"
annotation_text (key_type type) = codes "a key of a dict must be int or str, not " ++ type

-- the reason why parts do not make a union, in words
abbrev pub clash_text : Clash Words → Words
clash_text (no_member type) = type ++ codes " cannot be in a union"
clash_text (two first second) = first ++ (codes " and " ++ (second ++ codes " cannot be in one union"))

-- the part in which two methods differ, in words
abbrev pub override_text : (above : Words) → OverrideFault Words → Words
override_text method (other_count above here) =
    method ++ (codes " has " ++ (counted above (codes "parameter") ++ (codes ", not " ++ decimal here)))
override_text method (other_name position above here) =
    codes "parameter " ++ of_text (decimal position) (method ++ (codes " is named "
    ++ (above ++ (codes ", not " ++ here))))
override_text method (no_default name) = codes "parameter " ++ of_text name (method ++ codes " has a default")
override_text method (other_return above here) =
    method ++ (codes " returns " ++ (above ++ (codes ", not " ++ here)))
override_text method (other_parameter name above here) =
    codes "parameter " ++ of_text name (method ++ (codes " takes " ++ (above ++ (codes ", not " ++ here))))

-- the earlier binding of a repeated name, in words
abbrev pub earlier_text : Earlier → Words
earlier_text (earlier_item at) = codes " is already bound"
earlier_text (earlier_parameter at) = codes " is already a parameter"
earlier_text earlier_self = codes " is already the first parameter"
earlier_text (earlier_argument at) = codes " is already given"

-- the reason why there is no function `main` without parameters, in words
abbrev pub no_main_text : NoMain → Words
no_main_text no_such_name = codes "there is no function main"
no_main_text (has_parameters at) = codes "main has parameters"
no_main_text (is_no_function at) = codes "main is no function"

-- a statement that leaves its suite, in words
abbrev pub leaving_text : Leaving → Words
leaving_text leaves_by_return = codes "return"
leaving_text leaves_by_break = codes "break"
leaving_text leaves_by_continue = codes "continue"
leaving_text leaves_by_if = codes "an if that always leaves"

-- ---- sentences

-- the sentence of a detail of an error
abbrev pub error_sentence : Detail Words → Words
error_sentence (flow from into sink) = codes "cannot " ++ flow_sentence from into sink
error_sentence (operator o) = operation_text o ++ codes " is not defined"
error_sentence (call callee misfit) = misfit_text (callable_text callee) misfit
error_sentence (attribute object lacking name hint) =
    object ++ (codes " has no attribute " ++ (name ++ (where_it_is object lacking ++ hint_text name hint)))
error_sentence (index object lacking key) =
    object ++ (codes " has no items to index with " ++ (key ++ where_it_is object lacking))
error_sentence (store object lacking) =
    codes "items of " ++ (object ++ (codes " cannot be assigned" ++ where_it_is object lacking))
error_sentence (iterate iterable lacking) = iterable ++ (codes " cannot be looped over" ++ where_it_is iterable lacking)
error_sentence (iterate_range misfit) = codes "this call of range does not fit"
error_sentence (contain sought object lacking) =
    between_text sought (codes "in") object ++ (codes " is not defined" ++ where_it_is object lacking)
error_sentence (not_a_value meaning) = meaning_text meaning ++ codes " is no value"
error_sentence (no_return f promised) = function_text f ++ (codes " may end without returning " ++ promised)
error_sentence (keys []) = codes "the type of an empty dict is not known here"
error_sentence (keys types) =
    codes "the keys are " ++ (joined_by (codes ", ") types ++ codes ", not all int or all str")
error_sentence (method_store f) = codes "method " ++ (function_text f ++ codes " cannot be assigned")
error_sentence (no_test None) = codes "isinstance can test for int, str, bool, list or a class alone"
error_sentence (no_test (Some name)) = codes "isinstance cannot test for " ++ name
error_sentence (size n) = codes "the type has " ++ (decimal n ++ codes " nodes, and at most 256 are allowed")
error_sentence (length operand lacking) = operand ++ (codes " has no length" ++ where_it_is operand lacking)
error_sentence range_elsewhere = codes "range can only be looped over"
error_sentence (list_test name type) = codes "the items of list " ++ (name ++ codes " are not known")
error_sentence (override f at fault) = override_text (function_text f) fault
error_sentence (twice name earlier) = name ++ earlier_text earlier
error_sentence (unknown_name name elsewhere) =
    codes "nothing named " ++ (name ++ (codes " is known here" ++ elsewhere_text name elsewhere))
error_sentence (early e) = early_text e
error_sentence (unassigned name bound) = name ++ codes " may have no value yet"
error_sentence (outside_loop word) = leaving_text word ++ codes " is outside a loop"
error_sentence (member name class at) = class ++ (codes " already has a member " ++ name)
error_sentence (base name None) = name ++ codes " is no class"
error_sentence (base name (Some at)) = codes "class " ++ (name ++ codes " is not defined yet")
error_sentence (field_order name class field at) =
    codes "field " ++ (name ++ (codes " has no default, but field "
    ++ (field ++ (codes " of " ++ (class ++ codes " before it has one")))))
error_sentence (annotation fault) = annotation_text fault
error_sentence (union clash) = clash_text clash
error_sentence (late_annotation name at) = name ++ codes " is already bound when it is annotated"
error_sentence (main why) = no_main_text why
error_sentence (reserved name) = name ++ codes " is a reserved name"
error_sentence (unreachable leaving at) = codes "nothing is reached after " ++ leaving_text leaving
error_sentence (default_order name parameter at) =
    codes "parameter " ++ (name ++ (codes " has no default, but parameter "
    ++ (parameter ++ codes " before it has one")))

-- the question that a dynamic place leaves open, in words
abbrev pub doubt : Detail Words → Words
doubt (flow from into sink) = codes "whether " ++ (from ++ (codes " fits " ++ sink_text into sink))
doubt (operator o) = codes "whether " ++ (operation_text o ++ codes " is defined")
doubt (call callee misfit) = codes "whether " ++ (callable_text callee ++ codes " can be called")
doubt (attribute object lacking name hint) = codes "whether " ++ (object ++ (codes " has attribute " ++ name))
doubt (index object lacking key) = codes "whether " ++ (object ++ codes " has items")
doubt (store object lacking) = codes "whether items of " ++ (object ++ codes " can be assigned")
doubt (iterate iterable lacking) = codes "whether " ++ (iterable ++ codes " can be looped over")
doubt (iterate_range misfit) = codes "what this call of range gives"
doubt (contain sought object lacking) =
    codes "whether " ++ (between_text sought (codes "in") object ++ codes " is defined")
doubt (length operand lacking) = codes "whether " ++ (operand ++ codes " has a length")
doubt (list_test name type) = codes "what the items of list " ++ (name ++ codes " are")
doubt (override f at fault) = codes "whether this method fits, since " ++ override_text (function_text f) fault
doubt d = error_sentence d

-- the sentence of a detail: what is wrong at an error, or the question that a dynamic place leaves open
abbrev pub sentence_of : Code → Detail Words → Words
sentence_of code d = if is_error code then error_sentence d else codes "cannot tell " ++ doubt d
