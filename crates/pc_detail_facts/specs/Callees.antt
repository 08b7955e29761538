-- The target of a call, as the program holds it: private to this crate. Own rule of the profile.
use Rattle.std.specs.Prelude.{ℕ, List, [], Bool as Test, false, if◌then◌else◌, Option, Some, None, IfSome}
use Rattle.std.specs.Prelude.{option_to_list}
use Rattle.std.specs.Option.{option_map}
use Rattle.pc_types.specs.Tree.{Tree, Int, Object}
use Rattle.pc_types.specs.Boxed.{tree_of, IsGiven}
use Rattle.pc_class.specs.Facts.{TypedParameter}
use Rattle.pc_class.specs.Tables.{HasMethod, method_with}
use Rattle.pc_rules.specs.Context.{Signature}
use Rattle.pc_rules.specs.Calls.{method_signature}
use Rattle.pc_detail_texts.specs.Details as detail
use Rattle.pc_detail_facts.specs.declared.called.CallTarget.{CallTarget}
use Rattle.pc_detail_facts.specs.declared.called.CallTarget.TheVariants as called
use Rattle.pc_detail_facts.specs.declared.facts.Facts.{Facts}
use Rattle.pc_detail_rules.specs.Calls.{Called, builtin_called, class_called, container_called, function_called, repeated}
use Rattle.pc_detail_facts.specs.Held.{IsGivenLent, function_lent, module_held, tree_lent}
use Rattle.pc_detail_rules.specs.Operations.{method_name}
use Rattle.pc_detail_rules.specs.Written.{method_annotations}

-- the type of an argument of a built-in
abbrev pub argument_type : (is_int : Test) → Tree
argument_type is_int = if is_int then Int else Object

-- the target of a call, as the rules see it
abbrev pub called_of : Facts → CallTarget → Called
called_of f (called.Function def) = function_called (module_held f) (function_lent def)
called_of f (called.Class c) = class_called (module_held f) c
called_of f (called.Method x) = record {
  what = detail.called_function (method_name (module_held f) (method_with tree_of x.now));
  signature = Some (method_signature (method_with tree_of x.now));
  annotations = method_annotations (module_held f) (method_with tree_of x.now);
}
called_of f (called.Builtin word count is_int) = builtin_called word.now (repeated count (argument_type is_int))
called_of f (called.Member object word argument) =
    container_called (tree_lent object) word.now (option_to_list (option_map tree_lent argument))
called_of f (called.Value t) = record { what = detail.called_value (tree_lent t); signature = None; annotations = [] }

-- the types of what is called are such as a store may give
abbrev pub IsHeldCalled : CallTarget → Type 0
IsHeldCalled (called.Method x) = HasMethod IsGiven x.now
IsHeldCalled (called.Member object word argument) = IsGivenLent object × IfSome argument IsGivenLent
IsHeldCalled (called.Value t) = IsGivenLent t
IsHeldCalled c = Unit {0}

-- whether a signature, if there is one, takes arguments by name
abbrev pub takes_names_in : Option Signature → Test
takes_names_in None = false
takes_names_in (Some s) = s.takes_names

-- the parameters of a signature, if there is one
abbrev pub parameters_in : Option Signature → List TypedParameter
parameters_in None = []
parameters_in (Some s) = s.parameters

-- the parameters of what is called
abbrev pub parameters_called : Facts → CallTarget → List TypedParameter
parameters_called f c = parameters_in (called_of f c).signature

-- the name of a parameter, empty if there is none
abbrev pub name_of_parameter : Option TypedParameter → List ℕ
name_of_parameter None = []
name_of_parameter (Some p) = p.name

-- whether there is a parameter, with a default
abbrev pub default_in : Option TypedParameter → Test
default_in None = false
default_in (Some p) = p.has_default

-- the type of a parameter, if there is one
abbrev pub type_of_parameter : Option TypedParameter → Option Tree
type_of_parameter p = option_map (λ q. q.type) p
