-- The details of calls: who is called, and the first misfit of the arguments. Own rule of the profile.
use Rattle.std.specs.Prelude.{◌≡◌, ℕ, zero, suc, List, [], ◌∷◌, ◌++◌, flat_map, length, take, drop}
use Rattle.std.specs.Prelude.{Bool as Test, true, false, ◌&&◌, ◌||◌, not, if◌then◌else◌, nat_le, Option, Some, None}
use Rattle.std.specs.Prelude.{is_some, slice_get, codes, bytes_eq, option_to_list}
use Rattle.std.specs.Option.{option_map}
use Rattle.pc_tree.specs.declared.code.Code.TheVariants.{E27}
use Rattle.pc_tree.specs.Stopping.{has_none}
use Rattle.pc_tree.specs.Tree.{Ann, Expr, Exprs, name, attribute, call, no_exprs, more_exprs, FuncDef, Module}
use Rattle.pc_tree.specs.Depth.{place_of}
use Rattle.pc_scope.specs.declared.resolution.Builtin.{Builtin}
use Rattle.pc_scope.specs.declared.resolution.Builtin.TheVariants as builtin
use Rattle.pc_scope.specs.declared.resolution.NameMeaning.{NameMeaning}
use Rattle.pc_scope.specs.declared.resolution.NameMeaning.TheVariants as meaning
use Rattle.pc_scope.specs.Bindings.{functions_in}
use Rattle.pc_scope.specs.Resolution.{is_one_of}
use Rattle.pc_types.specs.Tree.{Tree, Any, Object, Int, Class, ListOf, DictOf}
use Rattle.pc_types.specs.Shape.{members}
use Rattle.pc_annotations.specs.Text.{class_text}
use Rattle.pc_class.specs.Facts.{TypedParameter, Method, classes_of, class_facts_at, field_by_name, method_by_name}
use Rattle.pc_rules.specs.Context.{Signature}
use Rattle.pc_rules.specs.Operations.{length_member}
use Rattle.pc_rules.specs.Calls.{GivenArguments, arguments_given, index_of_parameter, is_free, is_suited, parameter_names}
use Rattle.pc_rules.specs.Calls.{class_signature, method_signature, builtin_signature, range_signature}
use Rattle.pc_rules.specs.Signatures.{signature_of}
use Rattle.pc_detail_texts.specs.Details as detail
use Rattle.pc_detail_texts.specs.Details.{Detail, Callable, Misfit}
use Rattle.pc_detail_rules.specs.Facts.{Known}
use Rattle.pc_detail_rules.specs.Operations.{lacking, method_name}
use Rattle.pc_detail_rules.specs.Written.{annotations_of, field_annotations, method_annotations}

-- ---- misfits

-- the first argument by name that no free parameter takes: there is no such parameter, or it is given by position
abbrev pub named_misfit : ℕ → List TypedParameter → List (List ℕ) → Option Misfit
named_misfit positional ps [] = None
named_misfit positional ps (word ∷ rest) = if is_free positional (index_of_parameter ps word)
    then named_misfit positional ps rest
    else (if is_some (index_of_parameter ps word) then Some (detail.given_twice word) else Some (detail.no_parameter word))

-- the further parameters that have neither a default nor an argument by name
abbrev pub unfilled : List (List ℕ) → List (List ℕ) → List TypedParameter → List (List ℕ)
unfilled named before [] = []
unfilled named before (p ∷ ps) =
    (if p.has_default || (is_one_of p.name named && not (is_one_of p.name before)) then [] else p.name ∷ [])
    ++ unfilled named (p.name ∷ before) ps

-- missing parameters: the names of the first five and the number of the others, or the counts where arguments are
-- taken by position only
abbrev pub missing_misfit : (takes_names : Test) → (takes given : ℕ) → List (List ℕ) → Option Misfit
missing_misfit takes_names takes given [] = None
missing_misfit true takes given names = Some (detail.missing (take 5 names) (length (drop 5 names)))
missing_misfit false takes given names = Some (detail.too_few takes given)

-- a misfit if there is one, else the next
abbrev pub misfit_or : Option Misfit → Option Misfit → Option Misfit
misfit_or None other = other
misfit_or (Some x) other = Some x

-- the first misfit of arguments and a signature, in the order in which the rule of calls tests them: too many arguments
-- by position, an argument by name that is not taken, a parameter that is left without an argument
abbrev pub misfit : GivenArguments → Signature → Option Misfit
misfit g s =
    if not (nat_le g.positional (length s.parameters))
    then Some (detail.too_many (length s.parameters) g.positional)
    else (if not (s.takes_names || has_none g.named) then Some detail.by_position_only
    else misfit_or (named_misfit g.positional s.parameters g.named)
    (missing_misfit s.takes_names (length s.parameters) g.positional
    (unfilled g.named (parameter_names (take g.positional s.parameters)) (drop g.positional s.parameters))))

-- the law that a call suits a signature exactly if there is no misfit
abbrev pub MisfitsAreExact : Type 0
MisfitsAreExact = (g : GivenArguments) (s : Signature) → is_suited g s ≡ not (is_some (misfit g s))

-- ---- who is called

-- a callee, its signature, none for a value, which cannot be called, and the annotations of its parameters
pub record Called : Type 0 where
  pub what : Callable Tree
  pub signature : Option Signature
  pub annotations : List (Option Ann)

-- the misfit of arguments with a signature; a value cannot be called
abbrev pub misfit_of_option : GivenArguments → Option Signature → Option Misfit
misfit_of_option g None = Some detail.not_callable
misfit_of_option g (Some s) = misfit g s

-- the misfit of arguments and a callee
abbrev pub called_misfit : GivenArguments → Called → Option Misfit
called_misfit g c = misfit_of_option g c.signature

-- a value of this type, called; none of type Any, which is no error
abbrev pub value_called : Tree → List Called
value_called Any = []
value_called t = record { what = detail.called_value t; signature = None; annotations = [] } ∷ []

-- a function of the module, called
abbrev pub function_called : Module → FuncDef → Called
function_called m f = record {
  what = detail.called_function (record { class = None; name = f.name.text });
  signature = Some (signature_of m f);
  annotations = annotations_of (Some f);
}

-- a class, called: it takes its fields
abbrev pub class_called : Module → ℕ → Called
class_called m c = record {
  what = detail.called_class (class_text m c);
  signature = Some (class_signature (classes_of m) c);
  annotations = field_annotations m c (class_signature (classes_of m) c).parameters;
}

-- a built-in, called with these types by position
abbrev pub builtin_called : (name : List ℕ) → List Tree → Called
builtin_called word types = record {
  what = detail.called_builtin word;
  signature = Some (builtin_signature types Any);
  annotations = [];
}

-- the method of this name of an instance, or else its field, whose value is called
abbrev pub member_called : Module → Option Method → Option TypedParameter → List Called
member_called m (Some f) field = record {
  what = detail.called_function (method_name m f);
  signature = Some (method_signature f);
  annotations = method_annotations m f;
} ∷ []
member_called m None (Some p) = flat_map value_called (members p.type)
member_called m None None = []

-- a method of a list or a dict, called with these types by position
abbrev pub container_called : Tree → (name : List ℕ) → List Tree → Called
container_called t word types = record {
  what = detail.called_member t word;
  signature = Some (builtin_signature types Any);
  annotations = [];
}

-- the method of a list, called
abbrev pub list_called : Tree → (name : List ℕ) → List Called
list_called t word =
    if bytes_eq word (codes "append") then container_called (ListOf t) word (t ∷ []) ∷ []
    else (if bytes_eq word (codes "pop") then container_called (ListOf t) word [] ∷ [] else [])

-- the method of a dict, called
abbrev pub dict_called : Tree → Tree → (name : List ℕ) → List Called
dict_called k v word = if bytes_eq word (codes "get") then container_called (DictOf k v) word (k ∷ []) ∷ [] else []

-- the callees of `e.m` on one member of the type of e
abbrev pub called_on : Module → (name : List ℕ) → Tree → List Called
called_on m word (Class c) = member_called m (method_by_name (class_facts_at (classes_of m) c).methods word)
    (field_by_name (class_facts_at (classes_of m) c).fields word)
called_on m word (ListOf t) = list_called t word
called_on m word (DictOf k v) = dict_called k v word
called_on m word _ = []

-- a type this many times
abbrev pub repeated : ℕ → Tree → List Tree
repeated zero t = []
repeated (suc n) t = t ∷ repeated n t

-- whether a name means `len`
abbrev pub is_length : NameMeaning → Test
is_length (meaning.Builtin builtin.Len) = true
is_length r = false

-- the built-ins, called: `print` takes any number of arguments, so here as many as it is given
abbrev pub builtin_callees : ℕ → Builtin → List Called
builtin_callees given builtin.Print = builtin_called (codes "print") (repeated given Object) ∷ []
builtin_callees given builtin.Str = builtin_called (codes "str") (Object ∷ []) ∷ []
builtin_callees given builtin.Len = builtin_called (codes "len") (Object ∷ []) ∷ []
builtin_callees given builtin.IsInstance = builtin_called (codes "isinstance") (Object ∷ Object ∷ []) ∷ []
builtin_callees given builtin.Range = builtin_called (codes "range") (Int ∷ []) ∷ []
builtin_callees given b = []

-- a function as a callee, if there is one
abbrev pub function_callees : Module → Option FuncDef → List Called
function_callees m None = []
function_callees m (Some f) = function_called m f ∷ []

-- the callees of a name: a function, a class, a built-in, or each member of a value's type
abbrev pub named_callees : Module → (given : ℕ) → Tree → NameMeaning → List Called
named_callees m given t (meaning.Func i) = function_callees m (slice_get (functions_in m.items) i)
named_callees m given t (meaning.Class c) = class_called m c ∷ []
named_callees m given t (meaning.Builtin b) = builtin_callees given b
named_callees m given t r = flat_map value_called (members t)

-- the detail of a callee with its misfit, none if there is no misfit
abbrev pub misfit_with : GivenArguments → Called → List (Detail Tree)
misfit_with g c = option_to_list (option_map (detail.call c.what) (called_misfit g c))

-- the details of the callees that do not suit, in the order of the members
abbrev pub misfits_of : GivenArguments → List Called → List (Detail Tree)
misfits_of g cs = flat_map (misfit_with g) cs

-- the first of some details, if there are any
abbrev pub first_detail : List (Detail Tree) → Option (Detail Tree)
first_detail [] = None
first_detail (d ∷ ds) = Some d

-- A5 at a loop over a call of `range`: the misfit of its arguments
abbrev pub range_misfit : Expr → Option (Detail Tree)
range_misfit (call p callee args kws) =
    option_map detail.iterate_range (misfit (arguments_given args kws) range_signature)
range_misfit e = None

module _ (m : Module) (known : Known) (resolve : List ℕ → NameMeaning) where
  -- the callees of a call, member by member
  abbrev pub callees_of : (given : ℕ) → Expr → List Called
  callees_of given (name n) = named_callees m given (known.types n.place) (resolve n.text)
  callees_of given (attribute p e field) = flat_map (called_on m field.text) (members (known.types (place_of e)))
  callees_of given e = flat_map value_called (members (known.types (place_of e)))

  -- E14: the callee and its first misfit, of the first member that has one
  abbrev pub call_detail : Expr → Option (Detail Tree)
  call_detail (call p callee args kws) =
      let g = arguments_given args kws in
      first_detail (misfits_of g (callees_of g.positional callee))
  call_detail _ = None

  -- whether a name is called that means `len`
  abbrev pub calls_length : Expr → Test
  calls_length (name n) = is_length (resolve n.text)
  calls_length _ = false

  -- the operand of `len`: its type, and its members without a length
  abbrev pub length_detail : Expr → Detail Tree
  length_detail e = detail.length (known.types (place_of e))
      (lacking (λ t. (length_member t).found) E27 (known.types (place_of e)))

  -- the detail of the first argument of `len`
  abbrev pub length_of_first : Exprs → Option (Detail Tree)
  length_of_first no_exprs = None
  length_of_first (more_exprs e rest) = Some (length_detail e)

  -- E27: the operand of `len`, or `range` elsewhere than in the head of a loop
  abbrev pub builtin_detail : Expr → Option (Detail Tree)
  builtin_detail (call p callee args kws) = if calls_length callee then length_of_first args
      else Some detail.range_elsewhere
  builtin_detail _ = None

  -- A6: the operand of `len`, or the value of type Any that is called
  abbrev pub any_call_detail : Expr → Option (Detail Tree)
  any_call_detail (call p callee args kws) = if calls_length callee then length_of_first args
      else Some (detail.call (detail.called_value Any) detail.not_callable)
  any_call_detail _ = None
