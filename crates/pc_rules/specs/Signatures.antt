-- The signatures of functions and methods, and the flows of defaults into their types. Language Reference 3.12, 8.7
-- "Function definitions"; typing specification, "Annotations".
use Rattle.std.specs.Prelude.{◌≡◌, ◌⊎◌, ℕ, List, [], ◌∷◌, map, length, Bool as Test, true, false, ◌||◌, not, Option}
use Rattle.std.specs.Prelude.{Some, None}
use Rattle.pc_source.specs.declared.place.Place.{Place}
use Rattle.pc_tree.specs.declared.code.Finding.{Finding}
use Rattle.pc_tree.specs.Tree.{Ann, Name, Literal, number_literal, negative_literal, text_literal, truth_literal}
use Rattle.pc_tree.specs.Tree.{none_literal, Param, FuncDef, Module}
use Rattle.pc_scope.specs.Reserved.{is_builtin_name}
use Rattle.pc_scope.specs.Bindings.{functions_in, classes_in}
use Rattle.pc_scope.specs.Resolution.{is_one_of, resolve_among, resolve_in_module}
use Rattle.pc_types.specs.Tree.{Tree, Int, Bool, Str, NoneType}
use Rattle.pc_types.specs.Below.{Bases}
use Rattle.pc_annotations.specs.Annotations.{read_ann, read_option, OptionAnnFinds}
use Rattle.pc_class.specs.Bases.{bases_of}
use Rattle.pc_class.specs.Facts.{parameters_of, return_type, classes_of}
use Rattle.pc_rules.specs.Operations.{clean}
use Rattle.pc_rules.specs.Context.{Context, Signature, FlowsInto}
use Rattle.pc_rules.specs.Labels.{FlowLabels, IsFlowAt}

-- the signature of a function of a module
abbrev pub signature_of : Module → FuncDef → Signature
signature_of m f = record { parameters = parameters_of m f.params; returns = return_type m f; takes_names = true }

-- the signatures of the functions of a module
unfoldable pub signatures_of : Module → List Signature
signatures_of m = map (signature_of m) (functions_in m.items)

-- the context of a body with these locals: everything that the module has
abbrev pub body_context : Module → (constants : List Tree) → (names : List (List ℕ)) → Context
body_context m constants names = record {
  bases = bases_of m;
  classes = classes_of m;
  functions = signatures_of m;
  constants = constants;
  known = length (classes_in m.items);
  in_body = true;
  resolve = resolve_among m names;
}

-- the context of an initializer: the constants and the number of classes defined earlier
abbrev pub initializer_context : Module → (constants : List Tree) → (classes : ℕ) → Context
initializer_context m constants classes = record {
  bases = bases_of m;
  classes = classes_of m;
  functions = signatures_of m;
  constants = constants;
  known = classes;
  in_body = false;
  resolve = resolve_in_module m;
}

-- ---- defaults

-- the type of a default's literal
abbrev pub literal_type : Literal → Tree
literal_type (number_literal p digits) = Int
literal_type (negative_literal p digits) = Int
literal_type (text_literal p characters) = Str
literal_type (truth_literal p value) = Bool
literal_type (none_literal p) = NoneType

-- the place of a default's literal
abbrev pub literal_place : Literal → Place
literal_place (number_literal p digits) = p
literal_place (negative_literal p digits) = p
literal_place (text_literal p characters) = p
literal_place (truth_literal p value) = p
literal_place (none_literal p) = p

-- the flow of a default into its type is lawful; there is none into a name that is not bound
abbrev pub LawfulDefault : Bases → (binds : Test) → Option Literal → Tree → FlowLabels → Type 0
LawfulDefault bases binds None t flows = flows ≡ []
LawfulDefault bases false (Some l) t flows = flows ≡ []
LawfulDefault bases true (Some l) t flows = FlowsInto bases (clean (literal_type l)) (t ∷ []) flows

-- the findings at a default: the code of its flow, at the literal
abbrev pub DefaultFinds : Option Literal → FlowLabels → Finding → Type 0
DefaultFinds None flows f = ⊥
DefaultFinds (Some l) flows f = IsFlowAt (literal_place l) flows f

-- whether a name is bound here: it is not reserved, and none of those before it
abbrev pub binds_name : List (List ℕ) → Name → Test
binds_name before n = not (is_builtin_name n.text || is_one_of n.text before)

-- the flows of the defaults of parameters
abbrev pub ParamsLabels : List Param → Type 0
ParamsLabels [] = Unit {0}
ParamsLabels (p ∷ ps) = record { default : FlowLabels; rest : ParamsLabels ps }

-- the defaults of parameters are lawful, after parameters of these names
abbrev pub LawfulParams : Module → (before : List (List ℕ)) → (ps : List Param) → ParamsLabels ps → Type 0
LawfulParams m before [] labels = Unit {0}
LawfulParams m before (p ∷ ps) labels = record {
  default : LawfulDefault (bases_of m) (binds_name before p.name) p.default
      (read_option m (bases_of m) p.annotation) labels.default;
  rest : LawfulParams m (p.name.text ∷ before) ps labels.rest;
}

-- the findings of parameters: in their annotations, and at their defaults
abbrev pub ParamsFind : Module → (ps : List Param) → ParamsLabels ps → Finding → Type 0
ParamsFind m [] labels f = ⊥
ParamsFind m (p ∷ ps) labels f = OptionAnnFinds m (bases_of m) p.annotation f
    ⊎ (DefaultFinds p.default labels.default f ⊎ ParamsFind m ps labels.rest f)

-- ---- constants

-- a constant's type is its annotation, else its initializer's type
abbrev pub constant_type : Module → Option Ann → Tree → Tree
constant_type m None from = from
constant_type m (Some a) from = read_ann m (bases_of m) a

-- the types that an initializer flows into: its annotation, which is also expected; none if the name is reserved or
-- already bound
abbrev pub annotated_types : Module → (binds : Test) → Option Ann → List Tree
annotated_types m true (Some a) = read_ann m (bases_of m) a ∷ []
annotated_types m binds a = []

-- the first of some types, if there is one
abbrev pub first_of_types : List Tree → Option Tree
first_of_types [] = None
first_of_types (t ∷ ts) = Some t
