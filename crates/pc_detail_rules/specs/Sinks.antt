-- Where each value of a module goes: the parameters, fields, locals, items and the like that it flows into.
-- Own rule of the profile.
use Rattle.std.specs.Prelude.{ℕ, suc, List, [], ◌∷◌, ◌++◌, map, flat_map, find, Bool as Test, true, false}
use Rattle.std.specs.Prelude.{◌&&◌}
use Rattle.std.specs.Prelude.{Option, Some, None, slice_get}
use Rattle.std.specs.Option.{option_map, option_map_or, option_and_then}
use Rattle.pc_source.specs.declared.place.Place.{Place}
use Rattle.pc_tree.specs.declared.tree.ComparisonOperator.{ComparisonOperator}
use Rattle.pc_tree.specs.declared.tree.ComparisonOperator.TheVariants.{In, NotIn}
use Rattle.pc_tree.specs.declared.code.Code.{Code}
use Rattle.pc_tree.specs.Tree.{Ann, Expr, Exprs, Entries, Keywords, list, dict, compare, index, call, no_exprs}
use Rattle.pc_tree.specs.Tree.{more_exprs, no_entries, more_entries, no_keywords, more_keywords, Literal, Param}
use Rattle.pc_tree.specs.Tree.{Target, to_name, to_attribute, to_index, Stmt, returns, annotated, assigns, for_loop}
use Rattle.pc_tree.specs.Tree.{FuncDef, Member, field_member, method_member, ClassDef, Constant, Module}
use Rattle.pc_tree.specs.Depth.{place_of}
use Rattle.pc_scope.specs.declared.resolution.NameMeaning.{NameMeaning}
use Rattle.pc_scope.specs.Bindings.{constants_in, classes_in, Body, bodies}
use Rattle.pc_scope.specs.Resolution.{resolve}
use Rattle.pc_types.specs.Tree.{Tree, Class, ListOf, DictOf}
use Rattle.pc_types.specs.Join.{same_tree}
use Rattle.pc_types.specs.Shape.{members}
use Rattle.pc_annotations.specs.Bases.{bases_of}
use Rattle.pc_annotations.specs.Text.{class_text}
use Rattle.pc_class.specs.Facts.{TypedParameter, classes_of, class_facts_at, field_by_name}
use Rattle.pc_notes.specs.Notes.{is_same_place}
use Rattle.pc_rules.specs.Context.{Signature}
use Rattle.pc_rules.specs.Operations.{index_member, store_index_member, contain_member}
use Rattle.pc_rules.specs.Calls.{arguments_given}
use Rattle.pc_rules.specs.Signatures.{literal_place}
use Rattle.pc_rules.specs.Lawful.{int_literal}
use Rattle.pc_detail_texts.specs.Details as detail
use Rattle.pc_detail_texts.specs.Details.{Detail, Callable, Sink, FunctionName}
use Rattle.pc_detail_rules.specs.Facts.{Known}
use Rattle.pc_detail_rules.specs.Nodes.{OwnedExpr, exprs_of_module, stmts_in_suite, function_name}
use Rattle.pc_detail_rules.specs.Calls.{Called, callees_of}
use Rattle.pc_detail_rules.specs.Written.{written_at, annotation_by_name, field_annotation, local_annotation}

-- a sink of the value at a place: the type that the value flows into, none if it is the only sink there; and the
-- annotation of the sink, if it has one
pub record SinkAt : Type 0 where
  pub place : Place
  pub into : Option Tree
  pub sink : Sink Tree
  pub written : Option Ann

-- the sink of a value at this place, which has no other, with its annotation
abbrev pub only_sink : Place → Sink Tree → Option Ann → SinkAt
only_sink p s a = record { place = p; into = None; sink = s; written = a }

-- a sink of a value at this place, with its type and its annotation
abbrev pub written_sink : Place → Sink Tree → Tree → Option Ann → SinkAt
written_sink p s t a = record { place = p; into = Some t; sink = s; written = a }

-- a sink of a value at this place, with its type, that has no annotation
abbrev pub one_sink : Place → Sink Tree → Tree → SinkAt
one_sink p s t = written_sink p s t None

-- ---- flows

-- whether a sink takes a value of this place into this type
abbrev pub takes_into : Place → Tree → SinkAt → Test
takes_into p t s = is_same_place p s.place && option_map_or (same_tree t) s.into true

-- the first of some sinks that takes a value of this place into this type
abbrev pub sink_among : List SinkAt → Place → Tree → Option (Sink Tree)
sink_among ss p t = option_map (λ s. s.sink) (find (takes_into p t) ss)

-- the annotation of the first of some sinks that takes a value of this place into this type, if it has one
abbrev pub written_among : List SinkAt → Place → Tree → Option Ann
written_among ss p t = option_and_then (λ s. s.written) (find (takes_into p t) ss)

-- a flow of two types at a place, with the first of some sinks that takes it
abbrev pub flow_with : List SinkAt → Place → (from into : Tree) → Option (Detail Tree)
flow_with ss p s t = option_map (detail.flow s t) (sink_among ss p t)

-- a flow at a place, if there is one, with the first of some sinks that takes it
abbrev pub flow_among : List SinkAt → Place → Option (Tree × Tree) → Option (Detail Tree)
flow_among ss p types = option_and_then (λ st. flow_with ss p st.0 st.1) types

-- the annotation of the target of a flow at a place, if there is one: of the first of some sinks that takes it
abbrev pub annotation_among : List SinkAt → Place → Option (Tree × Tree) → Option Ann
annotation_among ss p types = option_and_then (λ st. written_among ss p st.1) types

-- ---- arguments

-- a parameter as a sink; a callee that takes arguments by position only has no names for them
abbrev pub parameter_sink : Callable Tree → (takes_names : Test) → TypedParameter → Sink Tree
parameter_sink what true p = detail.a_parameter p.name what
parameter_sink what false p = detail.an_argument what

-- the sink of an argument that one callee takes with this parameter, if there is one, with its annotation
abbrev pub sink_of_parameter : Place → Callable Tree → (takes_names : Test) → Option Ann → Option TypedParameter
    → List SinkAt
sink_of_parameter place what takes_names written None = []
sink_of_parameter place what takes_names written (Some q) =
    written_sink place (parameter_sink what takes_names q) q.type written ∷ []

-- the sink of an argument by position with one signature, whose parameters have these annotations
abbrev pub positional_in : Place → ℕ → Callable Tree → List (Option Ann) → Option Signature → List SinkAt
positional_in place k what annotations None = []
positional_in place k what annotations (Some s) =
    sink_of_parameter place what s.takes_names (written_at annotations k) (slice_get s.parameters k)

-- the sink of an argument by name with one signature, whose parameters have these annotations
abbrev pub named_in : Place → List ℕ → Callable Tree → List (Option Ann) → Option Signature → List SinkAt
named_in place word what annotations None = []
named_in place word what annotations (Some s) =
    sink_of_parameter place what s.takes_names (annotation_by_name s.parameters annotations word)
    (field_by_name s.parameters word)

-- the sink of an argument by position of one callee, if the callee takes it
abbrev pub positional_on : Place → ℕ → Called → List SinkAt
positional_on place k c = positional_in place k c.what c.annotations c.signature

-- the sink of an argument by name of one callee, if the callee takes it
abbrev pub named_on : Place → List ℕ → Called → List SinkAt
named_on place word c = named_in place word c.what c.annotations c.signature

-- the sinks of arguments by position, from this position on
abbrev pub positional_sinks : List Called → ℕ → Exprs → List SinkAt
positional_sinks cs k no_exprs = []
positional_sinks cs k (more_exprs e rest) = flat_map (positional_on (place_of e) k) cs
    ++ positional_sinks cs (suc k) rest

-- the sinks of arguments by name
abbrev pub named_sinks : List Called → Keywords → List SinkAt
named_sinks cs no_keywords = []
named_sinks cs (more_keywords parameter value rest) =
    flat_map (named_on (place_of value) parameter.text) cs ++ named_sinks cs rest

-- the sinks of the arguments of a call
abbrev pub argument_sinks : List Called → Exprs → Keywords → List SinkAt
argument_sinks cs args kws = positional_sinks cs 0 args ++ named_sinks cs kws

-- ---- items, keys and indexes

-- an index into an object of this type as a sink: of a dict it is a key
abbrev pub index_sink : Tree → Sink Tree
index_sink (DictOf k v) = detail.a_key (DictOf k v)
index_sink t = detail.an_index t

-- a value that is stored into an object of this type as a sink: of a dict it is a value
abbrev pub stored_sink : Tree → Sink Tree
stored_sink (DictOf k v) = detail.a_value (DictOf k v)
stored_sink t = detail.an_item t

-- the sinks of items in a list of this type
abbrev pub item_sinks : Tree → Exprs → List SinkAt
item_sinks (ListOf t) no_exprs = []
item_sinks (ListOf t) (more_exprs e rest) = one_sink (place_of e) (detail.an_item (ListOf t)) t
    ∷ item_sinks (ListOf t) rest
item_sinks t es = []

-- the sinks of the keys and values of a dict of this type
abbrev pub entry_sinks : Tree → Entries → List SinkAt
entry_sinks (DictOf k v) no_entries = []
entry_sinks (DictOf k v) (more_entries a b rest) = one_sink (place_of a) (detail.a_key (DictOf k v)) k
    ∷ one_sink (place_of b) (detail.a_value (DictOf k v)) v
    ∷ entry_sinks (DictOf k v) rest
entry_sinks t es = []

-- the sink of the value that `in` looks for in one member
abbrev pub sought_in : Place → Tree → List SinkAt
sought_in p u = map (one_sink p (detail.a_sought u)) (contain_member u).takes

-- the sinks of the left operand of a comparison, none unless it is `in` or `not in`
abbrev pub compared_sinks : ComparisonOperator → Place → Tree → List SinkAt
compared_sinks In p t = flat_map (sought_in p) (members t)
compared_sinks NotIn p t = flat_map (sought_in p) (members t)
compared_sinks o p t = []

-- the sink of a value that is stored to a field of this name, if the class has it, with its annotation
abbrev pub field_sink : Place → (class name : List ℕ) → Option Ann → Option TypedParameter → List SinkAt
field_sink place class word written None = []
field_sink place class word written (Some q) = written_sink place (detail.a_field class word) q.type written ∷ []

-- the sink of an index of one member, if the member takes one
abbrev pub index_in : Module → Expr → Tree → List SinkAt
index_in m i u = map (one_sink (place_of i) (index_sink u)) (index_member (bases_of m) (int_literal i) u).takes

-- the sinks of the index of an object of this type
abbrev pub index_sinks : Module → Expr → Tree → List SinkAt
index_sinks m i t = flat_map (index_in m i) (members t)

-- ---- stores

-- the sinks of the index and of the value, at these places, that are stored to an item of one member
abbrev pub item_store : (index value : Place) → Tree → List SinkAt
item_store p q u = map (one_sink p (index_sink u)) (store_index_member u).takes
    ++ map (one_sink q (stored_sink u)) (store_index_member u).stores

-- the sinks of a value at this place that is stored to a field of this name of one member
abbrev pub field_store : Module → Place → List ℕ → Tree → List SinkAt
field_store m p word (Class c) = field_sink p (class_text m c) word (field_annotation m c word)
    (field_by_name (class_facts_at (classes_of m) c).fields word)
field_store m p word t = []

-- the place of a value, or this one if there is none
abbrev pub value_place : Place → Option Expr → Place
value_place p None = p
value_place p (Some e) = place_of e

-- ---- defaults and constants

-- the sink of a default, if there is one, with its annotation
abbrev pub default_sink : Sink Tree → Option Ann → Option Literal → List SinkAt
default_sink s a None = []
default_sink s a (Some l) = only_sink (literal_place l) s a ∷ []

-- the sink of the default of a function's parameter
abbrev pub parameter_default : FunctionName → Param → List SinkAt
parameter_default f p = default_sink (detail.a_parameter_default p.name.text f) p.annotation p.default

-- the sink of the default of a field
abbrev pub default_of_field : (class : List ℕ) → Member → List SinkAt
default_of_field class (field_member d) =
    default_sink (detail.a_field_default class d.name.text) (Some d.annotation) d.default
default_of_field class (method_member f) = []

-- the sinks of the defaults of the fields of a class
abbrev pub sinks_of_class : ClassDef → List SinkAt
sinks_of_class c = flat_map (default_of_field c.name.text) c.members

-- the sink of the value of a constant
abbrev pub sinks_of_constant : Constant → List SinkAt
sinks_of_constant c = only_sink (place_of c.value) (detail.a_constant c.name.text) c.annotation ∷ []

module _ (m : Module) (known : Known) where
  -- the sinks of the parts of an expression, in a function or method with this meaning of names
  abbrev pub sinks_below : (resolve : List ℕ → NameMeaning) → Expr → List SinkAt
  sinks_below names (list p es) = item_sinks (known.types p) es
  sinks_below names (dict p es) = entry_sinks (known.types p) es
  sinks_below names (compare p o l r) = compared_sinks o (place_of l) (known.types (place_of r))
  sinks_below names (index p e i) = index_sinks m i (known.types (place_of e))
  sinks_below names (call p callee args kws) =
      argument_sinks (callees_of m known names (arguments_given args kws).positional callee) args kws
  sinks_below names e = []

  -- the sinks of the parts of an expression: its arguments, items, keys, index, or the value that `in` looks for
  abbrev pub sinks_in : OwnedExpr → List SinkAt
  sinks_in o = sinks_below (resolve m o.owner) o.expr

  -- the sinks of a value that a function assigns, and of the index of its target
  abbrev pub assigned_sinks : FuncDef → Target → Expr → List SinkAt
  assigned_sinks f (to_name n) e = only_sink (place_of e) (detail.a_local n.text) (local_annotation f n.text) ∷ []
  assigned_sinks f (to_attribute p o field) e =
      flat_map (field_store m (place_of e) field.text) (members (known.types (place_of o)))
  assigned_sinks f (to_index p o i) e = flat_map (item_store (place_of i) (place_of e)) (members (known.types (place_of o)))

  -- the sinks of a statement in this function: of the value that it returns, binds or stores, or of the item of a loop
  abbrev pub sinks_of_stmt : Body → Stmt → List SinkAt
  sinks_of_stmt b (returns p e) =
      only_sink (value_place p e) (detail.a_return (function_name m b)) b.function.returns ∷ []
  sinks_of_stmt b (annotated p n a e) =
      only_sink (value_place p e) (detail.a_local n.text) (local_annotation b.function n.text) ∷ []
  sinks_of_stmt b (assigns p t e) = assigned_sinks b.function t e
  sinks_of_stmt b (for_loop p n e s) =
      only_sink (place_of e) (detail.a_loop_target n.text) (local_annotation b.function n.text) ∷ []
  sinks_of_stmt b s = []

  -- the sinks in a function: of its defaults, and in its statements
  abbrev pub sinks_of_body : Body → List SinkAt
  sinks_of_body b = flat_map (parameter_default (function_name m b)) b.function.params
      ++ flat_map (sinks_of_stmt b) (stmts_in_suite b.function.body)

  -- the sinks of a module
  abbrev pub sinks_of : List SinkAt
  sinks_of = flat_map sinks_of_constant (constants_in m.items)
      ++ (flat_map sinks_of_class (classes_in m.items)
      ++ (flat_map sinks_of_body (bodies m) ++ flat_map sinks_in (exprs_of_module m)))

  -- E12, A1: the two types of the first flow at the place with the code, and where it goes. All flows at a place are of
  -- one type, so the code of each depends on the type that it flows into alone: the first sink of the type of the first
  -- flow with a code is that flow's own
  abbrev pub flow_detail : Code → Place → Option (Detail Tree)
  flow_detail c p = flow_among sinks_of p (known.flows c p)

  -- the annotation of the target of that flow, if it has one
  abbrev pub flow_annotation : Code → Place → Option Ann
  flow_annotation c p = annotation_among sinks_of p (known.flows c p)
