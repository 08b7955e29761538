-- The details of operators, attributes, items, loops and displays, by the types of their parts.
-- Own rule of the profile.
use Rattle.std.specs.Prelude.{◌≡◌, ℕ, suc, List, [], ◌∷◌, ◌++◌, flat_map, filter, Bool as Test, true, false, ◌&&◌}
use Rattle.std.specs.Prelude.{◌||◌}
use Rattle.std.specs.Prelude.{not, if◌then◌else◌, is_some, Option, Some, None, find, take}
use Rattle.std.specs.List.{list_all, list_any}
use Rattle.std.specs.Option.{option_map}
use Rattle.pc_tree.specs.declared.tree.ComparisonOperator.{ComparisonOperator}
use Rattle.pc_tree.specs.declared.tree.ComparisonOperator.TheVariants.{In, NotIn}
use Rattle.pc_tree.specs.declared.code.Code.{Code}
use Rattle.pc_tree.specs.declared.code.Code.TheVariants.{E15, E16, E17, E18, E19}
use Rattle.pc_tree.specs.Stopping.{has_none}
use Rattle.pc_tree.specs.Tree.{Expr, Exprs, Entries, name, tuple, list, dict, negative, binary, compare}
use Rattle.pc_tree.specs.Tree.{attribute, index, no_exprs, more_exprs, no_entries, more_entries}
use Rattle.pc_tree.specs.Tree.{Target, to_attribute, to_index, Module}
use Rattle.pc_tree.specs.Depth.{place_of}
use Rattle.pc_scope.specs.declared.resolution.NameMeaning.{NameMeaning}
use Rattle.pc_scope.specs.declared.resolution.NameMeaning.TheVariants as meaning
use Rattle.pc_scope.specs.Resolution.{resolve}
use Rattle.pc_scope.specs.Bindings.{classes_in}
use Rattle.pc_types.specs.Tree.{Tree, Int, Str, Class, ListOf, DictOf, TupleOf}
use Rattle.pc_types.specs.Computed.{static_test}
use Rattle.pc_types.specs.Join.{absorbs, same_tree}
use Rattle.pc_types.specs.Shape.{members, nodes, trees}
use Rattle.pc_annotations.specs.Bases.{bases_of}
use Rattle.pc_annotations.specs.Text.{class_text}
use Rattle.pc_class.specs.Facts as facts
use Rattle.pc_class.specs.Facts.{Method, classes_of, class_facts_at, field_by_name, method_by_name}
use Rattle.pc_flow.specs.Environment.{join_all}
use Rattle.pc_rules.specs.Operations.{index_member, attribute_member, store_attribute_member, store_index_member}
use Rattle.pc_rules.specs.Operations.{iterate_member, contain_member}
use Rattle.pc_rules.specs.Calls.{GivenArguments, CallOffer, method_offers}
use Rattle.pc_rules.specs.Signatures.{body_context}
use Rattle.pc_rules.specs.Computed.Findings.{has_code}
use Rattle.pc_detail_texts.specs.Details as detail
use Rattle.pc_detail_texts.specs.Details.{Detail, AttributeHint, FunctionName}
use Rattle.pc_detail_rules.specs.Annotations.{told_nodes}
use Rattle.pc_detail_rules.specs.Facts.{Known}
use Rattle.pc_detail_rules.specs.Nodes.{OwnedExpr}

-- the members of a type on which an operation finds this code
abbrev pub lacking : (found : Tree → List Code) → Code → Tree → List Tree
lacking found code t = filter (λ u. has_code (found u) code) (members t)

-- the law that a code is found exactly if there is a member on which it is found
abbrev pub LackingIsExact : Type 0
LackingIsExact = (found : Tree → List Code) (code : Code) (t : Tree)
    → has_code (flat_map found (members t)) code ≡ not (has_none (lacking found code t))

-- the name of a method as it is shown, with the class that defines it
abbrev pub method_name : Module → Method → FunctionName
method_name m f = record { class = Some (class_text m f.owner); name = f.name }

-- a method if there is one, else another
abbrev pub method_or : Option Method → Option Method → Option Method
method_or None other = other
method_or (Some f) other = Some f

-- the first method of this name among the members of a type
abbrev pub method_of : List facts.ClassFacts → List ℕ → List Tree → Option Method
method_of classes word [] = None
method_of classes word (Class c ∷ rest) = method_or (method_by_name (class_facts_at classes c).methods word)
    (method_of classes word rest)
method_of classes word (t ∷ rest) = method_of classes word rest

-- ---- attributes

-- no arguments
abbrev pub no_arguments : GivenArguments
no_arguments = record { positional = 0; named = [] }

-- the codes found at `e.m` on a member that is called
abbrev pub found_as_callee : Module → List ℕ → Tree → List Code
found_as_callee m word t =
    flat_map (λ (o : CallOffer). o.at_callee) (method_offers (body_context m [] []) no_arguments word t)

-- the codes found at `e.f` on a member that is read
abbrev pub found_as_value : Module → List ℕ → Tree → List Code
found_as_value m word t = (attribute_member (classes_of m) word t).found

-- the codes found at `e.f = v` on a member
abbrev pub found_as_target : Module → List ℕ → Tree → List Code
found_as_target m word t = (store_attribute_member (classes_of m) word t).found

-- whether a class has a field or a method of this name
abbrev pub has_member : Module → List ℕ → ℕ → Test
has_member m word c = is_some (field_by_name (class_facts_at (classes_of m) c).fields word)
    || is_some (method_by_name (class_facts_at (classes_of m) c).methods word)

-- the first of these classes that is below a class and has a member of this name
abbrev pub class_below : Module → List ℕ → (above : ℕ) → List ℕ → Option (List ℕ)
class_below m word above cs = option_map (class_text m)
    (find (λ c. absorbs (bases_of m) (Class above) (Class c) && has_member m word c) cs)

-- a number for each of these items, from this one on
abbrev pub numbers_from : {A : Type 0} → ℕ → List A → List ℕ
numbers_from n [] = []
numbers_from n (x ∷ xs) = n ∷ numbers_from (suc n) xs

-- the hint that a class below has the name, or else another hint
abbrev pub below_or : Option (List ℕ) → AttributeHint → AttributeHint
below_or None other = other
below_or (Some class) other = detail.below class

-- the hint about a name that these members lack: a class below has it, or a list or a dict has it as a method
abbrev pub hint_of : Module → List ℕ → List Tree → AttributeHint
hint_of m word [] = detail.no_hint
hint_of m word (Class c ∷ rest) =
    below_or (class_below m word c (numbers_from 0 (classes_in m.items))) (hint_of m word rest)
hint_of m word (t ∷ rest) = if has_code (found_as_callee m word t) E15 then hint_of m word rest else detail.only_called

-- E15, A4: the type of the object, its members that lack the name, the name, and the hint about it
abbrev pub attribute_detail : Module → (found : Tree → List Code) → Tree → List ℕ → Detail Tree
attribute_detail m found t word =
    let none = lacking found E15 t in detail.attribute t none word (hint_of m word none)

-- E23: the method that is assigned to, the first among the members of the object's type
abbrev pub method_store_detail : Module → Tree → List ℕ → Option (Detail Tree)
method_store_detail m t word =
    option_map (λ f. detail.method_store (method_name m f)) (method_of (classes_of m) word (members t))

-- types, each once and without those before
abbrev pub different : List Tree → List Tree → List Tree
different before [] = []
different before (t ∷ ts) = if list_any (same_tree t) before then different before ts
    else t ∷ different (before ++ t ∷ []) ts

-- ---- names as values

-- the meaning of a name that is not a value
abbrev pub meaning_of_name : List ℕ → NameMeaning → Option detail.NoValue
meaning_of_name word (meaning.Func i) = Some (detail.means_function word)
meaning_of_name word (meaning.Class c) = Some (detail.means_class word)
meaning_of_name word (meaning.Builtin b) = Some (detail.means_reserved word)
meaning_of_name word _ = None

module _ (m : Module) (known : Known) where
  -- the type of an expression
  abbrev type_here : Expr → Tree
  type_here e = known.types (place_of e)

  -- the types of items, in order
  abbrev pub types_here : Exprs → List Tree
  types_here no_exprs = []
  types_here (more_exprs e rest) = type_here e ∷ types_here rest

  -- the types of the keys of a dict, in order
  abbrev pub key_types_here : Entries → List Tree
  key_types_here no_entries = []
  key_types_here (more_entries k v rest) = type_here k ∷ key_types_here rest

  -- the types of the values of a dict, in order
  abbrev pub value_types_here : Entries → List Tree
  value_types_here no_entries = []
  value_types_here (more_entries k v rest) = type_here v ∷ value_types_here rest

  -- ---- operators

  -- the detail of `in`: both types, and the members of the right one that cannot be searched
  abbrev pub contain_detail : Expr → Expr → Detail Tree
  contain_detail l r = detail.contain (type_here l) (type_here r)
      (lacking (λ t. (contain_member t).found) E19 (type_here r))

  -- the detail of a comparison by its operator
  abbrev pub comparison_detail : ComparisonOperator → Expr → Expr → Detail Tree
  comparison_detail In l r = contain_detail l r
  comparison_detail NotIn l r = contain_detail l r
  comparison_detail o l r = detail.operator (detail.of_comparison o (type_here l) (type_here r))

  -- E13, E19, A2: the operator, and the types of its operands
  abbrev pub operator_detail : Expr → Option (Detail Tree)
  operator_detail (binary p o l r) = Some (detail.operator (detail.of_binary o (type_here l) (type_here r)))
  operator_detail (compare p o l r) = Some (comparison_detail o l r)
  operator_detail (negative p e) = Some (detail.operator (detail.of_minus (type_here e)))
  operator_detail _ = None

  -- ---- items

  -- E16, A3: the type of the object, its members without items, and the type of the index
  abbrev pub index_detail : Expr → Option (Detail Tree)
  index_detail (index p e i) = Some (detail.index (type_here e)
      (lacking (λ t. (index_member (bases_of m) None t).found) E16 (type_here e)) (type_here i))
  index_detail _ = None

  -- E17, A3: the type of the object, and its members whose items cannot be assigned
  abbrev pub store_detail : Target → Option (Detail Tree)
  store_detail (to_index p e i) = Some (detail.store (type_here e)
      (lacking (λ t. (store_index_member t).found) E17 (type_here e)))
  store_detail _ = None

  -- E18, A5: the type of the iterable, and its members that cannot be looped over
  abbrev pub iterate_detail : Expr → Detail Tree
  iterate_detail e = detail.iterate (type_here e)
      (lacking (λ t. (iterate_member (bases_of m) t).found) E18 (type_here e))

  -- ---- attributes

  -- E15, A4 in an expression: at a callee, or at an attribute that is read
  abbrev pub attribute_here : (is_callee : Test) → Expr → Option (Detail Tree)
  attribute_here true (attribute p e field) =
      Some (attribute_detail m (found_as_callee m field.text) (type_here e) field.text)
  attribute_here false (attribute p e field) =
      Some (attribute_detail m (found_as_value m field.text) (type_here e) field.text)
  attribute_here is_callee _ = None

  -- E15, A4 at a target
  abbrev pub attribute_target : Target → Option (Detail Tree)
  attribute_target (to_attribute p e field) =
      Some (attribute_detail m (found_as_target m field.text) (type_here e) field.text)
  attribute_target _ = None

  -- E23 at a target
  abbrev pub method_target : Target → Option (Detail Tree)
  method_target (to_attribute p e field) = method_store_detail m (type_here e) field.text
  method_target _ = None

  -- the meaning of an expression that is no value
  abbrev pub meaning_here : (resolve : List ℕ → NameMeaning) → Expr → Option detail.NoValue
  meaning_here resolve (name n) = meaning_of_name n.text (resolve n.text)
  meaning_here resolve (attribute p e field) = option_map (λ f. detail.means_method (method_name m f))
      (method_of (classes_of m) field.text (members (type_here e)))
  meaning_here resolve _ = None

  -- E20: what the name means: a function, a class, a reserved name, or a method of the object
  abbrev pub value_detail : OwnedExpr → Option (Detail Tree)
  value_detail o = option_map detail.not_a_value (meaning_here (resolve m o.owner) o.expr)

  -- ---- displays

  -- the key type of a dict display: int if each key is one, else str
  abbrev key_kind : List Tree → Tree
  key_kind keys = if list_all (λ t. static_test (bases_of m) t Int) keys then Int else Str

  -- the type of a dict display of these keys and values
  abbrev dict_display : (keys values : List Tree) → Tree
  dict_display keys values = DictOf (key_kind keys) (join_all (bases_of m) values)

  -- the type that a display would have, if it had not too many nodes
  abbrev pub display_type : Expr → Option Tree
  display_type (tuple p es) = Some (TupleOf (trees (types_here es)))
  display_type (list p es) = Some (ListOf (join_all (bases_of m) (types_here es)))
  display_type (dict p es) = Some (dict_display (key_types_here es) (value_types_here es))
  display_type _ = None

  -- E26 at a display: the number of nodes of its type
  abbrev pub display_size : Expr → Option (Detail Tree)
  display_size e = option_map (λ t. detail.size (told_nodes (nodes t))) (display_type e)

  -- E22: the first three different types of the keys of a dict display
  abbrev pub keys_detail : Expr → Option (Detail Tree)
  keys_detail (dict p es) = Some (detail.keys (take 3 (different [] (key_types_here es))))
  keys_detail _ = None
