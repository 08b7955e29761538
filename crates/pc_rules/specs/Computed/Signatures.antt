-- The notes of the signatures of a module and of its constants, as lists, and the types of the constants: computed twin
-- of the rules on annotations, defaults and initializers. The findings in the annotations of fields, and of methods
-- that bind their names, are not among them: those are `member_annotations` of pc_class. First come the notes of
-- functions, since each initializer may name them; then those of classes and constants, in text order. Names already
-- bound are given by a test of texts. Own rule of the profile.
use Rattle.std.specs.Prelude.{ℕ, suc, List, [], ◌∷◌, ◌++◌, map, Bool as Test, true, false, ◌&&◌, ◌||◌, not, Option}
use Rattle.std.specs.Prelude.{Some, None, is_some, codes, bytes_eq, String, if◌then◌else◌}
use Rattle.std.specs.Global.{Global}
use Rattle.indexmap.specs.IndexSet.{IndexSet}
use Rattle.pc_tree.specs.Tree.{Expr, Literal, Param, FuncDef, Field, Member, field_member, method_member, ClassDef}
use Rattle.pc_tree.specs.Tree.{Constant, Item, constant_item, class_item, def_item, Module}
use Rattle.pc_tree.specs.Stopping.{name_of_member}
use Rattle.pc_tree.specs.Depth.{place_of}
use Rattle.pc_scope.specs.Reserved.{is_builtin_name}
use Rattle.pc_scope.specs.Bindings.{classes_in, methods_in}
use Rattle.pc_scope.specs.Resolution.{is_one_of}
use Rattle.pc_scope.specs.Internal.WalkViews.{texts_in}
use Rattle.pc_types.specs.Tree.{Tree}
use Rattle.pc_types.specs.Below.{Bases, base_of}
use Rattle.pc_annotations.specs.Annotations.{read_ann, read_option}
use Rattle.pc_annotations.specs.Listed.{option_findings}
use Rattle.pc_class.specs.Bases.{bases_of}
use Rattle.pc_class.specs.Facts.{ClassFacts, field_by_name, method_by_name, base_facts, classes_of}
use Rattle.pc_notes.specs.Notes.{Note, plain_note}
use Rattle.pc_rules.specs.Operations.{Label, clean}
use Rattle.pc_rules.specs.Context.{Signature}
use Rattle.pc_rules.specs.Computed.Expressions.{flows_of}
use Rattle.pc_rules.specs.Computed.Findings.{flows_at, name_after}
use Rattle.pc_rules.specs.Signatures.{signature_of, initializer_context, literal_type, literal_place, annotated_types}
use Rattle.pc_rules.specs.Signatures.{first_of_types, constant_type}
use Rattle.pc_rules.specs.Computed.Standing.{Standing, label_in, finds_in}

-- ---- names that are bound already

-- the test of no bound names
abbrev pub no_name : List ℕ → Test
no_name t = false

-- the test of one more bound name
abbrev pub with_name : (bound : List ℕ → Test) → List ℕ → List ℕ → Test
with_name bound name t = bytes_eq t name || bound t

-- the test of the names in a set
abbrev pub is_in_names : {S : Type 0} → IndexSet (String Global) S → List ℕ → Test
is_in_names s t = is_one_of t (texts_in s)

-- whether a text is bound as a name here: it is not reserved, and not bound already
abbrev pub binds_text : (bound : List ℕ → Test) → List ℕ → Test
binds_text bound t = not (is_builtin_name t || bound t)

-- whether a base has a field or a method of a name
abbrev pub base_has_member : ClassFacts → List ℕ → Test
base_has_member base name = is_some (field_by_name base.fields name) || is_some (method_by_name base.methods name)

-- whether a field binds its name: it is not reserved, not `mro`, not bound already, and no field or method of an
-- ancestor
abbrev pub binds_as_field : ClassFacts → (bound : List ℕ → Test) → List ℕ → Test
binds_as_field base bound name = not (is_builtin_name name || bytes_eq name (codes "mro"))
    && (not (bound name) && not (base_has_member base name))

-- whether a method binds its name: it is not reserved, not bound already, and no field of an ancestor
abbrev pub binds_as_method : ClassFacts → (bound : List ℕ → Test) → List ℕ → Test
binds_as_method base bound name = not (is_builtin_name name)
    && (not (bound name) && not (is_some (field_by_name base.fields name)))

-- ---- defaults

-- the notes of the flow of a default's literal, at the literal
abbrev pub literal_findings : Bases → Literal → Tree → List Note
literal_findings bases l t = flows_at (literal_place l) (flows_of bases (clean (literal_type l)) (t ∷ []))

-- the notes at a default: the code of its flow; none if its name is not bound
abbrev pub default_findings : Bases → (binds : Test) → Option Literal → Tree → List Note
default_findings bases binds None t = []
default_findings bases false (Some l) t = []
default_findings bases true (Some l) t = literal_findings bases l t

-- ---- the state of a walk over items

-- the state of a walk over items: the types of the constants, the number of classes, and the bound names so far
pub record ItemsReached : Type 0 where
  pub constants : List Tree
  pub classes : ℕ
  pub bound : List ℕ → Test

-- the state before the first item
abbrev pub nothing_reached : ItemsReached
nothing_reached = record { constants = []; classes = 0; bound = no_name }

module _ (m : Module) where
  -- ---- functions

  -- the notes at the default of a parameter
  abbrev pub param_default : (bound : List ℕ → Test) → Param → List Note
  param_default bound p = default_findings (bases_of m) (binds_text bound p.name.text) p.default
      (read_option m (bases_of m) p.annotation)

  -- the notes of a parameter: in its annotation, and at its default
  abbrev pub param_findings : (bound : List ℕ → Test) → Param → List Note
  param_findings bound p = map plain_note (option_findings m (bases_of m) p.annotation) ++ param_default bound p

  -- the notes of parameters, after names that are bound already
  abbrev pub params_findings : (bound : List ℕ → Test) → List Param → List Note
  params_findings bound [] = []
  params_findings bound (p ∷ ps) = param_findings bound p ++ params_findings (with_name bound p.name.text) ps

  -- the notes of the signature of a function: of its parameters, and in its return annotation
  abbrev pub def_findings : (bound : List ℕ → Test) → FuncDef → List Note
  def_findings bound f = params_findings bound f.params ++ map plain_note (option_findings m (bases_of m) f.returns)

  -- the notes of the signature of an item that is a function
  abbrev pub function_findings : Item → List Note
  function_findings (constant_item p c) = []
  function_findings (class_item p c) = []
  function_findings (def_item p f) = def_findings no_name f

  -- the notes of the signatures of the functions among items
  abbrev pub functions_findings : List Item → List Note
  functions_findings [] = []
  functions_findings (i ∷ is) = function_findings i ++ functions_findings is

  -- ---- classes

  -- the notes at the default of a field
  abbrev pub field_default : ClassFacts → (bound : List ℕ → Test) → Field → List Note
  field_default base bound d = default_findings (bases_of m) (binds_as_field base bound d.name.text) d.default
      (read_ann m (bases_of m) d.annotation)

  -- the notes at the defaults of parameters, after names that are bound already
  abbrev pub params_defaults : (bound : List ℕ → Test) → List Param → List Note
  params_defaults bound [] = []
  params_defaults bound (p ∷ ps) = param_default bound p ++ params_defaults (with_name bound p.name.text) ps

  -- the notes at the defaults of a method, after `self`
  abbrev pub method_defaults : FuncDef → List Note
  method_defaults d = params_defaults (with_name no_name (codes "self")) d.params

  -- the notes of a method apart from the class table: at its defaults, and in its annotations if it binds no name
  abbrev pub method_findings : (binds : Test) → FuncDef → List Note
  method_findings binds d = if binds then method_defaults d else def_findings (with_name no_name (codes "self")) d

  -- the notes of a member apart from the class table
  abbrev pub member_findings : ClassFacts → (bound : List ℕ → Test) → Member → List Note
  member_findings base bound (field_member d) = field_default base bound d
  member_findings base bound (method_member d) = method_findings (binds_as_method base bound d.name.text) d

  -- the notes of members apart from the class table, after names that are bound already
  abbrev pub members_findings : ClassFacts → (bound : List ℕ → Test) → List Member → List Note
  members_findings base bound [] = []
  members_findings base bound (x ∷ xs) = member_findings base bound x
      ++ members_findings base (with_name bound (name_of_member x).text) xs

  -- the facts of the base of a class of this number
  abbrev pub base_at : ℕ → ClassFacts
  base_at c = base_facts (classes_of m) (base_of (bases_of m) c)

  -- the notes of the members of a class of this number apart from the class table
  abbrev pub class_notes : ℕ → ClassDef → List Note
  class_notes c d = members_findings (base_at c) no_name d.members

  -- the signatures of the methods of a class
  abbrev pub class_methods : ClassDef → List Signature
  class_methods c = map (signature_of m) (methods_in c.members)

  -- the signatures of the methods of each class
  abbrev pub signatures_of_methods : List ClassDef → List (List Signature)
  signatures_of_methods cs = map class_methods cs

  -- ---- constants

  -- the standing of an initializer, after constants of these types and this number of classes
  abbrev pub initial : (keeps : Test) → (constants : List Tree) → (classes : ℕ) → Standing
  initial keeps constants classes = record {
    context = initializer_context m constants classes;
    declared = [];
    env = [];
    keeps = keeps;
  }

  -- the types that an initializer flows into
  abbrev pub initializer_types : ItemsReached → Constant → List Tree
  initializer_types r c = annotated_types m (binds_text r.bound c.name.text) c.annotation

  -- the label of an initializer
  abbrev pub initializer_label : ItemsReached → Constant → Label
  initializer_label r c = label_in (initial false r.constants r.classes) (first_of_types (initializer_types r c))
      c.value

  -- the type of a constant
  abbrev pub type_of_constant : ItemsReached → Constant → Tree
  type_of_constant r c = constant_type m c.annotation (initializer_label r c).type

  -- the notes of an initializer that flows into these types: in it, and of its flow
  abbrev pub value_findings : (keeps : Test) → ItemsReached → (into : List Tree) → Expr → List Note
  value_findings keeps r into e =
      finds_in (initial keeps r.constants r.classes) (first_of_types into) e
      ++ flows_at (place_of e)
      (flows_of (bases_of m) (label_in (initial false r.constants r.classes) (first_of_types into) e) into)

  -- the notes of a constant: in its annotation, and of its initializer
  abbrev pub constant_findings : (keeps : Test) → ItemsReached → Constant → List Note
  constant_findings keeps r c = map plain_note (option_findings m (bases_of m) c.annotation)
      ++ value_findings keeps r (initializer_types r c) c.value

  -- ---- items

  -- the state after one more item
  abbrev pub behind : ItemsReached → Item → ItemsReached
  behind r (constant_item p c) = record {
    constants = r.constants ++ type_of_constant r c ∷ [];
    classes = r.classes;
    bound = with_name r.bound c.name.text;
  }
  behind r (class_item p c) = record {
    constants = r.constants;
    classes = suc r.classes;
    bound = with_name r.bound c.name.text;
  }
  behind r (def_item p f) = record {
    constants = r.constants;
    classes = r.classes;
    bound = with_name r.bound f.name.text;
  }

  -- the state after items
  abbrev pub behind_all : ItemsReached → List Item → ItemsReached
  behind_all r [] = r
  behind_all r (i ∷ is) = behind_all (behind r i) is

  -- the notes of an item that is a constant, and of its name, or of the members of one that is a class
  abbrev pub item_findings : (keeps : Test) → ItemsReached → Item → List Note
  item_findings keeps r (constant_item p c) = name_after keeps (constant_findings keeps r c) c.name.place
      (type_of_constant r c) None
  item_findings keeps r (class_item p c) = class_notes r.classes c
  item_findings keeps r (def_item p f) = []

  -- the notes of the constants and classes among items
  abbrev pub items_findings : (keeps : Test) → ItemsReached → List Item → List Note
  items_findings keeps r [] = []
  items_findings keeps r (i ∷ is) = item_findings keeps r i ++ items_findings keeps (behind r i) is

  -- ---- the module

  -- the types of the constants, in text order
  unfoldable pub constants_of : List Tree
  constants_of = (behind_all nothing_reached m.items).constants

  -- the signatures of the methods of each class of the module
  unfoldable pub method_signatures : List (List Signature)
  method_signatures = signatures_of_methods (classes_in m.items)

  -- the notes of the signatures and the constants of a module, apart from those that the class table finds in
  -- annotations
  unfoldable pub signatures_find : (keeps : Test) → List Note
  signatures_find keeps = functions_findings m.items ++ items_findings keeps nothing_reached m.items
