-- The lawful labelling of functions, classes and a module, and the findings of a module.
-- Language Reference 3.12, 8.7 "Function definitions", 8.8 "Class definitions"; own rules of the profile.
use Rattle.std.specs.Prelude.{◌≡◌, ◌⊎◌, ℕ, suc, List, [], ◌∷◌, ◌++◌, length, Bool as Test, true, false, not, Option}
use Rattle.std.specs.Prelude.{Some, None, codes}
use Rattle.pc_tree.specs.declared.code.Code.{Code}
use Rattle.pc_tree.specs.declared.code.Code.TheVariants.{E21}
use Rattle.pc_tree.specs.declared.code.Finding.{Finding}
use Rattle.pc_tree.specs.Tree.{FuncDef, Member, field_member, method_member, Item, constant_item, class_item, def_item}
use Rattle.pc_tree.specs.Tree.{Module}
use Rattle.pc_tree.specs.Depth.{place_of}
use Rattle.pc_scope.specs.declared.resolution.Owner.{Owner}
use Rattle.pc_scope.specs.declared.resolution.Owner.TheVariants as owners
use Rattle.pc_scope.specs.Resolution.{is_one_of, receiver, locals, resolve_among}
use Rattle.pc_scope.specs.declared.resolution.NameMeaning.{NameMeaning}
use Rattle.pc_scope.specs.declared.resolution.NameMeaning.TheVariants as meaning
use Rattle.pc_scope_findings.specs.Findings.{ScopeFinds}
use Rattle.pc_types.specs.Tree.{Tree, NoneType}
use Rattle.pc_types.specs.Tree as tree
use Rattle.pc_types.specs.Below.{Bases, Static}
use Rattle.pc_annotations.specs.Annotations.{read_ann, AnnFinds, OptionAnnFinds}
use Rattle.pc_class.specs.Bases.{bases_of}
use Rattle.pc_class.specs.Facts.{TypedParameter, ClassFacts, binds_field, parameters_of, return_type}
use Rattle.pc_class.specs.Findings.{ClassFinds, base_class}
use Rattle.pc_flow.specs.Environment.{Env, none_assigned, assign, declared_type}
use Rattle.pc_rules.specs.Context.{FlowsInto}
use Rattle.pc_rules.specs.Labels.{FlowLabels, Labels, whole_label, type_of, Finds, IsFlowAt, IsCodeAt, is_of_scopes}
use Rattle.pc_rules.specs.Lawful.{Lawful}
use Rattle.pc_rules.specs.Signatures.{body_context, initializer_context, LawfulDefault, DefaultFinds, ParamsLabels}
use Rattle.pc_rules.specs.Signatures.{LawfulParams, ParamsFind, binds_name, constant_type, annotated_types}
use Rattle.pc_rules.specs.Signatures.{first_of_types}
use Rattle.pc_module_rules.specs.StatementLabels.{SuiteLabels}
use Rattle.pc_module_rules.specs.Statements.{NamesBound, LawfulSuite, SuiteFinds}

-- ---- functions

-- the parameter of a method before its own: `self`, of its class
abbrev pub receiver_parameter : Owner → List TypedParameter
receiver_parameter owners.Module = []
receiver_parameter (owners.Func i) = []
receiver_parameter (owners.Method c i) = record { name = codes "self"; type = tree.Class c; has_default = false } ∷ []

-- the parameters of a function at its entry: `self` in a method, then its own
abbrev pub entry_parameters : Module → Owner → FuncDef → List TypedParameter
entry_parameters m owner f = receiver_parameter owner ++ parameters_of m f.params

-- the names bound at the entry of a function
abbrev pub names_entered : NamesBound → List TypedParameter → NamesBound
names_entered seen [] = seen
names_entered seen (p ∷ ps) = names_entered (p.name ∷ seen) ps

-- the declared type of a parameter is its type; a name that is already bound, or reserved, binds nothing
abbrev pub DeclaredEntry : (declared : List Tree) → (first : Test) → NameMeaning → Tree → Type 0
DeclaredEntry declared true (meaning.Local x) t = declared_type declared x ≡ t
DeclaredEntry declared first r t = Unit {0}

-- each parameter that binds a local has its type as declared type, after the names bound so far
abbrev pub LawfulEntry : (List ℕ → NameMeaning) → (declared : List Tree) → NamesBound → List TypedParameter → Type 0
LawfulEntry resolve declared seen [] = Unit {0}
LawfulEntry resolve declared seen (p ∷ ps) =
    DeclaredEntry declared (not (is_one_of p.name seen)) (resolve p.name) p.type
    × LawfulEntry resolve declared (p.name ∷ seen) ps

-- at the entry the parameters are assigned, and no other local
abbrev pub assigned_at_entry : (first : Test) → NameMeaning → Tree → Env → Env
assigned_at_entry true (meaning.Local x) t env = assign env x t
assigned_at_entry first r t env = env

-- the environment with these parameters assigned, after the names bound so far
abbrev pub entry_env : (List ℕ → NameMeaning) → NamesBound → List TypedParameter → Env → Env
entry_env resolve seen [] env = env
entry_env resolve seen (p ∷ ps) env =
    entry_env resolve (p.name ∷ seen) ps (assigned_at_entry (not (is_one_of p.name seen)) (resolve p.name) p.type env)

-- the code at a function's name: E21 if the body can complete, and None is not a static subtype of the return type
pub data ReturnsWell (bases : Bases) (return_type : Tree) : Option Env → Option Code → Type 0 where
  leaves : ReturnsWell bases return_type None None
  may_complete : {env : Env} → Static bases NoneType return_type → ReturnsWell bases return_type (Some env) None
  may_not : {env : Env} → ¬ (Static bases NoneType return_type) → ReturnsWell bases return_type (Some env) (Some E21)

-- the labels of a function: the flows of its defaults, the declared types of its locals, the labels of its body, the
-- environment at its end, and the code at its name
abbrev pub FunctionLabels : FuncDef → Type 0
FunctionLabels f = record {
  params : ParamsLabels f.params;
  declared : List Tree;
  body : SuiteLabels f.body;
  out : Option Env;
  completing : Option Code;
}

-- the labels of a function are lawful: its defaults, its locals' declared types, its body and its E21
abbrev pub LawfulFunction : Module → (constants : List Tree) → Owner → (f : FuncDef) → FunctionLabels f → Type 0
LawfulFunction m constants owner f labels = record {
  params : LawfulParams m (receiver owner) f.params labels.params;
  each_local : length labels.declared ≡ length (locals owner f);
  entry : LawfulEntry (resolve_among m (locals owner f)) labels.declared [] (entry_parameters m owner f);
  body : LawfulSuite m (body_context m constants (locals owner f)) labels.declared (return_type m f)
      (names_entered [] (entry_parameters m owner f))
      (entry_env (resolve_among m (locals owner f)) [] (entry_parameters m owner f)
      (none_assigned (length (locals owner f)))) f.body labels.body labels.out;
  completing : ReturnsWell (bases_of m) (return_type m f) labels.out labels.completing;
}

-- the findings of a function: in annotations, at defaults, in the body, and at the name
abbrev pub FunctionFinds : Module → (constants : List Tree) → Owner → (f : FuncDef) → FunctionLabels f → Finding
    → Type 0
FunctionFinds m constants owner f labels g =
    ParamsFind m f.params labels.params g
    ⊎ (OptionAnnFinds m (bases_of m) f.returns g
    ⊎ (IsCodeAt f.name.place labels.completing g
    ⊎ SuiteFinds m (body_context m constants (locals owner f))
    (names_entered [] (entry_parameters m owner f)) f.body labels.body g))

-- ---- classes

-- the labels of members: the flow of the default of each field, and the labels of each method
abbrev pub MembersLabels : List Member → Type 0
MembersLabels [] = Unit {0}
MembersLabels (field_member d ∷ rest) = record { default : FlowLabels; rest : MembersLabels rest }
MembersLabels (method_member d ∷ rest) = record { method : FunctionLabels d; rest : MembersLabels rest }

-- the labels of members are lawful, after members of these names and this number of methods
abbrev pub LawfulMembers : Module → (constants : List Tree) → ClassFacts → (c number : ℕ) → (before : List (List ℕ))
    → (ms : List Member) → MembersLabels ms → Type 0
LawfulMembers m constants base c number before [] labels = Unit {0}
LawfulMembers m constants base c number before (field_member d ∷ ms) labels = record {
  default : LawfulDefault (bases_of m) (binds_field base before d.name.text) d.default
      (read_ann m (bases_of m) d.annotation) labels.default;
  others : LawfulMembers m constants base c number (d.name.text ∷ before) ms labels.rest;
}
LawfulMembers m constants base c number before (method_member d ∷ ms) labels = record {
  method : LawfulFunction m constants (owners.Method c number) d labels.method;
  others : LawfulMembers m constants base c (suc number) (d.name.text ∷ before) ms labels.rest;
}

-- the findings in members: in annotations, at defaults, and in methods
abbrev pub MembersFind : Module → (constants : List Tree) → (c number : ℕ) → (ms : List Member) → MembersLabels ms
    → Finding → Type 0
MembersFind m constants c number [] labels f = ⊥
MembersFind m constants c number (field_member d ∷ rest) labels f = AnnFinds m (bases_of m) d.annotation f
    ⊎ (DefaultFinds d.default labels.default f ⊎ MembersFind m constants c number rest labels.rest f)
MembersFind m constants c number (method_member d ∷ rest) labels f =
    FunctionFinds m constants (owners.Method c number) d labels.method f
    ⊎ MembersFind m constants c (suc number) rest labels.rest f

-- ---- constants and items

-- the labels of an item: of an initializer and its flow, of a class's members, or of a function
abbrev pub ItemLabels : Item → Type 0
ItemLabels (constant_item p c) = record { value : Labels c.value; flows : FlowLabels }
ItemLabels (class_item p c) = MembersLabels c.members
ItemLabels (def_item p f) = FunctionLabels f

-- the labels of the items of a module, one after another
abbrev pub ModuleItemsLabels : List Item → Type 0
ModuleItemsLabels [] = Unit {0}
ModuleItemsLabels (i ∷ rest) = record { first : ItemLabels i; rest : ModuleItemsLabels rest }

-- the type of an item that is a constant, none for a class or a function
abbrev pub item_constants : Module → (i : Item) → ItemLabels i → List Tree
item_constants m (constant_item p c) labels = constant_type m c.annotation (type_of c.value labels.value) ∷ []
item_constants m (class_item p c) labels = []
item_constants m (def_item p f) labels = []

-- the types of the constants among items, in text order
abbrev pub constant_types : Module → (items : List Item) → ModuleItemsLabels items → List Tree
constant_types m [] labels = []
constant_types m (i ∷ rest) labels = item_constants m i labels.first ++ constant_types m rest labels.rest

-- the state before an item: the types of the constants, the numbers of classes and functions, and the names
pub record BeforeItem : Type 0 where
  pub constants : List Tree
  pub classes : ℕ
  pub functions : ℕ
  pub names : List (List ℕ)

-- the state before the first item
abbrev pub nothing_before : BeforeItem
nothing_before = record { constants = []; classes = 0; functions = 0; names = [] }

-- the state before the next item, with this one included
abbrev pub before_next : Module → BeforeItem → (i : Item) → ItemLabels i → BeforeItem
before_next m b (constant_item p c) labels =
    record {
      constants = b.constants ++ item_constants m (constant_item p c) labels;
      classes = b.classes;
      functions = b.functions;
      names = c.name.text ∷ b.names;
    }
before_next m b (class_item p c) labels = record {
  constants = b.constants;
  classes = suc b.classes;
  functions = b.functions;
  names = c.name.text ∷ b.names;
}
before_next m b (def_item p f) labels = record {
  constants = b.constants;
  classes = b.classes;
  functions = suc b.functions;
  names = f.name.text ∷ b.names;
}

-- the labels of an item are lawful: an initializer with its flow, a class's members, or a function
abbrev pub LawfulItem : Module → (constants : List Tree) → BeforeItem → (i : Item) → ItemLabels i → Type 0
LawfulItem m constants b (constant_item p c) labels = record {
  value : Lawful (initializer_context m b.constants b.classes) [] []
      (first_of_types (annotated_types m (binds_name b.names c.name) c.annotation)) c.value labels.value;
  flow : FlowsInto (bases_of m) (whole_label c.value labels.value)
      (annotated_types m (binds_name b.names c.name) c.annotation) labels.flows;
}
LawfulItem m constants b (class_item p c) labels =
    LawfulMembers m constants (base_class m b.classes c) b.classes 0 [] c.members labels
LawfulItem m constants b (def_item p f) labels = LawfulFunction m constants (owners.Func b.functions) f labels

-- the labels of items are lawful, each in the state before it
abbrev pub LawfulModuleItems : Module → (constants : List Tree) → BeforeItem → (items : List Item) → ModuleItemsLabels items
    → Type 0
LawfulModuleItems m constants b [] labels = Unit {0}
LawfulModuleItems m constants b (i ∷ rest) labels = LawfulItem m constants b i labels.first
    × LawfulModuleItems m constants (before_next m b i labels.first) rest labels.rest

-- the findings in an item: a constant, a class or a function
abbrev pub ItemFinds : Module → (constants : List Tree) → BeforeItem → (i : Item) → ItemLabels i → Finding → Type 0
ItemFinds m constants b (constant_item p c) labels f = OptionAnnFinds m (bases_of m) c.annotation f
    ⊎ (IsFlowAt (place_of c.value) labels.flows f ⊎ Finds c.value labels.value f)
ItemFinds m constants b (class_item p c) labels f = MembersFind m constants b.classes 0 c.members labels f
ItemFinds m constants b (def_item p d) labels f = FunctionFinds m constants (owners.Func b.functions) d labels f

-- the findings in items, each in the state before it
abbrev pub ModuleItemsFind : Module → (constants : List Tree) → BeforeItem → (items : List Item) → ModuleItemsLabels items → Finding
    → Type 0
ModuleItemsFind m constants b [] labels f = ⊥
ModuleItemsFind m constants b (i ∷ rest) labels f = ItemFinds m constants b i labels.first f
    ⊎ ModuleItemsFind m constants (before_next m b i labels.first) rest labels.rest f

-- ---- the module

-- a labelling of a module
abbrev pub Labelling : Module → Type 0
Labelling m = ModuleItemsLabels m.items

-- a labelling is lawful if each node follows its own rule
abbrev pub IsLawful : (m : Module) → Labelling m → Type 0
IsLawful m labels = LawfulModuleItems m (constant_types m m.items labels) nothing_before m.items labels

-- a module has a lawful labelling
pub record HasLabelling (m : Module) : Type 0 where
  pub labels : Labelling m
  pub lawful : IsLawful m labels

-- the findings under the labels of a module, with those of scope analysis
abbrev pub LabelsSay : (m : Module) → Labelling m → Finding → Type 0
LabelsSay m labels f = ModuleItemsFind m (constant_types m m.items labels) nothing_before m.items labels f

-- the findings under the labels of a module that scope analysis does not report
pub record LabelsFind (m : Module) (labels : Labelling m) (f : Finding) : Type 0 where
  pub own : is_of_scopes f.code ≡ false
  pub said : LabelsSay m labels f

-- a finding of a module: one of scope analysis, one of classes, or one under its lawful labelling
pub record IsFinding (m : Module) (f : Finding) : Type 0 where
  pub labels : Labelling m
  pub lawful : IsLawful m labels
  pub found : ScopeFinds m f ⊎ (ClassFinds m f ⊎ LabelsFind m labels f)

-- a module has at most one lawful labelling
abbrev pub HasOneLabelling : Module → Type 0
HasOneLabelling m = (labels others : Labelling m) → IsLawful m labels → IsLawful m others → labels ≡ others

-- a module has exactly one lawful labelling
abbrev pub HasExactlyOneLabelling : Module → Type 0
HasExactlyOneLabelling m = HasLabelling m × HasOneLabelling m
