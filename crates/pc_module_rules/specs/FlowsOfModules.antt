-- The flows with a code under the labelling of a module, one after another: at the defaults of functions; in constants,
-- and at the defaults in classes; and then in bodies, in text order. Own rule of the profile.
use Rattle.std.specs.Prelude.{◌≡◌, List, [], ◌∷◌, ◌++◌, Option, Some, None, Contains}
use Rattle.pc_source.specs.declared.place.Place.{Place}
use Rattle.pc_tree.specs.declared.code.Code.{Code}
use Rattle.pc_tree.specs.declared.code.Code.TheVariants.{A1, E12}
use Rattle.pc_tree.specs.Depth.{place_of}
use Rattle.pc_tree.specs.Tree.{Literal, Param, Member, field_member, method_member, Item, constant_item}
use Rattle.pc_tree.specs.Tree.{class_item, def_item, Module}
use Rattle.pc_types.specs.Tree.{Tree}
use Rattle.pc_rules.specs.Labels.{FlowLabels}
use Rattle.pc_rules.specs.Signatures.{literal_place, ParamsLabels}
use Rattle.pc_module_rules.specs.Modules.{MembersLabels, ItemLabels, ModuleItemsLabels, Labelling, IsLawful}
use Rattle.pc_module_rules.specs.FlowsOfExpressions.{CodedFlow, coded_at, coded_in}
use Rattle.pc_module_rules.specs.FlowsOfStatements.{coded_in_suite}

-- the flows in each item, one after another
abbrev pub flows_in_each : ((i : Item) → ItemLabels i → List CodedFlow) → (items : List Item) → ModuleItemsLabels items
    → List CodedFlow
flows_in_each flows [] labels = []
flows_in_each flows (i ∷ rest) labels = flows i labels.first ++ flows_in_each flows rest labels.rest

module _ (code : Code) where
  -- the flows with this code at a default, if there is one
  abbrev pub coded_at_default : Option Literal → FlowLabels → List CodedFlow
  coded_at_default None flows = []
  coded_at_default (Some l) flows = coded_at code (literal_place l) flows

  -- the flows with this code at the defaults of parameters
  abbrev pub coded_in_params : (ps : List Param) → ParamsLabels ps → List CodedFlow
  coded_in_params [] labels = []
  coded_in_params (p ∷ ps) labels = coded_at_default p.default labels.default ++ coded_in_params ps labels.rest

  -- the flows with this code at the defaults of fields, and of the parameters of methods
  abbrev pub coded_in_members : (ms : List Member) → MembersLabels ms → List CodedFlow
  coded_in_members [] labels = []
  coded_in_members (field_member x ∷ rest) labels = coded_at_default x.default labels.default
      ++ coded_in_members rest labels.rest
  coded_in_members (method_member f ∷ rest) labels = coded_in_params f.params labels.method.params
      ++ coded_in_members rest labels.rest

  -- the flows with this code in the bodies of methods
  abbrev pub coded_in_methods : (ms : List Member) → MembersLabels ms → List CodedFlow
  coded_in_methods [] labels = []
  coded_in_methods (field_member x ∷ rest) labels = coded_in_methods rest labels.rest
  coded_in_methods (method_member f ∷ rest) labels = coded_in_suite code f.body labels.method.body
      ++ coded_in_methods rest labels.rest

  -- the flows with this code at the defaults of a function, none if the item is not a function
  abbrev pub coded_in_function : (i : Item) → ItemLabels i → List CodedFlow
  coded_in_function (constant_item p c) labels = []
  coded_in_function (class_item p c) labels = []
  coded_in_function (def_item p f) labels = coded_in_params f.params labels.params

  -- the flows with this code of a constant, in its initializer and into its type, or at the defaults in a class; none
  -- if the item is a function
  abbrev pub coded_in_item : (i : Item) → ItemLabels i → List CodedFlow
  coded_in_item (constant_item p c) labels = coded_in code c.value labels.value ++ coded_at code (place_of c.value)
      labels.flows
  coded_in_item (class_item p c) labels = coded_in_members c.members labels
  coded_in_item (def_item p f) labels = []

  -- the flows with this code in the body of a function, or in the bodies of a class's methods
  abbrev pub coded_in_body : (i : Item) → ItemLabels i → List CodedFlow
  coded_in_body (constant_item p c) labels = []
  coded_in_body (class_item p c) labels = coded_in_methods c.members labels
  coded_in_body (def_item p f) labels = coded_in_suite code f.body labels.body

  -- the flows with this code of a module under a labelling
  abbrev pub coded_flows : (m : Module) → Labelling m → List CodedFlow
  coded_flows m labels = (flows_in_each coded_in_function m.items labels ++ flows_in_each coded_in_item m.items labels)
      ++ flows_in_each coded_in_body m.items labels

-- the flow of this type into that one is the first of these flows at this place
pub record IsFirstAt (place : Place) (from into : Tree) (flows : List CodedFlow) : Type 0 where
  pub before : List CodedFlow
  pub behind : List CodedFlow
  pub order : flows ≡ before ++ (record { place = place; from = from; into = into } ∷ behind)
  pub none_before : (d : CodedFlow) → Contains before d → ¬ (d.place ≡ place)

-- the first type flows into the second at this place with this code: under every lawful labelling of the module theirs
-- is the first such flow there
abbrev pub FlowsWith : Code → Module → Place → (from into : Tree) → Type 0
FlowsWith code m p s t = (labels : Labelling m) → IsLawful m labels → IsFirstAt p s t (coded_flows code m labels)

-- some type flows at this place with this code
pub record HasFlow (code : Code) (m : Module) (place : Place) : Type 0 where
  pub from : Tree
  pub into : Tree
  pub flows : FlowsWith code m place from into

-- the first type flows dynamically into the second at this place: theirs is the first flow there with A1
abbrev pub FlowsDynamically : Module → Place → (from into : Tree) → Type 0
FlowsDynamically m p s t = FlowsWith A1 m p s t

-- some type flows dynamically at this place
abbrev pub HasDynamicFlow : Module → Place → Type 0
HasDynamicFlow m p = HasFlow A1 m p

-- the first type flows wrongly into the second at this place: theirs is the first flow there with E12
abbrev pub FlowsWrongly : Module → Place → (from into : Tree) → Type 0
FlowsWrongly m p s t = FlowsWith E12 m p s t

-- some type flows wrongly at this place
abbrev pub HasWrongFlow : Module → Place → Type 0
HasWrongFlow m p = HasFlow E12 m p
