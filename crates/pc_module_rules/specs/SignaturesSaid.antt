-- The findings under the labels of a module outside its bodies: in the signatures of its functions and methods, in its
-- fields and in its constants. Own rule of the profile.
use Rattle.std.specs.Prelude.{◌⊎◌, List, [], ◌∷◌}
use Rattle.pc_tree.specs.declared.code.Finding.{Finding}
use Rattle.pc_tree.specs.Tree.{FuncDef, Member, field_member, method_member, Item, constant_item, class_item, def_item}
use Rattle.pc_tree.specs.Tree.{Module}
use Rattle.pc_tree.specs.Depth.{place_of}
use Rattle.pc_annotations.specs.Annotations.{AnnFinds, OptionAnnFinds}
use Rattle.pc_class.specs.Bases.{bases_of}
use Rattle.pc_rules.specs.Labels.{Finds, IsFlowAt}
use Rattle.pc_rules.specs.Signatures.{DefaultFinds, ParamsLabels, ParamsFind}
use Rattle.pc_module_rules.specs.Modules.{MembersLabels, ItemLabels, ModuleItemsLabels, Labelling}

module _ (m : Module) where
  -- the findings in the signature of a function: in its annotations, and at its defaults
  abbrev pub SignatureSays : (f : FuncDef) → ParamsLabels f.params → Finding → Type 0
  SignatureSays f params g = ParamsFind m f.params params g ⊎ OptionAnnFinds m (bases_of m) f.returns g

  -- the findings in members: in the annotations and at the defaults of fields, and in the signatures of methods
  abbrev pub MembersSay : (ms : List Member) → MembersLabels ms → Finding → Type 0
  MembersSay [] labels g = ⊥
  MembersSay (field_member d ∷ rest) labels g =
      (AnnFinds m (bases_of m) d.annotation g ⊎ DefaultFinds d.default labels.default g) ⊎ MembersSay rest labels.rest g
  MembersSay (method_member d ∷ rest) labels g = SignatureSays d labels.method.params g ⊎ MembersSay rest labels.rest g

  -- the findings in the signature of an item that is a function
  abbrev pub FunctionSays : (i : Item) → ItemLabels i → Finding → Type 0
  FunctionSays (constant_item p c) labels f = ⊥
  FunctionSays (class_item p c) labels f = ⊥
  FunctionSays (def_item p d) labels f = SignatureSays d labels.params f

  -- the findings in the signatures of the functions among items
  abbrev pub FunctionsSay : (items : List Item) → ModuleItemsLabels items → Finding → Type 0
  FunctionsSay [] labels f = ⊥
  FunctionsSay (i ∷ rest) labels f = FunctionSays i labels.first f ⊎ FunctionsSay rest labels.rest f

  -- the findings of an item that is a constant: in its annotation, in its initializer and of its flow; of a class: in
  -- its members
  abbrev pub ItemSays : (i : Item) → ItemLabels i → Finding → Type 0
  ItemSays (constant_item p c) labels f = OptionAnnFinds m (bases_of m) c.annotation f
      ⊎ (Finds c.value labels.value f ⊎ IsFlowAt (place_of c.value) labels.flows f)
  ItemSays (class_item p c) labels f = MembersSay c.members labels f
  ItemSays (def_item p d) labels f = ⊥

  -- the findings of the constants and classes among items
  abbrev pub ItemsSay : (items : List Item) → ModuleItemsLabels items → Finding → Type 0
  ItemsSay [] labels f = ⊥
  ItemsSay (i ∷ rest) labels f = ItemSays i labels.first f ⊎ ItemsSay rest labels.rest f

  -- the findings under a labelling outside bodies: in the signatures of functions, in the constants and in the classes
  abbrev pub SignaturesSay : Labelling m → Finding → Type 0
  SignaturesSay labels f = FunctionsSay m.items labels f ⊎ ItemsSay m.items labels f
