-- The findings of the items of a module, and in their bodies, are those under lawful labels; and the types of its
-- constants are theirs.
use Rattle.std.proofs.Common.{◌≡◌, ◌⊎◌, ◌+◌, ℕ, suc, List, [], ◌∷◌, ◌++◌, refl, sym, ap, ◌∙◌, subst, arith}
use Rattle.std.proofs.Common.{append_assoc, append-nil}
use Rattle.std.specs.Prelude.{Some, slice_get, map, false}
use Rattle.pc_tree.specs.declared.code.Finding.{Finding}
use Rattle.pc_tree.specs.Tree.{ClassDef, Constant, Item, constant_item, class_item, def_item, Module}
use Rattle.pc_tree.specs.Depth.{place_of}
use Rattle.pc_scope.specs.Bindings.{classes_in}
use Rattle.pc_scope.specs.Resolution.{is_one_of}
use Rattle.pc_scope.specs.declared.resolution.Owner.TheVariants as owners
use Rattle.pc_types.specs.Tree.{Tree}
use Rattle.pc_types.specs.WellFormed.{IsWellFormed}
use Rattle.pc_annotations.specs.Annotations.{OptionAnnFinds}
use Rattle.pc_annotations.specs.Listed.{option_findings}
use Rattle.pc_class.specs.Annotated.{class_annotated, classes_annotated}
use Rattle.pc_class.specs.Bases.{bases_of}
use Rattle.pc_class.specs.Facts.{ClassFacts, base_facts, classes_of}
use Rattle.pc_class.specs.Findings.{base_class}
use Rattle.pc_class.proofs.ClassesBuilt.{base_here}
use Rattle.pc_flow.specs.WellFormed.{AreWellFormed}
use Rattle.pc_notes.specs.Notes.{Note, plain_note}
use Rattle.pc_rules.specs.Labels.{Labels, Finds, IsFlowAt, type_of}
use Rattle.pc_rules.specs.Operations.{Label}
use Rattle.pc_rules.specs.Signatures.{initializer_context, binds_name, constant_type, annotated_types, first_of_types}
use Rattle.pc_rules.specs.Computed.Signatures.{ItemsReached, type_of_constant, value_findings, constant_findings}
use Rattle.pc_rules.specs.Computed.Signatures.{members_findings, function_findings, functions_findings, behind}
use Rattle.pc_rules.specs.Computed.Signatures.{behind_all, class_notes, items_findings, no_name, base_at}
use Rattle.pc_rules.proofs.Contexts.{initializers_well_formed}
use Rattle.pc_rules.proofs.ComputedLawful.{has_labels}
use Rattle.pc_rules.proofs.InitializersListed.{initializer_label, value_listed}
use Rattle.pc_rules.proofs.One.{one_labelling}
use Rattle.pc_rules.proofs.SignaturesListed.{option_listed}
use Rattle.pc_module_rules.specs.Modules.{ItemLabels, ModuleItemsLabels, constant_types, BeforeItem, before_next, LawfulItem}
use Rattle.pc_module_rules.specs.Modules.{LawfulModuleItems}
use Rattle.pc_module_rules.specs.SignaturesSaid.{MembersSay, FunctionSays, FunctionsSay, ItemsSay}
use Rattle.pc_module_rules.specs.Computed.Statements.{function_finds}
use Rattle.pc_module_rules.specs.Computed.Modules.{methods_find, bodies_find}
use Rattle.pc_module_rules.specs.Laws.Walks.{Adds, BodySays, Lists}
use Rattle.pc_module_rules.proofs.LabelledModule.{wants_well_formed, first_well_formed, constant_well_formed, one_more}
use Rattle.pc_module_rules.proofs.WalkedFindings.{lists_nothing, lists_both, lists_beside, adds_nothing, adds_both}
use Rattle.pc_module_rules.proofs.WalkedFunctions.{bodies_say}
use Rattle.pc_module_rules.proofs.WalkedMembers.{signature_listed, MethodsSay, members_listed, methods_say, lists_each}
use Rattle.pc_module_rules.proofs.WalkedMembers.{without_annotations}

-- the state that a walk has reached at an item
abbrev pub reached_at : BeforeItem → ItemsReached
reached_at b = record { constants = b.constants; classes = b.classes; bound = λ t. is_one_of t b.names }

-- these are the classes from one of this number on
abbrev pub ClassesFrom : Module → ℕ → List ClassDef → Type 0
ClassesFrom m c classes = (i : ℕ) → slice_get (classes_in m.items) (c + i) ≡ slice_get classes i

module _ (m : Module) where
  -- ---- constants

  module _ (b : BeforeItem) (kb : AreWellFormed (bases_of m) b.constants) (p : _) (c : Constant)
      (labels : ItemLabels (constant_item p c)) (all : List Tree)
      (l : LawfulItem m all b (constant_item p c) labels) where
    abbrev into : List Tree
    into = annotated_types m (binds_name b.names c.name) c.annotation

    into_well_formed : AreWellFormed (bases_of m) into
    into_well_formed = wants_well_formed m (binds_name b.names c.name) c.annotation

    -- the type of a constant is that of its labels, and well-formed
    constant_is : type_of_constant m (reached_at b) c ≡ constant_type m c.annotation (type_of c.value labels.value)
    constant_is = ap (λ (x : Label). constant_type m c.annotation x.type)
        (initializer_label m (reached_at b) kb into into_well_formed c.value labels.value l.value)

    type_well_formed : IsWellFormed (bases_of m) (constant_type m c.annotation (type_of c.value labels.value))
    type_well_formed =
        let context = initializer_context m b.constants b.classes in
        let v = has_labels context [] [] (first_of_types into) c.value
        (initializers_well_formed m b.constants b.classes kb) tt tt (first_well_formed m into into_well_formed) in
        let same : v.labels ≡ labels.value = one_labelling context [] [] refl (first_of_types into) c.value v.labels
        labels.value v.lawful l.value in
        constant_well_formed m c.annotation (type_of c.value labels.value)
        (subst (λ (x : Labels c.value). IsWellFormed (bases_of m) (type_of c.value x)) same v.well_formed)

    -- the findings of a constant: in its annotation, in its initializer, and of its flow
    abbrev ConstantSays : Finding → Type 0
    ConstantSays f = OptionAnnFinds m (bases_of m) c.annotation f
        ⊎ (Finds c.value labels.value f ⊎ IsFlowAt (place_of c.value) labels.flows f)

    constant_listed : Lists (constant_findings m false (reached_at b) c) ConstantSays
    constant_listed =
        lists_both (map plain_note (option_findings m (bases_of m) c.annotation))
        (value_findings m false (reached_at b) into c.value)
        (lists_each (map plain_note (option_findings m (bases_of m) c.annotation))
        (λ f. option_listed m f c.annotation))
        (lists_each (value_findings m false (reached_at b) into c.value)
        (λ f. value_listed m (reached_at b) kb into into_well_formed c.value labels.value l.value labels.flows
        l.flow f))

  -- ---- functions' signatures

  pub functions_listed : (all : List Tree) (b : BeforeItem) (items : List Item) (labels : ModuleItemsLabels items)
      → LawfulModuleItems m all b items labels → Lists (functions_findings m items) (FunctionsSay m items labels)
  functions_listed all b [] labels l = lists_nothing
  functions_listed all b (i ∷ rest) labels l = lists_both (function_findings m i) (functions_findings m rest)
      (one i labels.first l.0) (functions_listed all (before_next m b i labels.first) rest labels.rest l.1)
    where
      one : (i : Item) (mk : ItemLabels i) → LawfulItem m all b i mk
          → Lists (function_findings m i) (FunctionSays m i mk)
      one (constant_item p c) mk h = lists_nothing
      one (class_item p c) mk h = lists_nothing
      one (def_item p d) mk h = signature_listed m [] d mk.params h.params

  -- ---- constants and classes

  -- a class is the first of those from its number on
  class_listed : (all : List Tree) (b : BeforeItem) (p : _) (c : ClassDef) (labels : ItemLabels (class_item p c))
      → slice_get (classes_in m.items) b.classes ≡ Some c → LawfulItem m all b (class_item p c) labels
      → Lists (class_notes m b.classes c ++ map plain_note (class_annotated m (base_class m b.classes c) c))
      (MembersSay m c.members labels)
  class_listed all b p c labels is l =
      let same : base_at m b.classes ≡ base_class m b.classes c = ap (base_facts (classes_of m))
      (base_here m b.classes c is) in
      subst (λ (x : ClassFacts). Lists (members_findings m x no_name c.members
      ++ map plain_note (class_annotated m (base_class m b.classes c) c)) (MembersSay m c.members labels))
      (sym same) (members_listed m all (base_class m b.classes c) b.classes 0 [] c.members labels l)

  -- a walk over items comes to the types of their constants, which are well-formed, and finds, with what the class
  -- table finds in annotations, what is said of their constants and classes
  pub record ItemsWalked (b : BeforeItem) (items : List Item) (labels : ModuleItemsLabels items) : Type 0 where
    pub types : (behind_all m (reached_at b) items).constants ≡ b.constants ++ constant_types m items labels
    pub well_formed : AreWellFormed (bases_of m) (b.constants ++ constant_types m items labels)
    pub listed : Lists (items_findings m false (reached_at b) items ++ map plain_note (classes_annotated m b.classes
        (classes_in items))) (ItemsSay m items labels)

  pub items_walked : (all : List Tree) (b : BeforeItem) → AreWellFormed (bases_of m) b.constants → (items : List Item)
      → ClassesFrom m b.classes (classes_in items) → (labels : ModuleItemsLabels items)
      → LawfulModuleItems m all b items labels → ItemsWalked b items labels
  items_walked all b kb [] from labels l = record {
    types = sym (append-nil b.constants);
    well_formed = subst (AreWellFormed (bases_of m)) (sym (append-nil b.constants)) kb;
    listed = lists_nothing;
  }
  items_walked all b kb (constant_item p c ∷ rest) from labels l =
      let mk = labels.first in
      let t = constant_type m c.annotation (type_of c.value mk.value) in
      let annotated = classes_annotated m b.classes (classes_in rest) in
      let next = before_next m b (constant_item p c) mk in
      let r = items_walked all next (one_more m b.constants t kb (type_well_formed b kb p c mk all l.0)) rest from
      labels.rest l.1 in
      let here : behind m (reached_at b) (constant_item p c) ≡ reached_at next =
      ap (λ x. record {
        constants = b.constants ++ x ∷ [];
        classes = b.classes;
        bound = λ w. is_one_of w next.names;
      }) (constant_is b kb p c mk all l.0) in
      let more : next.constants ++ constant_types m rest labels.rest ≡ b.constants
      ++ (t ∷ constant_types m rest labels.rest) = append_assoc b.constants (t ∷ [])
      (constant_types m rest labels.rest) in
      record {
        types = ap (λ (x : ItemsReached). (behind_all m x rest).constants) here ∙ r.types ∙ more;
        well_formed = subst (AreWellFormed (bases_of m)) more r.well_formed;
        listed = lists_beside (constant_findings m false (reached_at b) c)
            (items_findings m false (behind m (reached_at b) (constant_item p c)) rest) [] annotated annotated
            (λ f. (λ h. h, λ h. h)) (without_annotations (constant_findings m false (reached_at b) c)
            (constant_listed b kb p c mk all l.0))
            (subst (λ (x : ItemsReached). Lists (items_findings m false x rest ++ map plain_note annotated)
            (ItemsSay m rest labels.rest)) (sym here) r.listed);
      }
  items_walked all b kb (class_item p c ∷ rest) from labels l =
      let here = class_annotated m (base_class m b.classes c) c in
      let annotated = classes_annotated m (suc b.classes) (classes_in rest) in
      let next = before_next m b (class_item p c) labels.first in
      let r = items_walked all next kb rest (λ i. ap (slice_get (classes_in m.items)) (omega arith) ∙ from (suc i))
      labels.rest l.1 in
      record {
        types = r.types;
        well_formed = r.well_formed;
        listed = lists_beside (class_notes m b.classes c) (items_findings m false (reached_at next) rest)
            here annotated (here ++ annotated) (λ f. (λ h. h, λ h. h))
            (class_listed all b p c labels.first (ap (slice_get (classes_in m.items)) (omega arith) ∙ from 0) l.0)
            r.listed;
      }
  items_walked all b kb (def_item p d ∷ rest) from labels l =
      let annotated = classes_annotated m b.classes (classes_in rest) in
      let next = before_next m b (def_item p d) labels.first in
      let r = items_walked all next kb rest from labels.rest l.1 in
      record {
        types = r.types;
        well_formed = r.well_formed;
        listed = lists_beside [] (items_findings m false (reached_at next) rest) [] annotated annotated
            (λ f. (λ h. h, λ h. h)) lists_nothing r.listed;
      }

  -- ---- bodies

  module _ (all : List Tree) where
    -- the findings in bodies
    abbrev pub BodiesSay : BeforeItem → (items : List Item) → ModuleItemsLabels items → Finding → Type 0
    BodiesSay b [] labels f = ⊥
    BodiesSay b (constant_item p c ∷ rest) labels f = BodiesSay (before_next m b (constant_item p c) labels.first) rest
        labels.rest f
    BodiesSay b (class_item p c ∷ rest) labels f = MethodsSay m all b.classes 0 c.members labels.first f
        ⊎ BodiesSay (before_next m b (class_item p c) labels.first) rest labels.rest f
    BodiesSay b (def_item p d ∷ rest) labels f = BodySays m all (owners.Func b.functions) d labels.first f
        ⊎ BodiesSay (before_next m b (def_item p d) labels.first) rest labels.rest f

    pub all_bodies_say : AreWellFormed (bases_of m) all → (b : BeforeItem) (items : List Item)
        (labels : ModuleItemsLabels items) → LawfulModuleItems m all b items labels → (found : List Note)
        → Adds found (bodies_find false m all b.classes b.functions items found) (BodiesSay b items labels)
    all_bodies_say k b [] labels l found = adds_nothing found
    all_bodies_say k b (constant_item p c ∷ rest) labels l found =
        all_bodies_say k (before_next m b (constant_item p c) labels.first) rest labels.rest l.1 found
    all_bodies_say k b (class_item p c ∷ rest) labels l found =
        let one = methods_find false m all b.classes 0 c.members found in
        adds_both found one (bodies_find false m all (suc b.classes) b.functions rest one)
        (methods_say m all k (base_class m b.classes c) b.classes 0 [] c.members labels.first l.0 found)
        (all_bodies_say k (before_next m b (class_item p c) labels.first) rest labels.rest l.1 one)
    all_bodies_say k b (def_item p d ∷ rest) labels l found =
        let one = function_finds false m all (owners.Func b.functions) d found in
        adds_both found one (bodies_find false m all b.classes (suc b.functions) rest one)
        (bodies_say m all k (owners.Func b.functions) d labels.first l.0 found)
        (all_bodies_say k (before_next m b (def_item p d) labels.first) rest labels.rest l.1 one)
