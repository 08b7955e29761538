-- A walk reads off the initializer of a constant its lawful labels, whether types are kept or not.
use Rattle.std.proofs.Common.{◌≡◌, List, [], ap, ◌∙◌, subst, refl}
use Rattle.std.specs.Prelude.{Bool as Test, false}
use Rattle.pc_tree.specs.Tree.{Constant, constant_item, Module}
use Rattle.pc_source.specs.declared.place.Place.{Place}
use Rattle.pc_types.specs.Tree.{Tree}
use Rattle.pc_types.specs.Below.{Bases}
use Rattle.pc_types.specs.WellFormed.{IsWellFormed}
use Rattle.pc_annotations.proofs.Earlier.{smaller}
use Rattle.pc_class.specs.Bases.{bases_of}
use Rattle.pc_flow.specs.WellFormed.{AreWellFormed}
use Rattle.pc_rules.specs.Operations.{Label}
use Rattle.pc_rules.specs.Labels.{Labels, whole_label, type_of}
use Rattle.pc_rules.specs.Computed.Expressions.{labels_of, flows_of}
use Rattle.pc_rules.specs.Computed.Findings.{notes_under}
use Rattle.pc_rules.specs.Signatures.{initializer_context, binds_name, constant_type, annotated_types, first_of_types}
use Rattle.pc_rules.specs.Computed.Signatures.{initial, type_of_constant}
use Rattle.pc_rules.specs.Computed.Standing.{label_in, finds_in}
use Rattle.pc_rules.proofs.ComputedFlows.{flows_are_lawful}
use Rattle.pc_rules.proofs.ComputedLawful.{labels_are_lawful}
use Rattle.pc_rules.proofs.Contexts.{initializers_well_formed}
use Rattle.pc_rules.proofs.One.{into_one, one_labelling}
use Rattle.pc_module_rules.specs.Modules.{ItemLabels, BeforeItem, LawfulItem}
use Rattle.pc_module_rules.proofs.LabelledModule.{wants_well_formed, first_well_formed, constant_well_formed}
use Rattle.pc_module_rules.proofs.WalkedItems.{reached_at}

module _ (m : Module) (b : BeforeItem) (kb : AreWellFormed (bases_of m) b.constants) (p : Place) (c : Constant)
    (labels : ItemLabels (constant_item p c)) (all : List Tree)
    (l : LawfulItem m all b (constant_item p c) labels) where
  abbrev bases : Bases
  bases = bases_of m

  -- the types that the initializer flows into
  abbrev into : List Tree
  into = annotated_types m (binds_name b.names c.name) c.annotation

  into_well_formed : AreWellFormed bases into
  into_well_formed = wants_well_formed m (binds_name b.names c.name) c.annotation

  abbrev computed : Labels c.value
  computed = labels_of (initializer_context m b.constants b.classes) [] [] (first_of_types into) c.value

  is_well_formed : IsWellFormed bases (type_of c.value computed)
  is_well_formed = (labels_are_lawful (initializer_context m b.constants b.classes) [] [] (first_of_types into)
      c.value (initializers_well_formed m b.constants b.classes kb) tt tt
      (first_well_formed m into into_well_formed)).1

  is_computed : computed ≡ labels.value
  is_computed =
      let context = initializer_context m b.constants b.classes in
      let h = labels_are_lawful context [] [] (first_of_types into) c.value
      (initializers_well_formed m b.constants b.classes kb) tt tt (first_well_formed m into into_well_formed) in
      one_labelling context [] [] refl (first_of_types into) c.value computed labels.value h.0 l.value

  value_well_formed : IsWellFormed bases (type_of c.value labels.value)
  value_well_formed = subst (λ (x : Labels c.value). IsWellFormed bases (type_of c.value x)) is_computed is_well_formed

  pub found_is : (keeps : Test) → finds_in (initial m keeps b.constants b.classes) (first_of_types into) c.value
      ≡ notes_under keeps c.value labels.value
  unfolding finds_in
  found_is keeps = ap (notes_under keeps c.value) is_computed

  label_is : label_in (initial m false b.constants b.classes) (first_of_types into) c.value
      ≡ whole_label c.value labels.value
  unfolding label_in
  label_is = ap (whole_label c.value) is_computed

  pub type_well_formed : IsWellFormed bases (constant_type m c.annotation (type_of c.value labels.value))
  type_well_formed = constant_well_formed m c.annotation (type_of c.value labels.value) value_well_formed

  pub constant_is : type_of_constant m (reached_at b) c ≡ constant_type m c.annotation (type_of c.value labels.value)
  constant_is = ap (λ (x : Label). constant_type m c.annotation x.type) label_is

  pub flows_are : flows_of bases (label_in (initial m false b.constants b.classes) (first_of_types into) c.value) into
      ≡ labels.flows
  flows_are = ap (λ (x : Label). flows_of bases x into) label_is
      ∙ into_one bases (whole_label c.value labels.value) into (flows_of bases (whole_label c.value labels.value)
      into) labels.flows (flows_are_lawful bases (whole_label c.value labels.value) into (smaller m) value_well_formed
      into_well_formed) l.flow
