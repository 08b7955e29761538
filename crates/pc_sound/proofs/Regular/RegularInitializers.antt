-- The labels of initializers, and the types of constants, have dicts with int or str as key and classes as asked, where
-- tests of an instance in initializers are as asked.
use Rattle.std.proofs.Common.{◌≡◌, ℕ, List, [], ◌∷◌, ◌++◌, sym, subst, inl, inr, append-nil, append_assoc}
use Rattle.std.specs.Prelude.{Bool as Test, true, false, Option, Some, None, slice_get}
use Rattle.std.proofs.lemmas.Option.{none-some}
use Rattle.pc_tree.specs.Tree.{Ann, Item, constant_item, class_item, def_item, Module}
use Rattle.pc_scope.specs.Resolution.{resolve_in_module}
use Rattle.pc_types.specs.Tree.{Tree}
use Rattle.pc_class.specs.Bases.{bases_of}
use Rattle.pc_rules.specs.Labels.{type_of}
use Rattle.pc_rules.specs.Signatures.{initializer_context, binds_name, annotated_types, first_of_types, constant_type}
use Rattle.pc_module_rules.specs.Modules.{ModuleItemsLabels, LawfulModuleItems, BeforeItem, before_next, nothing_before}
use Rattle.pc_module_rules.specs.Modules.{constant_types, Labelling, IsLawful}
use Rattle.pc_sound.proofs.Lists.{get_one_more}
use Rattle.pc_sound.proofs.Regular.RegularParts.{Asked, IsRegular, NamesAsked, regular_type}
use Rattle.pc_sound.proofs.Regular.RegularTypes.{OptionRegular}
use Rattle.pc_sound.proofs.Regular.RegularLabels.{Timely, labels_regular}
use Rattle.pc_sound.proofs.Regular.RegularModules.{ann_regular, initializer_regular}
use Rattle.pc_sound.proofs.Regular.RegularStatements.{InitializersRegular}

module _ (asked : Asked) where
  -- each type of a list is regular
  abbrev pub AllTypesRegular : List Tree → Type 0
  AllTypesRegular ts = (i : ℕ) (t : Tree) → slice_get ts i ≡ Some t → IsRegular asked t

  one_more_regular : (ts : List Tree) (t : Tree) → AllTypesRegular ts → IsRegular asked t
      → AllTypesRegular (ts ++ t ∷ [])
  one_more_regular ts t all h i u e = elim (get_one_more ts t i u e)
      [ inl a ↦ all i u a | inr b ↦ subst (IsRegular asked) b.1 h ]

  module _ (m : Module) where
    -- no test of an instance in an initializer has the error of order at its second argument
    abbrev pub InitializersTimely : BeforeItem → (items : List Item) → ModuleItemsLabels items → Type 0
    InitializersTimely b [] labels = Unit {0}
    InitializersTimely b (constant_item p c ∷ rest) labels = Timely asked (initializer_context m b.constants b.classes)
        [] c.value × InitializersTimely (before_next m b (constant_item p c) labels.first) rest labels.rest
    InitializersTimely b (class_item p c ∷ rest) labels = InitializersTimely
        (before_next m b (class_item p c) labels.first) rest labels.rest
    InitializersTimely b (def_item p f ∷ rest) labels = InitializersTimely (before_next m b (def_item p f) labels.first)
        rest labels.rest

  module _ (m : Module) (meant : NamesAsked asked (resolve_in_module m)) where
    want_regular : (b : Test) (a : Option Ann) → OptionRegular asked (first_of_types (annotated_types m b a))
    want_regular true (Some a) = ann_regular asked m meant (bases_of m) a
    want_regular true None = tt
    want_regular false a = tt

    type_regular : (a : Option Ann) (t : Tree) → IsRegular asked t → IsRegular asked (constant_type m a t)
    type_regular None t h = h
    type_regular (Some a) t h = ann_regular asked m meant (bases_of m) a

    record BothRegular (b : BeforeItem) (items : List Item) (labels : ModuleItemsLabels items) : Type 0 where
      regular_labels : InitializersRegular asked items labels
      types : AllTypesRegular (b.constants ++ constant_types m items labels)

    both_regular : (all : List Tree) (b : BeforeItem) (items : List Item) (labels : ModuleItemsLabels items)
        → LawfulModuleItems m all b items labels → InitializersTimely m b items labels → AllTypesRegular b.constants
        → BothRegular b items labels
    both_regular all b [] labels law timely regular = record {
      regular_labels = tt;
      types =
          subst AllTypesRegular (sym (append-nil b.constants)) regular;
    }
    both_regular all b (constant_item p c ∷ rest) labels law timely regular =
        let here = labels_regular asked (initializer_context m b.constants b.classes) []
        (initializer_regular asked m meant b.constants b.classes regular) [] (λ x t e. absurd (none-some _ e))
        (first_of_types (annotated_types m (binds_name b.names c.name) c.annotation))
        (want_regular (binds_name b.names c.name) c.annotation) c.value timely.0 labels.first.value law.0.value in
        let t = constant_type m c.annotation (type_of c.value labels.first.value) in
        let r = both_regular all (before_next m b (constant_item p c) labels.first) rest labels.rest law.1 timely.1
        (one_more_regular b.constants t regular (type_regular c.annotation (type_of c.value labels.first.value)
        (regular_type asked c.value labels.first.value here))) in
        record {
          regular_labels = (here, r.regular_labels);
          types =
              subst AllTypesRegular (append_assoc b.constants (t ∷ []) (constant_types m rest labels.rest)) r.types;
        }
    both_regular all b (class_item p c ∷ rest) labels law timely regular = let r =
        both_regular all (before_next m b (class_item p c) labels.first) rest labels.rest law.1 timely regular in
        record { regular_labels = r.regular_labels; types = r.types }
    both_regular all b (def_item p f ∷ rest) labels law timely regular = let r =
        both_regular all (before_next m b (def_item p f) labels.first) rest labels.rest law.1 timely regular in
        record { regular_labels = r.regular_labels; types = r.types }

    module _ (labels : Labelling m) (lawful : IsLawful m labels)
        (timely : InitializersTimely m nothing_before m.items labels) where
      all_regular : BothRegular nothing_before m.items labels
      all_regular = both_regular (constant_types m m.items labels) nothing_before m.items labels lawful timely
          (λ i t e. absurd (none-some _ e))

      pub initializers_are_regular : InitializersRegular asked m.items labels
      initializers_are_regular = all_regular.regular_labels

      pub constants_are_regular : (i : ℕ) (t : Tree) → slice_get (constant_types m m.items labels) i ≡ Some t
          → IsRegular asked t
      constants_are_regular = all_regular.types
