-- Each module has a lawful labelling: constants first, in text order, then functions and classes.
use Rattle.pc_scope.specs.declared.resolution.Owner.TheVariants as owners
use Rattle.std.proofs.Common.{List, [], ap, refl, subst, suc, sym, ◌++◌, ◌∷◌, ◌≡◌}
use Rattle.std.specs.Prelude.{Bool as Test, None, Option, Some, false, true}
use Rattle.pc_tree.specs.Tree.{Ann, Constant, Item, Module, class_item, constant_item, def_item}
use Rattle.pc_types.specs.Tree.{Tree}
use Rattle.pc_types.specs.WellFormed.{IsWellFormed}
use Rattle.pc_annotations.proofs.Readings.{read_ann_well_formed}
use Rattle.pc_class.specs.Bases.{bases_of}
use Rattle.pc_class.specs.Findings.{base_class}
use Rattle.pc_annotations.proofs.Earlier.{smaller}
use Rattle.pc_flow.specs.WellFormed.{AreWellFormed, IsWellFormedIfAny}
use Rattle.pc_rules.specs.Labels.{whole_label, type_of}
use Rattle.pc_rules.specs.Signatures.{binds_name, initializer_context, annotated_types, constant_type, first_of_types}
use Rattle.pc_rules.proofs.Contexts.{initializers_well_formed}
use Rattle.pc_rules.proofs.ComputedLawful.{has_labels}
use Rattle.pc_module_rules.specs.Modules.{BeforeItem, HasLabelling, ItemLabels, ModuleItemsLabels, LawfulItem}
use Rattle.pc_module_rules.specs.Modules.{LawfulModuleItems, before_next, constant_types, nothing_before}
use Rattle.pc_module_rules.proofs.LabelledFunctions.{function_labelled, members_labelled}
use Rattle.pc_module_rules.proofs.LabelledExpressions.{flows_labelled}

module _ (m : Module) where
  -- ---- constants, then all items

  -- a constant has lawful labels, whatever the types of all constants; and its type is well-formed
  record ConstantLabelled (b : BeforeItem) (p : _) (c : Constant) : Type 0 where
    labels : ItemLabels (constant_item p c)
    lawful : (all : List Tree) → LawfulItem m all b (constant_item p c) labels
    well_formed : IsWellFormed (bases_of m) (constant_type m c.annotation (type_of c.value labels.value))

  pub wants_well_formed : (b : Test) (a : Option Ann) → AreWellFormed (bases_of m) (annotated_types m b a)
  wants_well_formed true (Some a) = (read_ann_well_formed m (bases_of m) (smaller m) a, tt)
  wants_well_formed true None = tt
  wants_well_formed false a = tt

  pub first_well_formed : (ts : List Tree) → AreWellFormed (bases_of m) ts
      → IsWellFormedIfAny (bases_of m) (first_of_types ts)
  first_well_formed [] k = tt
  first_well_formed (t ∷ ts) k = k.0

  pub constant_well_formed : (a : Option Ann) (t : Tree) → IsWellFormed (bases_of m) t
      → IsWellFormed (bases_of m) (constant_type m a t)
  constant_well_formed None t k = k
  constant_well_formed (Some a) t k = read_ann_well_formed m (bases_of m) (smaller m) a

  constant_labelled : (b : BeforeItem) → AreWellFormed (bases_of m) b.constants → (p : _) (c : Constant)
      → ConstantLabelled b p c
  constant_labelled b kb p c =
      let want = annotated_types m (binds_name b.names c.name) c.annotation in
      let kw = wants_well_formed (binds_name b.names c.name) c.annotation in
      let v = has_labels (initializer_context m b.constants b.classes) [] [] (first_of_types want) c.value
      (initializers_well_formed m b.constants b.classes kb) tt tt (first_well_formed want kw) in
      let fl = flows_labelled (bases_of m) (whole_label c.value v.labels) want (smaller m) v.well_formed kw in
      record {
        labels = record { value = v.labels; flows = fl.flows };
        lawful = λ all. record { value = v.lawful; flow = fl.lawful };
        well_formed = constant_well_formed c.annotation (type_of c.value v.labels) v.well_formed;
      }

  pub one_more : (ts : List Tree) (t : Tree) → AreWellFormed (bases_of m) ts → IsWellFormed (bases_of m) t
      → AreWellFormed (bases_of m) (ts ++ t ∷ [])
  one_more [] t k h = (h, tt)
  one_more (u ∷ ts) t k h = (k.0, one_more ts t k.1 h)

  -- labels of items with all constants' types known, whatever those are
  record AllLabelled (b : BeforeItem) (items : List Item) (types all : List Tree) : Type 0 where
    labels : ModuleItemsLabels items
    lawful : LawfulModuleItems m all b items labels
    is : constant_types m items labels ≡ types

  -- items have types of their constants, and labels with all constants' types known
  record ItemsLabelled (b : BeforeItem) (items : List Item) : Type 0 where
    types : List Tree
    well_formed : AreWellFormed (bases_of m) types
    found : (all : List Tree) → AreWellFormed (bases_of m) all → AllLabelled b items types all

  items_labelled : (b : BeforeItem) → AreWellFormed (bases_of m) b.constants → (items : List Item)
      → ItemsLabelled b items
  items_labelled b kb [] = record {
    types = [];
    well_formed = tt;
    found =
        λ all k. record { labels = tt; lawful = tt; is = refl };
  }
  items_labelled b kb (constant_item p c ∷ rest) =
      let q = constant_labelled b kb p c in
      let t = constant_type m c.annotation (type_of c.value q.labels.value) in
      let r = items_labelled (before_next m b (constant_item p c) q.labels) (one_more b.constants t kb q.well_formed)
      rest in
      record {
        types = t ∷ r.types;
        well_formed = (q.well_formed, r.well_formed);
        found = λ all k. let f = r.found all k in record {
          labels = record { first = q.labels; rest = f.labels };
          lawful = (q.lawful all, f.lawful);
          is = ap (λ ts. t ∷ ts) f.is;
        };
      }
  items_labelled b kb (class_item p c ∷ rest) =
      let r = items_labelled (record {
        constants = b.constants;
        classes = suc b.classes;
        functions = b.functions;
        names = c.name.text ∷ b.names;
      }) kb rest in
      record {
        types = r.types;
        well_formed = r.well_formed;
        found = λ all k.
            let f = r.found all k in
            let q = members_labelled m all k (base_class m b.classes c) b.classes 0 [] c.members in
            record { labels = record { first = q.labels; rest = f.labels }; lawful = (q.lawful, f.lawful); is = f.is };
      }
  items_labelled b kb (def_item p d ∷ rest) =
      let r = items_labelled (record {
        constants = b.constants;
        classes = b.classes;
        functions = suc b.functions;
        names = d.name.text ∷ b.names;
      }) kb rest in
      record {
        types = r.types;
        well_formed = r.well_formed;
        found = λ all k.
            let f = r.found all k in
            let q = function_labelled m all k (owners.Func b.functions) d in
            record { labels = record { first = q.labels; rest = f.labels }; lawful = (q.lawful, f.lawful); is = f.is };
      }

  -- each module has a lawful labelling
  pub every_module_has_a_labelling : HasLabelling m
  every_module_has_a_labelling =
      let r = items_labelled nothing_before tt m.items in
      let f = r.found r.types r.well_formed in
      record {
        labels = f.labels;
        lawful = subst (λ ts. LawfulModuleItems m ts nothing_before m.items f.labels)
            (sym f.is) f.lawful;
      }
