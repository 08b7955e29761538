-- The classes of a module are well-formed.
use Rattle.std.proofs.Common.{◌++◌, ℕ, zero, suc, Bool as Test, true, false, List, [], ◌∷◌, Option, Some, None}
use Rattle.std.proofs.lemmas.Bool.{cond_both}
use Rattle.std.specs.Prelude.{if◌then◌else◌, filter, is_some}
use Rattle.pc_tree.specs.Tree.{Param, FuncDef, Member, field_member, method_member, ClassDef, Module}
use Rattle.pc_scope.specs.Bindings.{classes_in}
use Rattle.pc_types.specs.Below.{Bases}
use Rattle.pc_types.specs.WellFormed.{IsWellFormed}
use Rattle.pc_annotations.specs.Annotations.{read_ann}
use Rattle.pc_annotations.proofs.Readings.{read_ann_well_formed, read_option_well_formed}
use Rattle.pc_class.specs.Bases.{bases_of, base_named}
use Rattle.pc_class.specs.Facts.{ClassFacts, TypedParameter, Method, class_facts_at, base_facts, binds_field}
use Rattle.pc_class.specs.Facts.{binds_method, parameters_of, return_type, method_made, own_fields, own_methods}
use Rattle.pc_class.specs.Facts.{class_facts_behind, classes_behind, classes_of}
use Rattle.pc_class.specs.Findings.{base_class}
use Rattle.pc_class.specs.WellFormed.{ParametersWellFormed, MethodWellFormed, MethodsWellFormed, ClassWellFormed}
use Rattle.pc_class.specs.WellFormed.{ClassesWellFormed}
use Rattle.pc_annotations.proofs.Earlier.{smaller}

-- the class of a number
pub class_at_well_formed : (bases : Bases) (cs : List ClassFacts) (c : ℕ) → ClassesWellFormed bases cs
    → ClassWellFormed bases (class_facts_at cs c)
class_at_well_formed bases [] c h = record { fields = tt; methods = tt }
class_at_well_formed bases (k ∷ ks) zero h = h.0
class_at_well_formed bases (k ∷ ks) (suc c) h = class_at_well_formed bases ks c h.1

-- some of the methods
pub filter_well_formed : (bases : Bases) (p : Method → Test) (xs : List Method) → MethodsWellFormed bases xs
    → MethodsWellFormed bases (filter p xs)
filter_well_formed bases p [] h = tt
filter_well_formed bases p (x ∷ xs) h = cond_both (p x) (x ∷ filter p xs) (filter p xs) (MethodsWellFormed bases)
    (λ e. (h.0, filter_well_formed bases p xs h.1)) (λ e. filter_well_formed bases p xs h.1)

module _ (m : Module) where
  -- the bases of the module
  abbrev bs : Bases
  bs = bases_of m

  pub params_well_formed : (ps : List Param) → ParametersWellFormed bs (parameters_of m ps)
  params_well_formed [] = tt
  params_well_formed (p ∷ ps) = (read_option_well_formed m bs (smaller m) p.annotation, params_well_formed ps)

  pub returned_well_formed : (f : FuncDef) → IsWellFormed bs (return_type m f)
  returned_well_formed f = read_option_well_formed m bs (smaller m) f.returns

  fields_append : (ps qs : List TypedParameter) → ParametersWellFormed bs ps → ParametersWellFormed bs qs
      → ParametersWellFormed bs (ps ++ qs)
  fields_append [] qs h k = k
  fields_append (p ∷ ps) qs h k = (h.0, fields_append ps qs h.1 k)

  methods_append : (ps qs : List Method) → MethodsWellFormed bs ps → MethodsWellFormed bs qs
      → MethodsWellFormed bs (ps ++ qs)
  methods_append [] qs h k = k
  methods_append (p ∷ ps) qs h k = (h.0, methods_append ps qs h.1 k)

  classes_append : (ps qs : List ClassFacts) → ClassesWellFormed bs ps → ClassesWellFormed bs qs
      → ClassesWellFormed bs (ps ++ qs)
  classes_append [] qs h k = k
  classes_append (p ∷ ps) qs h k = (h.0, classes_append ps qs h.1 k)

  one_field : (b : Test) (p : TypedParameter) → IsWellFormed bs p.type
      → ParametersWellFormed bs (if b then p ∷ [] else [])
  one_field true p h = (h, tt)
  one_field false p h = tt

  one_method : (b : Test) (f : Method) → MethodWellFormed bs f → MethodsWellFormed bs (if b then f ∷ [] else [])
  one_method true f h = (h, tt)
  one_method false f h = tt

  -- a method of the text
  pub made_well_formed : (c number : ℕ) (f : FuncDef) → MethodWellFormed bs (method_made m c number f)
  made_well_formed c number f = record { parameters = params_well_formed f.params; returns = returned_well_formed f }

  own_fields_well_formed : (base : ClassFacts) (before : List (List ℕ)) (ms : List Member)
      → ParametersWellFormed bs (own_fields m base before ms)
  own_fields_well_formed base before [] = tt
  own_fields_well_formed base before (field_member f ∷ ms) =
      fields_append (if binds_field base before f.name.text then record {
        name = f.name.text;
        type =
            read_ann m bs f.annotation;
        has_default = is_some f.default;
      } ∷ [] else [])
      (own_fields m base (f.name.text ∷ before) ms)
      (one_field (binds_field base before f.name.text) (record {
        name = f.name.text;
        type = read_ann m bs f.annotation;
        has_default = is_some f.default;
      }) (read_ann_well_formed m bs (smaller m) f.annotation))
      (own_fields_well_formed base (f.name.text ∷ before) ms)
  own_fields_well_formed base before (method_member f ∷ ms) = own_fields_well_formed base (f.name.text ∷ before) ms

  own_methods_well_formed : (base : ClassFacts) (c number : ℕ) (before : List (List ℕ)) (ms : List Member)
      → MethodsWellFormed bs (own_methods m base c number before ms)
  own_methods_well_formed base c number before [] = tt
  own_methods_well_formed base c number before (field_member f ∷ ms) = own_methods_well_formed base c number
      (f.name.text ∷ before) ms
  own_methods_well_formed base c number before (method_member f ∷ ms) =
      methods_append (if binds_method base before f.name.text then method_made m c number f ∷ [] else [])
      (own_methods m base c (suc number) (f.name.text ∷ before) ms)
      (one_method (binds_method base before f.name.text) (method_made m c number f) (made_well_formed c number f))
      (own_methods_well_formed base c (suc number) (f.name.text ∷ before) ms)

  pub inherited_well_formed : (earlier : List ClassFacts) (b : Option ℕ) → ClassesWellFormed bs earlier
      → ClassWellFormed bs (base_facts earlier b)
  inherited_well_formed earlier None h = record { fields = tt; methods = tt }
  inherited_well_formed earlier (Some b) h = class_at_well_formed bs earlier b h

  class_made_well_formed : (earlier : List ClassFacts) (c : ℕ) (class : ClassDef) → ClassesWellFormed bs earlier
      → ClassWellFormed bs (class_facts_behind m earlier c class)
  class_made_well_formed earlier c class h =
      let base = base_facts earlier (base_named m c class.base) in
      let k = inherited_well_formed earlier (base_named m c class.base) h in
      record {
        fields = fields_append base.fields (own_fields m base [] class.members) k.fields
            (own_fields_well_formed base [] class.members);
        methods = methods_append (own_methods m base c 0 [] class.members) base.methods
            (own_methods_well_formed base c 0 [] class.members) k.methods;
      }

  behind_well_formed : (earlier : List ClassFacts) (c : ℕ) (cs : List ClassDef) → ClassesWellFormed bs earlier
      → ClassesWellFormed bs (classes_behind m earlier c cs)
  behind_well_formed earlier c [] h = h
  behind_well_formed earlier c (class ∷ cs) h =
      behind_well_formed (earlier ++ class_facts_behind m earlier c class ∷ []) (suc c) cs
      (classes_append earlier (class_facts_behind m earlier c class ∷ []) h (
        class_made_well_formed earlier c class h,
        tt,
      ))

  pub all_classes_well_formed : ClassesWellFormed bs (classes_of m)
  unfolding classes_of
  all_classes_well_formed = behind_well_formed [] 0 (classes_in m.items) tt

  -- the class that a class inherits from
  pub base_well_formed : (c : ℕ) (class : ClassDef) → ClassWellFormed bs (base_class m c class)
  base_well_formed c class = inherited_well_formed (classes_of m) (base_named m c class.base) all_classes_well_formed
