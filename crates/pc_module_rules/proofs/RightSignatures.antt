-- The notes of the signatures of a module and of its constants are right, and the types of its constants are
-- well-formed.
use Rattle.std.proofs.Common.{ℕ, Bool as Test, true, false, List, [], ◌∷◌, ◌++◌, Option, Some, None, refl, map, subst}
use Rattle.std.proofs.Common.{suc, inl, inr, Contains}
use Rattle.std.specs.Prelude.{if◌then◌else◌, nat_le, codes}
use Rattle.std.specs.List.{AllByRecursion}
use Rattle.pc_source.specs.declared.place.Place.{Place}
use Rattle.pc_tree.specs.declared.code.Code.{Code}
use Rattle.pc_tree.specs.declared.code.Code.TheVariants.{E09, E10, E26}
use Rattle.pc_tree.specs.declared.code.Finding.{Finding}
use Rattle.pc_tree.specs.Code.{finding}
use Rattle.pc_tree.specs.Depth.{place_of, place_of_ann}
use Rattle.pc_tree.specs.Stopping.{name_of_member}
use Rattle.pc_tree.specs.Tree.{Ann, Anns, named, none_type, applied, applied_empty, no_anns, more_anns, Expr, Literal}
use Rattle.pc_tree.specs.Tree.{Param, FuncDef, Field, Member, field_member, method_member, Constant, Item}
use Rattle.pc_tree.specs.Tree.{ClassDef, constant_item, class_item, def_item, Module}
use Rattle.pc_tree.proofs.Among.{none_among, among_first}
use Rattle.pc_scope.specs.Bindings.{classes_in}
use Rattle.pc_tree.specs.Tree as tree
use Rattle.pc_scope.specs.Resolution.{resolve_in_module}
use Rattle.pc_types.specs.Tree.{Tree}
use Rattle.pc_types.specs.Below.{Bases}
use Rattle.pc_types.specs.Shape.{nodes, node_limit}
use Rattle.pc_types.specs.WellFormed.{IsWellFormed}
use Rattle.pc_annotations.specs.Annotations.{named_type, applied_type, empty_type, union_type, reading, read_anns, read_ann}
use Rattle.pc_annotations.specs.Annotations.{read_option}
use Rattle.pc_annotations.proofs.Earlier.{smaller}
use Rattle.pc_annotations.proofs.Readings.{read_ann_well_formed, read_option_well_formed}
use Rattle.pc_annotations.specs.Listed.{without_type, inside_type, part_findings, parts_findings, ann_findings, option_findings}
use Rattle.pc_class.specs.Annotated.{params_annotated, def_annotated, fields_annotated, method_annotated}
use Rattle.pc_class.specs.Annotated.{methods_annotated, class_annotated, classes_annotated, member_annotations}
use Rattle.pc_class.specs.Bases.{bases_of, base_named}
use Rattle.pc_class.specs.Entries.{MemberEntry, inherited_by, class_entries}
use Rattle.pc_class.specs.Facts.{ClassFacts, base_facts, classes_of}
use Rattle.pc_flow.specs.WellFormed.{AreWellFormed}
use Rattle.pc_notes.specs.Notes.{Note, plain_note}
use Rattle.pc_rules.specs.Operations.{clean}
use Rattle.pc_rules.specs.Computed.Expressions.{flows_of}
use Rattle.pc_rules.specs.Computed.Findings.{flows_at}
use Rattle.pc_rules.specs.Signatures.{literal_type, literal_place, constant_type, annotated_types, first_of_types}
use Rattle.pc_rules.specs.Computed.Signatures.{no_name, with_name, binds_text, binds_as_field, default_findings}
use Rattle.pc_rules.specs.Computed.Signatures.{ItemsReached, nothing_reached, param_findings, params_findings}
use Rattle.pc_rules.specs.Computed.Signatures.{def_findings, function_findings, functions_findings}
use Rattle.pc_rules.specs.Computed.Signatures.{member_findings, members_findings, base_at, initial, initializer_types}
use Rattle.pc_rules.specs.Computed.Signatures.{initializer_label, type_of_constant, value_findings, constant_findings}
use Rattle.pc_rules.specs.Computed.Signatures.{behind, behind_all, item_findings, items_findings, constants_of}
use Rattle.pc_rules.specs.Computed.Signatures.{signatures_find}
use Rattle.pc_rules.specs.Computed.Signatures.{param_default, params_defaults, field_default, binds_as_method}
use Rattle.pc_rules.specs.Computed.Signatures.{method_findings}
use Rattle.pc_rules.specs.Computed.Standing.{label_in, finds_in}
use Rattle.pc_rules.proofs.Contexts.{initializers_well_formed}
use Rattle.pc_rules.proofs.SignaturesListed.{literal_well_formed}
use Rattle.pc_rules.proofs.InitializersListed.{first_well_formed}
use Rattle.pc_module_rules.proofs.PlainCodes.{all_append, in_both, IsPlain}
use Rattle.pc_module_rules.proofs.RightNotes.{AreRight, right_append, right_plain, right_flows, StandsWell}
use Rattle.pc_module_rules.proofs.RightNotes.{label_well_formed, right_in}

-- ---- annotations

-- the findings have codes other than that of a dynamic flow
abbrev PlainFindings : List Finding → Type 0
PlainFindings fs = AllByRecursion (λ (f : Finding). IsPlain f.code) fs

plain_then : (fs gs : List Finding) → PlainFindings fs → PlainFindings gs → PlainFindings (fs ++ gs)
plain_then fs gs h k = all_append (λ (f : Finding). IsPlain f.code) fs gs h k

without_plain : (o : Option Tree) (p : Place) (c : Code) → IsPlain c → PlainFindings (without_type o p c)
without_plain None p c h = (h, tt)
without_plain (Some t) p c h = tt

inside_plain : (o : Option Tree) (p : Place) (fs : List Finding) → PlainFindings fs → PlainFindings (inside_type o p fs)
inside_plain None p fs h = (refl, tt)
inside_plain (Some t) p fs h = h

module _ (m : Module) (bases : Bases) where
  mutual
    part_plain : (a : Ann) → PlainFindings (part_findings m bases a)
    part_plain (named n) = without_plain (named_type m.imports_any (resolve_in_module m n.text)) n.place E09 refl
    part_plain (none_type p) = tt
    part_plain (applied p head arguments) = inside_plain (applied_type (resolve_in_module m head.text)
        (read_anns m bases arguments)) p (parts_findings m bases arguments) (parts_plain arguments)
    part_plain (applied_empty p head) = without_plain (empty_type (resolve_in_module m head.text)) p E09 refl
    part_plain (tree.union p parts) = plain_then (parts_findings m bases parts)
        (without_type (union_type bases (read_anns m bases parts)) p E10) (parts_plain parts)
        (without_plain (union_type bases (read_anns m bases parts)) p E10 refl)

    parts_plain : (a : Anns) → PlainFindings (parts_findings m bases a)
    parts_plain no_anns = tt
    parts_plain (more_anns a rest) = plain_then (part_findings m bases a) (parts_findings m bases rest) (part_plain a)
        (parts_plain rest)

  ann_plain : (a : Ann) → PlainFindings (ann_findings m bases a)
  ann_plain a =
      let size = nat_le (nodes (reading m bases a)) node_limit in
      plain_then (part_findings m bases a) (if size then [] else finding (place_of_ann a) E26 ∷ []) (part_plain a)
      (in_both PlainFindings size [] (finding (place_of_ann a) E26 ∷ []) tt (refl, tt))

  option_plain : (a : Option Ann) → PlainFindings (option_findings m bases a)
  option_plain None = tt
  option_plain (Some a) = ann_plain a

  -- the notes of an annotation are right
  pub right_annotation : (a : Ann) → AreRight bases (map plain_note (ann_findings m bases a))
  right_annotation a = right_plain bases (ann_findings m bases a) (ann_plain a)

  right_option : (a : Option Ann) → AreRight bases (map plain_note (option_findings m bases a))
  right_option a = right_plain bases (option_findings m bases a) (option_plain a)

-- no finding in the annotations of the members of classes has the code of a dynamic flow
module _ (m : Module) where
  params_plain : (ps : List Param) → PlainFindings (params_annotated m ps)
  params_plain [] = tt
  params_plain (p ∷ ps) = plain_then (option_findings m (bases_of m) p.annotation) (params_annotated m ps)
      (option_plain m (bases_of m) p.annotation) (params_plain ps)

  def_plain : (d : FuncDef) → PlainFindings (def_annotated m d)
  def_plain d = plain_then (params_annotated m d.params) (option_findings m (bases_of m) d.returns)
      (params_plain d.params) (option_plain m (bases_of m) d.returns)

  fields_plain : (ms : List Member) → PlainFindings (fields_annotated m ms)
  fields_plain [] = tt
  fields_plain (field_member d ∷ ms) = plain_then (ann_findings m (bases_of m) d.annotation) (fields_annotated m ms)
      (ann_plain m (bases_of m) d.annotation) (fields_plain ms)
  fields_plain (method_member d ∷ ms) = fields_plain ms

  method_plain : (binds : Test) (x : Member) → PlainFindings (method_annotated m binds x)
  method_plain binds (field_member d) = tt
  method_plain true (method_member d) = def_plain d
  method_plain false (method_member d) = tt

  methods_plain : (es : List MemberEntry) → PlainFindings (methods_annotated m es)
  methods_plain [] = tt
  methods_plain (e ∷ es) = plain_then (method_annotated m e.binds e.member) (methods_annotated m es)
      (method_plain e.binds e.member) (methods_plain es)

  class_plain : (base : ClassFacts) (c : ClassDef) → PlainFindings (class_annotated m base c)
  class_plain base c =
      let entries = class_entries (inherited_by base) c in
      plain_then (fields_annotated m c.members) (methods_annotated m entries) (fields_plain c.members)
      (methods_plain entries)

  classes_plain : (n : ℕ) (cs : List ClassDef) → PlainFindings (classes_annotated m n cs)
  classes_plain n [] = tt
  classes_plain n (c ∷ cs) =
      let base = base_facts (classes_of m) (base_named m n c.base) in
      plain_then (class_annotated m base c) (classes_annotated m (suc n) cs) (class_plain base c)
      (classes_plain (suc n) cs)

  plain_among : (fs : List Finding) → PlainFindings fs → (f : Finding) → Contains fs f → IsPlain f.code
  plain_among [] h f c = absurd (none_among f c)
  plain_among (g ∷ gs) h f c = elim (among_first g gs f c) [
    | inl e ↦ subst (λ (x : Finding). IsPlain x.code) e h.0
    | inr r ↦ plain_among gs h.1 f r
  ]

  pub annotations_plain : (f : Finding) → Contains (member_annotations m) f → IsPlain f.code
  unfolding member_annotations
  annotations_plain f c =
      plain_among (classes_annotated m 0 (classes_in m.items)) (classes_plain 0 (classes_in m.items)) f c

module _ (m : Module) where
  abbrev bases : Bases
  bases = bases_of m

  abbrev Right : List Note → Type 0
  Right notes = AreRight bases notes

  right_then : (xs ys : List Note) → Right xs → Right ys → Right (xs ++ ys)
  right_then xs ys h k = right_append bases xs ys h k

  -- ---- defaults

  right_default : (binds : Test) (l : Option Literal) (t : Tree) → IsWellFormed bases t
      → Right (default_findings bases binds l t)
  right_default binds None t h = tt
  right_default false (Some l) t h = tt
  right_default true (Some l) t h = right_flows bases (smaller m) (literal_place l) (clean (literal_type l)) (t ∷ [])
      (literal_well_formed bases l) (h, tt)

  -- ---- functions

  right_param_default : (bound : List ℕ → Test) (p : Param) → Right (param_default m bound p)
  right_param_default bound p = right_default (binds_text bound p.name.text) p.default
      (read_option m bases p.annotation) (read_option_well_formed m bases (smaller m) p.annotation)

  right_param : (bound : List ℕ → Test) (p : Param) → Right (param_findings m bound p)
  right_param bound p =
      right_then (map plain_note (option_findings m bases p.annotation)) (param_default m bound p)
      (right_option m bases p.annotation) (right_param_default bound p)

  right_params : (bound : List ℕ → Test) (ps : List Param) → Right (params_findings m bound ps)
  right_params bound [] = tt
  right_params bound (p ∷ ps) = right_then (param_findings m bound p)
      (params_findings m (with_name bound p.name.text) ps) (right_param bound p)
      (right_params (with_name bound p.name.text) ps)

  right_def : (bound : List ℕ → Test) (f : FuncDef) → Right (def_findings m bound f)
  right_def bound f = right_then (params_findings m bound f.params) (map plain_note (option_findings m bases f.returns))
      (right_params bound f.params) (right_option m bases f.returns)

  right_function : (i : Item) → Right (function_findings m i)
  right_function (constant_item p c) = tt
  right_function (class_item p c) = tt
  right_function (def_item p f) = right_def no_name f

  right_functions : (is : List Item) → Right (functions_findings m is)
  right_functions [] = tt
  right_functions (i ∷ is) = right_then (function_findings m i) (functions_findings m is) (right_function i)
      (right_functions is)

  -- ---- classes

  right_field : (base : ClassFacts) (bound : List ℕ → Test) (d : Field) → Right (field_default m base bound d)
  right_field base bound d = right_default (binds_as_field base bound d.name.text) d.default
      (read_ann m bases d.annotation) (read_ann_well_formed m bases (smaller m) d.annotation)

  right_defaults : (bound : List ℕ → Test) (ps : List Param) → Right (params_defaults m bound ps)
  right_defaults bound [] = tt
  right_defaults bound (p ∷ ps) = right_then (param_default m bound p)
      (params_defaults m (with_name bound p.name.text) ps) (right_param_default bound p)
      (right_defaults (with_name bound p.name.text) ps)

  right_method : (binds : Test) (d : FuncDef) → Right (method_findings m binds d)
  right_method true d = right_defaults (with_name no_name (codes "self")) d.params
  right_method false d = right_def (with_name no_name (codes "self")) d

  right_member : (base : ClassFacts) (bound : List ℕ → Test) (x : Member) → Right (member_findings m base bound x)
  right_member base bound (field_member d) = right_field base bound d
  right_member base bound (method_member d) = right_method (binds_as_method base bound d.name.text) d

  right_members : (base : ClassFacts) (bound : List ℕ → Test) (xs : List Member)
      → Right (members_findings m base bound xs)
  right_members base bound [] = tt
  right_members base bound (x ∷ xs) =
      right_then (member_findings m base bound x) (members_findings m base (with_name bound (name_of_member x).text) xs)
      (right_member base bound x) (right_members base (with_name bound (name_of_member x).text) xs)

  -- ---- constants

  wants_well_formed : (b : Test) (a : Option Ann) → AreWellFormed bases (annotated_types m b a)
  wants_well_formed true (Some a) = (read_ann_well_formed m bases (smaller m) a, tt)
  wants_well_formed true None = tt
  wants_well_formed false a = tt

  constant_well_formed : (a : Option Ann) (t : Tree) → IsWellFormed bases t → IsWellFormed bases (constant_type m a t)
  constant_well_formed None t k = k
  constant_well_formed (Some a) t k = read_ann_well_formed m bases (smaller m) a

  one_more : (ts : List Tree) (t : Tree) → AreWellFormed bases ts → IsWellFormed bases t
      → AreWellFormed bases (ts ++ t ∷ [])
  one_more [] t k h = (h, tt)
  one_more (u ∷ ts) t k h = (k.0, one_more ts t k.1 h)

  -- after constants of well-formed types
  module _ (r : ItemsReached) (k : AreWellFormed bases r.constants) where
    stands_well : StandsWell (initial m false r.constants r.classes)
    stands_well = record { context = initializers_well_formed m r.constants r.classes k; declared = tt; env = tt }

    right_value : (into : List Tree) → AreWellFormed bases into → (e : Expr) → Right (value_findings m false r into e)
    right_value into h e =
        let here = initial m false r.constants r.classes in
        let want = first_of_types into in
        let w = first_well_formed bases into h in
        right_then (finds_in here want e) (flows_at (place_of e) (flows_of bases (label_in here want e) into))
        (right_in here stands_well want w e)
        (right_flows bases (smaller m) (place_of e) (label_in here want e) into
        (label_well_formed here stands_well want w e) h)

    into_well_formed : (c : Constant) → AreWellFormed bases (initializer_types m r c)
    into_well_formed c = wants_well_formed (binds_text r.bound c.name.text) c.annotation

    right_constant : (c : Constant) → Right (constant_findings m false r c)
    right_constant c =
        right_then (map plain_note (option_findings m bases c.annotation))
        (value_findings m false r (initializer_types m r c) c.value) (right_option m bases c.annotation)
        (right_value (initializer_types m r c) (into_well_formed c) c.value)

    type_well_formed : (c : Constant) → IsWellFormed bases (type_of_constant m r c)
    type_well_formed c =
        let types = initializer_types m r c in
        constant_well_formed c.annotation (initializer_label m r c).type
        (label_well_formed (initial m false r.constants r.classes) stands_well (first_of_types types)
        (first_well_formed bases types (into_well_formed c)) c.value)

    -- ---- items

    right_item : (i : Item) → Right (item_findings m false r i)
    right_item (constant_item p c) = right_constant c
    right_item (class_item p c) = right_members (base_at m r.classes) no_name c.members
    right_item (def_item p f) = tt

    behind_well_formed : (i : Item) → AreWellFormed bases (behind m r i).constants
    behind_well_formed (constant_item p c) = one_more r.constants (type_of_constant m r c) k (type_well_formed c)
    behind_well_formed (class_item p c) = k
    behind_well_formed (def_item p f) = k

  right_items : (r : ItemsReached) → AreWellFormed bases r.constants → (is : List Item)
      → Right (items_findings m false r is)
  right_items r k [] = tt
  right_items r k (i ∷ is) = right_then (item_findings m false r i) (items_findings m false (behind m r i) is)
      (right_item r k i)
      (right_items (behind m r i) (behind_well_formed r k i) is)

  all_well_formed : (r : ItemsReached) → AreWellFormed bases r.constants → (is : List Item)
      → AreWellFormed bases (behind_all m r is).constants
  all_well_formed r k [] = k
  all_well_formed r k (i ∷ is) = all_well_formed (behind m r i) (behind_well_formed r k i) is

  -- ---- the module

  pub constants_formed : AreWellFormed bases (constants_of m)
  unfolding constants_of
  constants_formed = all_well_formed nothing_reached tt m.items

  pub right_signatures : Right (signatures_find m false)
  unfolding signatures_find
  right_signatures = right_then (functions_findings m m.items) (items_findings m false nothing_reached m.items)
      (right_functions m.items) (right_items nothing_reached tt m.items)
