-- Each finding that the labels of a module say has a detail, flows apart.
use Rattle.std.proofs.Common.{◌≡◌, ℕ, suc, List, [], ◌∷◌, ◌++◌, Bool as Test, true, false, refl, sym, ap, ◌∙◌, subst}
use Rattle.std.proofs.Common.{inl, inr, map, Contains}
use Rattle.std.proofs.lemmas.List.Elements.{Contains-append_right}
use Rattle.std.specs.List.{AllByRecursion}
use Rattle.std.specs.Prelude.{if◌then◌else◌, flat_map, find, bytes_eq, option_to_list, Option, Some, None}
use Rattle.pc_source.specs.declared.place.Place.{Place}
use Rattle.pc_tree.proofs.Among.{none_among, among_first}
use Rattle.pc_tree.specs.declared.code.Code.{Code}
use Rattle.pc_tree.specs.declared.code.Code.TheVariants.{E21, E24}
use Rattle.pc_tree.specs.declared.code.Finding.{Finding}
use Rattle.pc_tree.specs.Code.{finding}
use Rattle.pc_tree.specs.Depth.{place_of}
use Rattle.pc_tree.specs.Stopping.{bound_by}
use Rattle.pc_tree.specs.Tree.{Name, Literal, Ann, Param, Stmt, Member, field_member, method_member, Constant}
use Rattle.pc_tree.specs.Tree.{Item, constant_item, class_item, def_item, Module}
use Rattle.pc_scope.specs.declared.resolution.Builtin.{Builtin}
use Rattle.pc_scope.specs.declared.resolution.NameMeaning.{NameMeaning}
use Rattle.pc_scope.specs.declared.resolution.NameMeaning.TheVariants as meaning
use Rattle.pc_scope.specs.declared.resolution.Owner.TheVariants as owners
use Rattle.pc_scope.specs.Bindings.{param_names, constants_in, functions_in, classes_in, methods_in, Body, function_bodies}
use Rattle.pc_scope.specs.Bindings.{method_bodies, class_bodies, bodies}
use Rattle.pc_scope.specs.Expressions.{parts_in, exprs_in_all}
use Rattle.pc_scope.specs.Reserved.{builtin_of}
use Rattle.pc_scope.specs.Resolution.{receiver, bound_first, or_meaning, builtin_meaning, resolve_in_module}
use Rattle.pc_types.specs.Tree.{Tree}
use Rattle.pc_types.specs.Below.{Bases}
use Rattle.pc_annotations.specs.Bases.{bases_of}
use Rattle.pc_class.specs.Facts.{ClassFacts, return_type}
use Rattle.pc_class.specs.Findings.{base_class}
use Rattle.pc_flow.specs.Environment.{Env}
use Rattle.pc_notes.specs.Notes.{is_same_place}
use Rattle.pc_rules.specs.Operations.{clean}
use Rattle.pc_rules.specs.Labels.{FlowLabels, whole_label, IsCodeAt}
use Rattle.pc_rules.specs.Signatures.{initializer_context, literal_type, literal_place, LawfulDefault, DefaultFinds}
use Rattle.pc_rules.specs.Signatures.{ParamsLabels, LawfulParams, ParamsFind, binds_name, annotated_types}
use Rattle.pc_module_rules.specs.Modules.{entry_parameters, names_entered, ReturnsWell, leaves, may_complete, may_not}
use Rattle.pc_module_rules.specs.Modules.{FunctionLabels, LawfulFunction, FunctionFinds, MembersLabels, LawfulMembers}
use Rattle.pc_module_rules.specs.Modules.{MembersFind, ItemLabels, ModuleItemsLabels, constant_types, BeforeItem}
use Rattle.pc_module_rules.specs.Modules.{before_next, nothing_before, LawfulItem, LawfulModuleItems, ItemFinds}
use Rattle.pc_module_rules.specs.Modules.{ModuleItemsFind, Labelling, IsLawful, LabelsSay}
use Rattle.pc_module_rules.specs.TypesOfModules.{types_in_each, types_in_item, types_in_methods, types_in_body}
use Rattle.pc_module_rules.specs.TypesOfStatements.{types_in_suite}
use Rattle.pc_module_rules.specs.TypesOfExpressions.{types_in, TypeAt}
use Rattle.pc_module_rules.proofs.Places.{own_place}
use Rattle.pc_detail_texts.specs.Details.{Detail}
use Rattle.pc_detail_rules.specs.Facts.{Known, known_under}
use Rattle.pc_detail_rules.specs.Names.{first_from, place_of_name, late_after, late_in, names_of_body}
use Rattle.pc_detail_rules.specs.Nodes.{owned, exprs_of_body, exprs_of_module, targets_of, targets_in, ann_of_stmt}
use Rattle.pc_detail_rules.specs.Nodes.{stmts_in_suite, anns_in, anns_of_function, anns_of_member, anns_of_item}
use Rattle.pc_detail_rules.specs.Statements.{no_return_detail}
use Rattle.pc_detail_rules.proofs.Explained.Annotations.{IsAnn, IsWholeAnn, annotation_told, option_told}
use Rattle.pc_detail_rules.proofs.Explained.Calls.{IsContext}
use Rattle.pc_detail_rules.proofs.Explained.Expressions.{no_flow, no_flows, part_told}
use Rattle.pc_detail_rules.proofs.Explained.Labels.{IsTyped}
use Rattle.pc_detail_rules.proofs.Explained.Lists.{IsThere, there_mapped, there_first, there_second, first_there, all_left}
use Rattle.pc_detail_rules.proofs.Explained.Lists.{find_there, all_right, all_unmapped, all_unjoined, all_pick, all_among}
use Rattle.pc_detail_rules.proofs.Explained.Places.{types_known}
use Rattle.pc_detail_rules.proofs.Explained.Statements.{IsStmt, suite_told}
use Rattle.pc_detail_rules.proofs.Explained.Told.{Asked, IsTold, anns_of_module}

-- ---- initializers

-- a meaning that is a local
abbrev is_local : NameMeaning → Test
is_local (meaning.Local x) = true
is_local r = false

-- items bind no local
first_is_global : (k f c : ℕ) (items : List Item) (word : List ℕ)
    → is_local (or_meaning (bound_first k f c items word) meaning.None) ≡ false
first_is_global k f c [] word = refl
first_is_global k f c (constant_item p i ∷ rest) word = go (bytes_eq i.name.text word)
    (first_is_global (suc k) f c rest word)
  where
    go : (b : Test) → is_local (or_meaning (bound_first (suc k) f c rest word) meaning.None) ≡ false
        → is_local (or_meaning (if b then Some (meaning.Const k) else bound_first (suc k) f c rest word) meaning.None) ≡ false
    go true h = refl
    go false h = h
first_is_global k f c (def_item p i ∷ rest) word = go (bytes_eq i.name.text word)
    (first_is_global k (suc f) c rest word)
  where
    go : (b : Test) → is_local (or_meaning (bound_first k (suc f) c rest word) meaning.None) ≡ false
        → is_local (or_meaning (if b then Some (meaning.Func f) else bound_first k (suc f) c rest word) meaning.None) ≡ false
    go true h = refl
    go false h = h
first_is_global k f c (class_item p i ∷ rest) word = go (bytes_eq i.name.text word)
    (first_is_global k f (suc c) rest word)
  where
    go : (b : Test) → is_local (or_meaning (bound_first k f (suc c) rest word) meaning.None) ≡ false
        → is_local (or_meaning (if b then Some (meaning.Class c) else bound_first k f (suc c) rest word) meaning.None) ≡ false
    go true h = refl
    go false h = h

is_global : (m : Module) (word : List ℕ) → is_local (resolve_in_module m word) ≡ false
is_global m word = go (builtin_of word)
  where
    go : (o : Option Builtin)
        → is_local (or_meaning (builtin_meaning o) (or_meaning (bound_first 0 0 0 m.items word) meaning.None)) ≡ false
    go None = first_is_global 0 0 0 m.items word
    go (Some b) = refl

pub in_initializer : (m : Module) (constants : List Tree) (classes : ℕ)
    → IsContext m owners.Module (initializer_context m constants classes)
in_initializer m constants classes = record {
  resolves = λ word. refl;
  bases = refl;
  classes = refl;
  functions = refl;
  local = λ word x e. absurd (not_local (sym (is_global m word) ∙ ap is_local e));
}
  where
    not_local : false ≡ true → ⊥
    not_local e = cc e

-- ---- lists

-- a rule gives a detail for one thing at a place, whatever is before it
pub from_there : {A : Type 0} (place : A → Place) (rule : List A → A → Option (Detail Tree)) (p : Place)
    (before xs : List A) (x : A) → Contains xs x → place x ≡ p → ((ys : List A) → IsThere (rule ys x))
    → IsThere (first_from place rule p before xs)
from_there place rule p before [] x c at h = absurd (none_among x c)
from_there place rule p before (y ∷ ys) x c at h = elim (among_first y ys x c) [
  | inl e ↦ there_first (if is_same_place p (place y) then rule before y else None)
      (first_from place rule p (before ++ y ∷ []) ys)
      (here (subst (λ z. place z ≡ p) (sym e) at) (subst (λ z. IsThere (rule before z)) (sym e) (h before)))
  | inr r ↦ there_second (if is_same_place p (place y) then rule before y else None)
      (first_from place rule p (before ++ y ∷ []) ys) (from_there place rule p (before ++ y ∷ []) ys x r at h)
]
  where
    here : place y ≡ p → IsThere (rule before y) → IsThere (if is_same_place p (place y) then rule before y else None)
    here e k = subst (λ (b : Test). IsThere (if b then rule before y else None))
        (sym (subst (λ (q : Place). is_same_place p q ≡ true) (sym e) (own_place p))) k

module _ (m : Module) (labels : Labelling m) (f : Finding) (asked : Asked m f.code) where
  -- what is known under the labels
  abbrev known : Known
  known = known_under m labels

  abbrev constants : List Tree
  constants = constant_types m m.items labels

  -- the finding has a detail
  abbrev Goal : Type 0
  Goal = IsTold m known f.place f.code

  abbrev AreTyped : List TypeAt → Type 0
  AreTyped ts = AllByRecursion (IsTyped m known) ts

  abbrev AreAnns : List Ann → Type 0
  AreAnns as' = AllByRecursion (IsWholeAnn m known) as'

  -- ---- signatures

  default_told : (binds : Test) (l : Option Literal) (t : Tree) (flows : FlowLabels)
      → LawfulDefault (bases_of m) binds l t flows → DefaultFinds l flows f → Goal
  default_told binds None t flows law h = absurd h
  default_told false (Some l) t flows law h = absurd (no_flows flows (literal_place l) f law h)
  default_told true (Some l) t flows law h = absurd (no_flow (bases_of m) (clean (literal_type l)) (t ∷ []) flows
      (literal_place l) f law asked.plain h)

  params_told : (before : List (List ℕ)) (ps : List Param) (k : ParamsLabels ps) → LawfulParams m before ps k
      → AreAnns (flat_map (λ (p : Param). option_to_list p.annotation) ps) → ParamsFind m ps k f → Goal
  params_told before [] k law anns h = absurd h
  params_told before (p ∷ ps) k law anns h =
      let others = flat_map (λ (x : Param). option_to_list x.annotation) ps in
      elim h [
        | inl a ↦ option_told m known f asked p.annotation
            (all_left (IsWholeAnn m known) (option_to_list p.annotation) others anns) a
        | inr x ↦ elim x [
          | inl y ↦ default_told (binds_name before p.name) p.default _ k.default law.default y
          | inr y ↦ params_told (p.name.text ∷ before) ps k.rest law.rest
              (all_right (IsWholeAnn m known) (option_to_list p.annotation) others anns) y
        ]
      ]

  -- ---- functions

  module _ (b : Body) (of : Contains (bodies m) b) where
    -- the expressions of the body are the module's
    exprs_here : AllByRecursion (λ e. AllByRecursion (λ x. Contains (exprs_of_module m) (owned b.owner x)) (parts_in false e))
        (exprs_in_all false b.function.body)
    exprs_here =
        let All = exprs_of_module m in
        let initial = map (owned owners.Module) (flat_map (λ c. parts_in false c.value) (constants_in m.items)) in
        let whole = flat_map (parts_in false) (exprs_in_all false b.function.body) in
        let each = all_unjoined (Contains All) exprs_of_body (bodies m)
        (all_right (Contains All) initial (flat_map exprs_of_body (bodies m)) (all_among All)) in
        all_unjoined (λ x. Contains All (owned b.owner x)) (parts_in false) (exprs_in_all false b.function.body)
        (all_unmapped (Contains All) (owned b.owner) whole
        (all_pick (λ (x : Body). AllByRecursion (Contains All) (exprs_of_body x)) (bodies m) b each of))

    targets_here : AllByRecursion (λ s. AllByRecursion (Contains (targets_in m)) (targets_of s))
        (stmts_in_suite b.function.body)
    targets_here =
        let stmts : Body → List Stmt = λ (x : Body). stmts_in_suite x.function.body in
        let IsTarget : Stmt → Type 0 = λ (s : Stmt). AllByRecursion (Contains (targets_in m)) (targets_of s) in
        all_pick (λ (x : Body). AllByRecursion IsTarget (stmts x)) (bodies m) b
        (all_unjoined IsTarget stmts (bodies m)
        (all_unjoined (Contains (targets_in m)) targets_of (flat_map stmts (bodies m)) (all_among (targets_in m)))) of

    late_told : (n : Name) → Contains (bound_by b.function.body) n → IsTold m known n.place E24
    late_told n c = first_there (late_in n.place) (bodies m) b of
        (from_there place_of_name late_after n.place [] (names_of_body b) n
        (Contains-append_right (param_names b.function.params) (bound_by b.function.body) n c) refl (λ ys. refl))

    unreturned : f ≡ finding b.function.name.place E21 → Goal
    unreturned e = subst (λ (g : Finding). IsTold m known g.place g.code) (sym e)
        (there_mapped (no_return_detail m)
        (find (λ (x : Body). is_same_place b.function.name.place x.function.name.place) (bodies m))
        (find_there (λ (x : Body). is_same_place b.function.name.place x.function.name.place) (bodies m) b of
        (own_place b.function.name.place)))

    completing_told : {bases : Bases} {t : Tree} {out : Option Env} {o : Option Code} → ReturnsWell bases t out o
        → IsCodeAt b.function.name.place o f → Goal
    completing_told leaves h = absurd h
    completing_told (may_complete s) h = absurd h
    completing_told (may_not n) h = unreturned h

    function_told : (k : FunctionLabels b.function) → LawfulFunction m constants b.owner b.function k
        → AreAnns (anns_of_function b.function) → AreTyped (types_in_suite true b.function.body k.body)
        → FunctionFinds m constants b.owner b.function k f → Goal
    function_told k law anns typed h =
        let d = b.function in
        let of_params = flat_map (λ (p : Param). option_to_list p.annotation) d.params in
        let of_body = flat_map ann_of_stmt (stmts_in_suite d.body) in
        let behind = all_right (IsWholeAnn m known) of_params (option_to_list d.returns ++ of_body) anns in
        elim h [
          | inl a ↦ params_told (receiver b.owner) d.params k.params law.params
              (all_left (IsWholeAnn m known) of_params (option_to_list d.returns ++ of_body) anns) a
          | inr x ↦ elim x [
            | inl y ↦ option_told m known f asked d.returns
                (all_left (IsWholeAnn m known) (option_to_list d.returns) of_body behind) y
            | inr y ↦ elim y [
              | inl z ↦ completing_told law.completing z
              | inr z ↦
                  let in_stmts = all_unjoined (IsWholeAnn m known) ann_of_stmt (stmts_in_suite d.body)
                  (all_right (IsWholeAnn m known) (option_to_list d.returns) of_body behind) in
                  suite_told m known constants b of k.declared f asked (Contains (bound_by d.body)) late_told
                  (return_type m d) (names_entered [] (entry_parameters m b.owner d)) _ d.body k.body k.out law.body
                  exprs_here (stmts_here (stmts_in_suite d.body) targets_here in_stmts) (all_among (bound_by d.body)) typed z
            ]
          ]
        ]
      where
        stmts_here : (ss : List Stmt) → AllByRecursion (λ s. AllByRecursion (Contains (targets_in m)) (targets_of s)) ss
            → AllByRecursion (λ s. AllByRecursion (IsWholeAnn m known) (ann_of_stmt s)) ss
            → AllByRecursion (IsStmt m known constants b of k.declared f asked (Contains (bound_by b.function.body)) late_told)
            ss
        stmts_here [] t a = tt
        stmts_here (s ∷ ss) t a = (record { targets = t.0; anns = a.0 }, stmts_here ss t.1 a.1)

  -- ---- classes and items

  -- a body is one of the module's
  abbrev IsBody : Body → Type 0
  IsBody b = Contains (bodies m) b

  members_told : (base : ClassFacts) (c number : ℕ) (before : List (List ℕ)) (ms : List Member) (k : MembersLabels ms)
      → LawfulMembers m constants base c number before ms k
      → AllByRecursion IsBody (method_bodies c number (methods_in ms)) → AreAnns (flat_map anns_of_member ms)
      → AreTyped (types_in_methods true ms k) → MembersFind m constants c number ms k f → Goal
  members_told base c number before [] k law own anns typed h = absurd h
  members_told base c number before (field_member d ∷ ms) k law own anns typed h = elim h [
    | inl a ↦ annotation_told m known f asked d.annotation anns.0 a
    | inr x ↦ elim x [
      | inl y ↦ default_told _ d.default _ k.default law.default y
      | inr y ↦ members_told base c number (d.name.text ∷ before) ms k.rest law.others own anns.1 typed y
    ]
  ]
  members_told base c number before (method_member d ∷ ms) k law own anns typed h =
      let in_method = types_in_suite true d.body k.method.body in
      let in_others = types_in_methods true ms k.rest in
      elim h [
        | inl a ↦ function_told (record { owner = owners.Method c number; function = d }) own.0 k.method law.method
            (all_left (IsWholeAnn m known) (anns_of_function d) (flat_map anns_of_member ms) anns)
            (all_left (IsTyped m known) in_method in_others typed) a
        | inr x ↦ members_told base c (suc number) (d.name.text ∷ before) ms k.rest law.others own.1
            (all_right (IsWholeAnn m known) (anns_of_function d) (flat_map anns_of_member ms) anns)
            (all_right (IsTyped m known) in_method in_others typed) x
      ]

  -- the parts of the initializer of a constant are the module's
  abbrev IsConstant : Constant → Type 0
  IsConstant c = AllByRecursion (λ x. Contains (exprs_of_module m) (owned owners.Module x)) (parts_in false c.value)

  constant_told : (b : BeforeItem) (p : Place) (c : Constant) (k : ItemLabels (constant_item p c))
      → LawfulItem m constants b (constant_item p c) k → IsConstant c → AreAnns (option_to_list c.annotation)
      → AreTyped (types_in true c.value k.value) → ItemFinds m constants b (constant_item p c) k f → Goal
  constant_told b p c k law whole anns typed h = elim h [
    | inl a ↦ option_told m known f asked c.annotation anns a
    | inr x ↦ elim x [
      | inl y ↦ absurd (no_flow (bases_of m) (whole_label c.value k.value)
          (annotated_types m (binds_name b.names c.name) c.annotation) k.flows (place_of c.value) f law.flow asked.plain y)
      | inr y ↦ part_told m known owners.Module (initializer_context m b.constants b.classes)
          (in_initializer m b.constants b.classes) [] f asked [] _ c.value k.value law.value whole typed y
    ]
  ]

  items_told : (b : BeforeItem) (items : List Item) (k : ModuleItemsLabels items)
      → LawfulModuleItems m constants b items k → AllByRecursion IsConstant (constants_in items)
      → AllByRecursion IsBody (function_bodies b.functions (functions_in items))
      → AllByRecursion IsBody (class_bodies b.classes (classes_in items)) → AreAnns (flat_map anns_of_item items)
      → AreTyped (types_in_each (types_in_item true) items k) → AreTyped (types_in_each (types_in_body true) items k)
      → ModuleItemsFind m constants b items k f → Goal
  items_told b [] k law consts functions methods anns typed bodied h = absurd h
  items_told b (constant_item p c ∷ rest) k law consts functions methods anns typed bodied h =
      let in_value = types_in true c.value k.first.value in
      let in_rest = types_in_each (types_in_item true) rest k.rest in
      elim h [
        | inl a ↦ constant_told b p c k.first law.0 consts.0
            (all_left (IsWholeAnn m known) (option_to_list c.annotation) (flat_map anns_of_item rest) anns)
            (all_left (IsTyped m known) in_value in_rest typed) a
        | inr x ↦ items_told (before_next m b (constant_item p c) k.first) rest k.rest law.1 consts.1 functions methods
            (all_right (IsWholeAnn m known) (option_to_list c.annotation) (flat_map anns_of_item rest) anns)
            (all_right (IsTyped m known) in_value in_rest typed) bodied x
      ]
  items_told b (class_item p c ∷ rest) k law consts functions methods anns typed bodied h =
      let of_class = flat_map anns_of_member c.members in
      let own = method_bodies b.classes 0 (methods_in c.members) in
      let others = class_bodies (suc b.classes) (classes_in rest) in
      let in_class = types_in_methods true c.members k.first in
      let in_rest = types_in_each (types_in_body true) rest k.rest in
      elim h [
        | inl a ↦ members_told (base_class m b.classes c) b.classes 0 [] c.members k.first law.0
            (all_left IsBody own others methods)
            (all_left (IsWholeAnn m known) of_class (flat_map anns_of_item rest) anns)
            (all_left (IsTyped m known) in_class in_rest bodied) a
        | inr x ↦ items_told (before_next m b (class_item p c) k.first) rest k.rest law.1 consts functions
            (all_right IsBody own others methods)
            (all_right (IsWholeAnn m known) of_class (flat_map anns_of_item rest) anns) typed
            (all_right (IsTyped m known) in_class in_rest bodied) x
      ]
  items_told b (def_item p d ∷ rest) k law consts functions methods anns typed bodied h =
      let in_function = types_in_suite true d.body k.first.body in
      let in_rest = types_in_each (types_in_body true) rest k.rest in
      elim h [
        | inl a ↦ function_told (record { owner = owners.Func b.functions; function = d }) functions.0 k.first law.0
            (all_left (IsWholeAnn m known) (anns_of_function d) (flat_map anns_of_item rest) anns)
            (all_left (IsTyped m known) in_function in_rest bodied) a
        | inr x ↦ items_told (before_next m b (def_item p d) k.first) rest k.rest law.1 consts functions.1 methods
            (all_right (IsWholeAnn m known) (anns_of_function d) (flat_map anns_of_item rest) anns) typed
            (all_right (IsTyped m known) in_function in_rest bodied) x
      ]

  -- ---- the module

  -- each finding that labels say has a detail
  pub labels_told : IsLawful m labels → LabelsSay m labels f → Goal
  labels_told lawful h =
      let All = exprs_of_module m in
      let initial = flat_map (λ (c : Constant). parts_in false c.value) (constants_in m.items) in
      let consts = all_unjoined (λ x. Contains All (owned owners.Module x)) (λ (c : Constant). parts_in false c.value)
      (constants_in m.items) (all_unmapped (Contains All) (owned owners.Module) initial
      (all_left (Contains All) (map (owned owners.Module) initial) (flat_map exprs_of_body (bodies m)) (all_among All))) in
      let functions = function_bodies 0 (functions_in m.items) in
      let methods = class_bodies 0 (classes_in m.items) in
      let in_items = types_in_each (types_in_item true) m.items labels in
      let in_bodies = types_in_each (types_in_body true) m.items labels in
      let typed = types_known m labels in
      items_told nothing_before m.items labels lawful consts (all_left IsBody functions methods (all_among (bodies m)))
      (all_right IsBody functions methods (all_among (bodies m)))
      (all_unjoined (IsAnn m known) anns_in (flat_map anns_of_item m.items) (all_among (anns_of_module m known)))
      (all_left (IsTyped m known) in_items in_bodies typed) (all_right (IsTyped m known) in_items in_bodies typed) h
