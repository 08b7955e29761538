-- The types that flow dynamically in a module have dicts with int or str as key and classes as asked; and those of its
-- lawful labelling name classes of the module only.
use Rattle.std.proofs.Common.{◌≡◌, ◌+◌, ◌<◌, ℕ, suc, List, [], ◌∷◌, ◌++◌, length, ◌∙◌, subst, arith}
use Rattle.std.specs.Prelude.{Bool as Test, true, false, Option, Some, None, slice_get}
use Rattle.std.proofs.lemmas.List.{length-append}
use Rattle.std.proofs.lemmas.Option.{slice_get_within}
use Rattle.pc_source.specs.declared.place.Place.{Place}
use Rattle.pc_tree.specs.declared.code.Code.TheVariants.{A1}
use Rattle.pc_tree.specs.Tree.{Literal, number_literal, negative_literal, text_literal, truth_literal, none_literal}
use Rattle.pc_tree.specs.Tree.{Param, FuncDef, Member, field_member, method_member, ClassDef, Item, constant_item}
use Rattle.pc_tree.specs.Tree.{class_item, def_item, Module}
use Rattle.pc_scope.specs.declared.resolution.Owner.{Owner}
use Rattle.pc_scope.specs.declared.resolution.Owner.TheVariants as owners
use Rattle.pc_scope.specs.Bindings.{classes_in}
use Rattle.pc_scope.specs.Resolution.{receiver, locals, resolve_in_module}
use Rattle.pc_types.specs.Tree.{Tree}
use Rattle.pc_types.specs.Below.{Bases}
use Rattle.pc_annotations.specs.Annotations.{read_ann, read_option}
use Rattle.pc_class.specs.Bases.{bases_of}
use Rattle.pc_class.specs.Facts.{ClassFacts, class_facts_behind, classes_behind, classes_of, return_type, binds_field}
use Rattle.pc_class.specs.Findings.{base_class}
use Rattle.pc_flow.specs.Environment.{none_assigned}
use Rattle.pc_rules.specs.Operations.{clean}
use Rattle.pc_rules.specs.Labels.{FlowLabels}
use Rattle.pc_rules.specs.Signatures.{body_context, initializer_context, literal_type, literal_place, LawfulDefault}
use Rattle.pc_rules.specs.Signatures.{ParamsLabels, LawfulParams, binds_name, annotated_types, first_of_types}
use Rattle.pc_module_rules.specs.Modules.{entry_parameters, names_entered, entry_env, FunctionLabels, LawfulFunction}
use Rattle.pc_module_rules.specs.Modules.{MembersLabels, LawfulMembers, ItemLabels, ModuleItemsLabels, BeforeItem}
use Rattle.pc_module_rules.specs.Modules.{before_next, nothing_before, constant_types, LawfulItem, LawfulModuleItems}
use Rattle.pc_module_rules.specs.Modules.{Labelling}
use Rattle.pc_module_rules.specs.FlowsOfExpressions.{CodedFlow}
use Rattle.pc_module_rules.specs.Statements.{SuiteFinds}
use Rattle.pc_module_rules.specs.FlowsOfStatements.{coded_in_suite}
use Rattle.pc_module_rules.specs.FlowsOfModules.{coded_at_default, coded_in_params, coded_in_members}
use Rattle.pc_module_rules.specs.FlowsOfModules.{coded_in_methods, coded_in_function, coded_in_item}
use Rattle.pc_module_rules.specs.FlowsOfModules.{coded_in_body, flows_in_each, coded_flows}
use Rattle.pc_module_rules.specs.FlowsOfModules.{FlowsDynamically}
use Rattle.pc_module_rules.proofs.LabelledModule.{every_module_has_a_labelling}
use Rattle.pc_sound.proofs.Regular.RegularParts.{Asked, classes_below, ClassAsked, TestsAsked, IsRegular, NamesAsked}
use Rattle.pc_sound.proofs.Regular.RegularParts.{Regular}
use Rattle.pc_sound.specs.Silent.{bare_returns_in}
use Rattle.pc_sound.proofs.Regular.RegularStatements.{InitializersRegular}
use Rattle.pc_sound.proofs.Regular.QuietReturns.{AskedRight}
use Rattle.pc_sound.proofs.Regular.RegularFunctions.{OwnerAsked, function_regular}
use Rattle.pc_sound.proofs.Regular.RegularInitializers.{InitializersTimely, initializers_are_regular}
use Rattle.pc_sound.proofs.Regular.RegularInitializers.{constants_are_regular}
use Rattle.pc_sound.proofs.Regular.ExpressionFlows.{FlowsRegular, flows_append, no_flows, value_flows, value_and_flows}
use Rattle.pc_sound.proofs.Regular.BodyFlows.{suite_flows}
use Rattle.pc_sound.proofs.Modules.ModuleNames.{class_named}
use Rattle.pc_sound.proofs.Modules.TimelyBodies.{NamesTimely, all_timely}

-- ---- flows in items

module _ (asked : Asked) where
  literal_regular : (l : Literal) → IsRegular asked (literal_type l)
  literal_regular (number_literal p digits) = tt
  literal_regular (negative_literal p digits) = tt
  literal_regular (text_literal p characters) = tt
  literal_regular (truth_literal p value) = tt
  literal_regular (none_literal p) = tt

  default_flows : (bases : Bases) (binds : Test) (l : Option Literal) (t : Tree) (flows : FlowLabels)
      → LawfulDefault bases binds l t flows → FlowsRegular asked (coded_at_default A1 l flows)
  default_flows bases binds None t flows law = tt
  default_flows bases false (Some l) t flows law = no_flows asked (literal_place l) flows law
  default_flows bases true (Some l) t flows law = value_flows asked bases (literal_place l) (clean (literal_type l))
      (t ∷ []) flows (literal_regular l) law

  params_flows : (m : Module) (before : List (List ℕ)) (ps : List Param) (labels : ParamsLabels ps)
      → LawfulParams m before ps labels → FlowsRegular asked (coded_in_params A1 ps labels)
  params_flows m before [] labels law = tt
  params_flows m before (p ∷ ps) labels law =
      flows_append asked (coded_at_default A1 p.default labels.default) (coded_in_params A1 ps labels.rest)
      (default_flows (bases_of m) (binds_name before p.name) p.default (read_option m (bases_of m) p.annotation)
      labels.default law.default) (params_flows m (p.name.text ∷ before) ps labels.rest law.rest)

  members_flows : (m : Module) (constants : List Tree) (base : ClassFacts) (c number : ℕ) (before : List (List ℕ))
      (ms : List Member) (labels : MembersLabels ms) → LawfulMembers m constants base c number before ms labels
      → FlowsRegular asked (coded_in_members A1 ms labels)
  members_flows m constants base c number before [] labels law = tt
  members_flows m constants base c number before (field_member x ∷ rest) labels law =
      flows_append asked (coded_at_default A1 x.default labels.default) (coded_in_members A1 rest labels.rest)
      (default_flows (bases_of m) (binds_field base before x.name.text) x.default (read_ann m (bases_of m) x.annotation)
      labels.default law.default)
      (members_flows m constants base c number (x.name.text ∷ before) rest labels.rest law.others)
  members_flows m constants base c number before (method_member f ∷ rest) labels law =
      flows_append asked (coded_in_params A1 f.params labels.method.params) (coded_in_members A1 rest labels.rest)
      (params_flows m (receiver (owners.Method c number)) f.params labels.method.params law.method.params)
      (members_flows m constants base c (suc number) (f.name.text ∷ before) rest labels.rest law.others)

  module _ (m : Module) (meant : NamesAsked asked (resolve_in_module m)) (constants : List Tree)
      (types : (i : ℕ) (t : Tree) → slice_get constants i ≡ Some t → IsRegular asked t)
      (in_time : (owner : Owner) (f : FuncDef) → TestsAsked asked
      (NamesTimely (body_context m constants (locals owner f))))
      (none_wrong : (owner : Owner) (f : FuncDef) (labels : FunctionLabels f) → AskedRight asked
      (SuiteFinds m (body_context m constants (locals owner f)) (names_entered [] (entry_parameters m owner f)) f.body
      labels.body) (bare_returns_in f.body)) where
    body_flows : (owner : Owner) → OwnerAsked asked owner → (f : FuncDef) (labels : FunctionLabels f)
        → LawfulFunction m constants owner f labels → FlowsRegular asked (coded_in_suite A1 f.body labels.body)
    body_flows owner there f labels law =
        let ctx = body_context m constants (locals owner f) in
        suite_flows asked m ctx labels.declared (return_type m f) (names_entered [] (entry_parameters m owner f))
        (entry_env ctx.resolve [] (entry_parameters m owner f) (none_assigned (length (locals owner f)))) f.body
        labels.body labels.out
        (function_regular asked m meant constants types owner there f (in_time owner f) labels
        (none_wrong owner f labels) law) law.body

    methods_flows : (base : ClassFacts) (c : ℕ) → ClassAsked asked c
        → (number : ℕ) (before : List (List ℕ)) (ms : List Member) (labels : MembersLabels ms)
        → LawfulMembers m constants base c number before ms labels → FlowsRegular asked (coded_in_methods A1 ms labels)
    methods_flows base c there number before [] labels law = tt
    methods_flows base c there number before (field_member x ∷ rest) labels law = methods_flows base c there number
        (x.name.text ∷ before) rest labels.rest law.others
    methods_flows base c there number before (method_member f ∷ rest) labels law =
        flows_append asked (coded_in_suite A1 f.body labels.method.body) (coded_in_methods A1 rest labels.rest)
        (body_flows (owners.Method c number) there f labels.method law.method)
        (methods_flows base c there (suc number) (f.name.text ∷ before) rest labels.rest law.others)

    -- the demands on an item: the labels of an initializer are regular, and a class is as asked
    abbrev ItemAsked : BeforeItem → (i : Item) → ItemLabels i → Type 0
    ItemAsked b (constant_item p c) labels = Regular asked c.value labels.value
    ItemAsked b (class_item p c) labels = ClassAsked asked b.classes
    ItemAsked b (def_item p f) labels = Unit {0}

    function_flows : (b : BeforeItem) (i : Item) (labels : ItemLabels i) → ItemAsked b i labels
        → LawfulItem m constants b i labels → FlowsRegular asked (coded_in_function A1 i labels)
    function_flows b (constant_item p c) labels k law = tt
    function_flows b (class_item p c) labels k law = tt
    function_flows b (def_item p f) labels k law = params_flows m (receiver (owners.Func b.functions)) f.params
        labels.params law.params

    item_flows : (b : BeforeItem) (i : Item) (labels : ItemLabels i) → ItemAsked b i labels
        → LawfulItem m constants b i labels → FlowsRegular asked (coded_in_item A1 i labels)
    item_flows b (constant_item p c) labels k law =
        let types = annotated_types m (binds_name b.names c.name) c.annotation in
        value_and_flows asked (initializer_context m b.constants b.classes) [] [] (first_of_types types) c.value
        labels.value types labels.flows k law.value law.flow
    item_flows b (class_item p c) labels k law = members_flows m constants (base_class m b.classes c) b.classes 0 []
        c.members labels law
    item_flows b (def_item p f) labels k law = tt

    bodies_flows : (b : BeforeItem) (i : Item) (labels : ItemLabels i) → ItemAsked b i labels
        → LawfulItem m constants b i labels → FlowsRegular asked (coded_in_body A1 i labels)
    bodies_flows b (constant_item p c) labels k law = tt
    bodies_flows b (class_item p c) labels k law = methods_flows (base_class m b.classes c) b.classes k 0 [] c.members
        labels law
    bodies_flows b (def_item p f) labels k law = body_flows (owners.Func b.functions) tt f labels law

    abbrev ItemsAsked : BeforeItem → (items : List Item) → ModuleItemsLabels items → Type 0
    ItemsAsked b [] labels = Unit {0}
    ItemsAsked b (i ∷ rest) labels = ItemAsked b i labels.first × ItemsAsked (before_next m b i labels.first) rest
        labels.rest

    each_flows :
        (flows : (i : Item) → ItemLabels i → List CodedFlow) → ((b : BeforeItem) (i : Item) (labels : ItemLabels i)
        → ItemAsked b i labels → LawfulItem m constants b i labels → FlowsRegular asked (flows i labels))
        → (b : BeforeItem) (items : List Item) (labels : ModuleItemsLabels items) → ItemsAsked b items labels
        → LawfulModuleItems m constants b items labels → FlowsRegular asked (flows_in_each flows items labels)
    each_flows flows one b [] labels k law = tt
    each_flows flows one b (i ∷ rest) labels k law =
        flows_append asked (flows i labels.first) (flows_in_each flows rest labels.rest)
        (one b i labels.first k.0 law.0) (each_flows flows one (before_next m b i labels.first) rest labels.rest k.1
        law.1)

    -- each class of a module is as asked, where those of its numbers are
    module _ (all : (c : ℕ) → c < length (classes_in m.items) → ClassAsked asked c) where
      items_asked : (b : BeforeItem) (items : List Item) (labels : ModuleItemsLabels items)
          → b.classes + length (classes_in items) ≡ length (classes_in m.items) → InitializersRegular asked items labels
          → ItemsAsked b items labels
      items_asked b [] labels e k = tt
      items_asked b (constant_item p c ∷ rest) labels e k =
          (k.0, items_asked (before_next m b (constant_item p c) labels.first) rest labels.rest e k.1)
      items_asked b (class_item p c ∷ rest) labels e k =
          let long : b.classes + suc (length (classes_in rest)) ≡ length (classes_in m.items) = e in (
            all b.classes (omega (arith, long)),
            items_asked (before_next m b (class_item p c) labels.first) rest
                labels.rest (omega (arith, long)) k,
          )
      items_asked b (def_item p f ∷ rest) labels e k = (
        tt,
        items_asked (before_next m b (def_item p f) labels.first)
            rest labels.rest e k,
      )

      module_flows : (labels : Labelling m) → InitializersRegular asked m.items labels
          → LawfulModuleItems m constants nothing_before m.items labels → FlowsRegular asked (coded_flows A1 m labels)
      module_flows labels k law =
          let there = items_asked nothing_before m.items labels (omega arith) k in
          let functions = each_flows (coded_in_function A1) function_flows nothing_before m.items labels there law in
          let items = each_flows (coded_in_item A1) item_flows nothing_before m.items labels there law in
          let bodies = each_flows (coded_in_body A1) bodies_flows nothing_before m.items labels there law in
          flows_append asked (flows_in_each (coded_in_function A1) m.items labels ++ flows_in_each (coded_in_item A1)
          m.items labels) (flows_in_each (coded_in_body A1) m.items labels)
          (flows_append asked (flows_in_each (coded_in_function A1) m.items labels)
          (flows_in_each (coded_in_item A1) m.items labels) functions items) bodies

  -- of flows that are regular each is
  among_regular : (before behind : List CodedFlow) (d : CodedFlow) → FlowsRegular asked (before ++ (d ∷ behind))
      → IsRegular asked d.from
  among_regular [] behind d h = h.0
  among_regular (e ∷ before) behind d h = among_regular before behind d h.1

-- ---- the classes of a module

many_behind : (m : Module) (earlier : List ClassFacts) (c : ℕ) (cs : List ClassDef)
    → length (classes_behind m earlier c cs) ≡ length earlier + length cs
many_behind m earlier c [] = omega arith
many_behind m earlier c (class ∷ rest) =
    let more = length-append earlier (class_facts_behind m earlier c class ∷ []) in
    many_behind m (earlier ++ class_facts_behind m earlier c class ∷ []) (suc c) rest ∙ omega arith

many_classes : (m : Module) → length (classes_of m) ≡ length (classes_in m.items)
unfolding classes_of
many_classes m = many_behind m [] 0 (classes_in m.items) ∙ omega arith

-- a class that a name means is one of the module's
pub named_below : (m : Module) → NamesAsked (classes_below (length (classes_of m))) (resolve_in_module m)
named_below m word c e =
    let h = class_named m word c e in
    let behind = h.behind in
    let within : h.at < length (classes_in m.items) = slice_get_within (classes_in m.items) h.at h.class h.is in
    let many = many_classes m in
    omega (arith, behind, within, many)

-- where classes are asked, nothing is asked of tests of an instance
module _ (m : Module) (bound : ℕ) where
  initializers_timely : (b : BeforeItem) (items : List Item) (labels : ModuleItemsLabels items)
      → InitializersTimely (classes_below bound) m b items labels
  initializers_timely b [] labels = tt
  initializers_timely b (constant_item p c ∷ rest) labels = (
    all_timely (initializer_context m b.constants b.classes) []
        (classes_below bound) tt c.value,
    initializers_timely (before_next m b (constant_item p c) labels.first) rest
        labels.rest,
  )
  initializers_timely b (class_item p c ∷ rest) labels = initializers_timely
      (before_next m b (class_item p c) labels.first) rest labels.rest
  initializers_timely b (def_item p f ∷ rest) labels = initializers_timely (before_next m b (def_item p f) labels.first)
      rest labels.rest

-- a type that flows dynamically in a module names classes of the module only
pub flow_regular : (m : Module) (p : Place) (s t : Tree) → FlowsDynamically m p s t
    → IsRegular (classes_below (length (classes_of m))) s
flow_regular m p s t flows =
    let asked = classes_below (length (classes_of m)) in
    let labelled = every_module_has_a_labelling m in
    let constants = constant_types m m.items labelled.labels in
    let timely = initializers_timely m (length (classes_of m)) nothing_before m.items labelled.labels in
    let initializers = initializers_are_regular asked m (named_below m) labelled.labels labelled.lawful timely in
    let types = constants_are_regular asked m (named_below m) labelled.labels labelled.lawful timely in
    let all = module_flows asked m (named_below m) constants types (λ owner f. tt) (λ owner f labels. tt) (below m)
    labelled.labels initializers labelled.lawful in
    let first = flows labelled.labels labelled.lawful in
    among_regular asked first.before first.behind (record { place = p; from = s; into = t })
    (subst (FlowsRegular asked) first.order all)
  where
    below : (m : Module) (c : ℕ) → c < length (classes_in m.items) → c < length (classes_of m)
    below m c h = let many = many_classes m in omega (arith, h, many)
