-- The notes of a module hold exactly the flows with a code under its lawful labelling, of its signatures, its constants
-- and its bodies, whether types are kept or not.
use Rattle.std.proofs.Common.{◌≡◌, ℕ, suc, List, [], ◌∷◌, ◌++◌, length, refl, sym, ap, ◌∙◌, subst, arith, append-nil}
use Rattle.std.specs.Prelude.{Bool as Test, true, false, Option, Some, None, map, slice_get, codes}
use Rattle.pc_source.specs.declared.place.Place.{Place}
use Rattle.pc_tree.specs.declared.code.Code.{Code}
use Rattle.pc_tree.specs.declared.code.Code.TheVariants.{E21}
use Rattle.pc_tree.specs.Code.{finding}
use Rattle.pc_tree.specs.Depth.{place_of}
use Rattle.pc_tree.specs.Tree.{Literal, number_literal, negative_literal, text_literal, truth_literal, none_literal}
use Rattle.pc_tree.specs.Tree.{Param, FuncDef, Member, field_member, method_member, ClassDef, Constant, Item}
use Rattle.pc_tree.specs.Tree.{constant_item, class_item, def_item, Module}
use Rattle.pc_scope.specs.Bindings.{classes_in}
use Rattle.pc_scope.specs.Resolution.{is_one_of, locals}
use Rattle.pc_scope.specs.declared.resolution.Owner.{Owner}
use Rattle.pc_scope.specs.declared.resolution.Owner.TheVariants as owners
use Rattle.pc_types.specs.Tree.{Tree, NoneType}
use Rattle.pc_types.specs.Below.{Bases}
use Rattle.pc_types.specs.WellFormed.{IsWellFormed}
use Rattle.pc_annotations.specs.Annotations.{read_ann, read_option}
use Rattle.pc_types.specs.Computed.{static_test}
use Rattle.pc_annotations.proofs.Earlier.{smaller}
use Rattle.pc_annotations.proofs.Readings.{read_ann_well_formed, read_option_well_formed}
use Rattle.pc_annotations.specs.Listed.{option_findings}
use Rattle.pc_class.specs.Bases.{bases_of}
use Rattle.pc_class.specs.Facts.{ClassFacts, return_type, base_facts, classes_of, binds_field, binds_method}
use Rattle.pc_class.specs.Findings.{base_class}
use Rattle.pc_class.proofs.ClassesBuilt.{base_here}
use Rattle.pc_class.proofs.WellFormed.{returned_well_formed}
use Rattle.pc_flow.specs.Environment.{Env, none_assigned}
use Rattle.pc_flow.specs.WellFormed.{AreWellFormed}
use Rattle.pc_notes.specs.Notes.{Note, plain_note, named}
use Rattle.pc_rules.specs.Operations.{clean}
use Rattle.pc_rules.specs.Labels.{FlowLabels, type_of, is_of_scopes}
use Rattle.pc_rules.specs.Computed.Expressions.{flows_of}
use Rattle.pc_rules.specs.Computed.Findings.{notes_under, name_after, flows_at}
use Rattle.pc_rules.specs.Signatures.{body_context, literal_type, literal_place, LawfulDefault}
use Rattle.pc_rules.specs.Signatures.{binds_name, ParamsLabels, LawfulParams, constant_type, annotated_types}
use Rattle.pc_rules.specs.Computed.Signatures.{constants_of, signatures_find, no_name, ItemsReached, nothing_reached}
use Rattle.pc_rules.specs.Computed.Signatures.{default_findings, params_findings, def_findings, function_findings}
use Rattle.pc_rules.specs.Computed.Signatures.{functions_findings, members_findings, base_at, type_of_constant}
use Rattle.pc_rules.specs.Computed.Signatures.{value_findings, constant_findings, class_notes, behind, items_findings}
use Rattle.pc_rules.specs.Computed.Signatures.{params_defaults, method_findings, field_default}
use Rattle.pc_rules.proofs.ComputedFlows.{flows_are_lawful}
use Rattle.pc_rules.proofs.Contexts.{bodies_well_formed}
use Rattle.pc_rules.proofs.One.{into_one}
use Rattle.pc_module_rules.specs.Modules.{entry_parameters, names_entered, entry_env, FunctionLabels, LawfulFunction}
use Rattle.pc_module_rules.specs.Modules.{MembersLabels, LawfulMembers, ItemLabels, ModuleItemsLabels, constant_types}
use Rattle.pc_module_rules.specs.Modules.{BeforeItem, nothing_before, before_next, LawfulItem, LawfulModuleItems}
use Rattle.pc_module_rules.specs.Modules.{Labelling, IsLawful}
use Rattle.pc_module_rules.specs.Laws.Labellings.{Surroundings}
use Rattle.pc_module_rules.specs.Computed.Statements.{Walk, walk_suite, enter_parameters, end_finds, function_finds}
use Rattle.pc_module_rules.specs.Computed.Modules.{methods_find, bodies_find, module_notes}
use Rattle.pc_module_rules.proofs.LabelledFunctions.{entries_well_formed}
use Rattle.pc_module_rules.proofs.LabelledModule.{one_more}
use Rattle.pc_module_rules.proofs.LocalNames.{names_are}
use Rattle.pc_module_rules.proofs.WalkedItems.{reached_at, ClassesFrom}
use Rattle.pc_module_rules.proofs.WalkedModule.{constants_have_types, constants_well_formed}
use Rattle.pc_module_rules.specs.FlowsOfExpressions.{CodedFlow, coded_at, coded_in}
use Rattle.pc_module_rules.specs.FlowsOfModules.{coded_at_default, coded_in_params, coded_in_members}
use Rattle.pc_module_rules.specs.FlowsOfModules.{coded_in_methods, coded_in_function, coded_in_item}
use Rattle.pc_module_rules.specs.FlowsOfModules.{coded_in_body, flows_in_each, coded_flows}
use Rattle.pc_module_rules.specs.FlowsOfStatements.{coded_in_suite}
use Rattle.pc_module_rules.proofs.EnteredTables.{all_entered, none_fits, none_assigned_fits}
use Rattle.pc_module_rules.proofs.FirstFlows.{Tells, tell_none, tell_then, tell_behind, tell_plain, Grows, grow_none}
use Rattle.pc_module_rules.proofs.FirstFlows.{grow, grow_then, tell_grown}
use Rattle.pc_module_rules.proofs.KeptWalks.{standing}
use Rattle.pc_module_rules.proofs.PlainCodes.{in_both}
use Rattle.pc_module_rules.proofs.ReadConstants.{found_is, type_well_formed, constant_is, flows_are}
use Rattle.pc_module_rules.proofs.ToldFlows.{tell_flows, tell_expression}
use Rattle.pc_module_rules.proofs.ToldStatements.{suite_tells}

literal_well_formed : (bases : Bases) (l : Literal) → IsWellFormed bases (literal_type l)
literal_well_formed bases (number_literal p d) = (tt, tt, omega arith)
literal_well_formed bases (negative_literal p d) = (tt, tt, omega arith)
literal_well_formed bases (text_literal p d) = (tt, tt, omega arith)
literal_well_formed bases (truth_literal p v) = (tt, tt, omega arith)
literal_well_formed bases (none_literal p) = (tt, tt, omega arith)

module _ (code : Code) (own : is_of_scopes code ≡ false) (keeps : Test) (m : Module) where
  abbrev bases : Bases
  bases = bases_of m

  -- ---- signatures

  default_tells : (binds : Test) (l : Option Literal) (t : Tree) (flows : FlowLabels) → IsWellFormed bases t
      → LawfulDefault bases binds l t flows → Tells code (default_findings bases binds l t)
      (coded_at_default code l flows)
  default_tells binds None t flows kw h = tell_none
  default_tells false (Some l) t flows kw h = subst (λ (fs : FlowLabels).
      Tells code [] (coded_at code (literal_place l) fs))
      (sym h) tell_none
  default_tells true (Some l) t flows kw h =
      let from = clean (literal_type l) in
      let e : flows_of bases from (t ∷ []) ≡ flows = into_one bases from (t ∷ []) (flows_of bases from (t ∷ [])) flows
      (flows_are_lawful bases from (t ∷ []) (smaller m) (literal_well_formed bases l) (kw, tt)) h in
      subst (λ fs. Tells code (flows_at (literal_place l) fs) (coded_at code (literal_place l) flows)) (sym e)
      (tell_flows code own (literal_place l) flows)

  params_tell : (before : List (List ℕ)) (ps : List Param) (labels : ParamsLabels ps) → LawfulParams m before ps labels
      → Tells code (params_findings m (λ t. is_one_of t before) ps) (coded_in_params code ps labels)
  params_tell before [] labels h = tell_none
  params_tell before (p ∷ ps) labels h =
      let notes = map plain_note (option_findings m bases p.annotation) in
      let default = default_findings bases (binds_name before p.name) p.default (read_option m bases p.annotation) in
      let ds = coded_at_default code p.default labels.default in
      tell_then (notes ++ default) (params_findings m (λ t. is_one_of t (p.name.text ∷ before)) ps) ds
      (coded_in_params code ps labels.rest)
      (tell_then notes default [] ds (tell_plain (option_findings m bases p.annotation))
      (default_tells (binds_name before p.name) p.default (read_option m bases p.annotation) labels.default
      (read_option_well_formed m bases (smaller m) p.annotation) h.default))
      (params_tell (p.name.text ∷ before) ps labels.rest h.rest)

  def_tells : (before : List (List ℕ)) (f : FuncDef) (labels : ParamsLabels f.params)
      → LawfulParams m before f.params labels → Tells code (def_findings m (λ t. is_one_of t before) f)
      (coded_in_params code f.params labels)
  def_tells before f labels h =
      tell_behind (params_findings m (λ t. is_one_of t before) f.params)
      (map plain_note (option_findings m bases f.returns)) (coded_in_params code f.params labels)
      (params_tell before f.params labels h) (tell_plain (option_findings m bases f.returns))

  -- defaults of parameters, after these names
  defaults_tell : (before : List (List ℕ)) (ps : List Param) (labels : ParamsLabels ps)
      → LawfulParams m before ps labels → Tells code (params_defaults m (λ t. is_one_of t before) ps)
      (coded_in_params code ps labels)
  defaults_tell before [] labels h = tell_none
  defaults_tell before (p ∷ ps) labels h =
      tell_then (default_findings bases (binds_name before p.name) p.default (read_option m bases p.annotation))
      (params_defaults m (λ t. is_one_of t (p.name.text ∷ before)) ps) (coded_at_default code p.default labels.default)
      (coded_in_params code ps labels.rest)
      (default_tells (binds_name before p.name) p.default (read_option m bases p.annotation) labels.default
      (read_option_well_formed m bases (smaller m) p.annotation) h.default)
      (defaults_tell (p.name.text ∷ before) ps labels.rest h.rest)

  -- a method, whose annotations tell of no flow
  method_tells : (binds : Test) (d : FuncDef) (labels : ParamsLabels d.params)
      → LawfulParams m (codes "self" ∷ []) d.params labels → Tells code (method_findings m binds d)
      (coded_in_params code d.params labels)
  method_tells true d labels l = defaults_tell (codes "self" ∷ []) d.params labels l
  method_tells false d labels l = def_tells (codes "self" ∷ []) d labels l

  -- members, after these names
  members_tell : (all : List Tree) (base : ClassFacts) (c number : ℕ) (before : List (List ℕ)) (ms : List Member)
      (labels : MembersLabels ms) → LawfulMembers m all base c number before ms labels
      → Tells code (members_findings m base (λ t. is_one_of t before) ms) (coded_in_members code ms labels)
  members_tell all base c number before [] labels l = tell_none
  members_tell all base c number before (field_member d ∷ rest) labels l =
      tell_then (field_default m base (λ t. is_one_of t before) d)
      (members_findings m base (λ t. is_one_of t (d.name.text ∷ before)) rest)
      (coded_at_default code d.default labels.default) (coded_in_members code rest labels.rest)
      (default_tells (binds_field base before d.name.text) d.default (read_ann m bases d.annotation) labels.default
      (read_ann_well_formed m bases (smaller m) d.annotation) l.default)
      (members_tell all base c number (d.name.text ∷ before) rest labels.rest l.others)
  members_tell all base c number before (method_member d ∷ rest) labels l =
      tell_then (method_findings m (binds_method base before d.name.text) d)
      (members_findings m base (λ t. is_one_of t (d.name.text ∷ before)) rest)
      (coded_in_params code d.params labels.method.params) (coded_in_members code rest labels.rest)
      (method_tells (binds_method base before d.name.text) d labels.method.params l.method.params)
      (members_tell all base c (suc number) (d.name.text ∷ before) rest labels.rest l.others)

  -- ---- constants

  constant_tells : (b : BeforeItem) (kb : AreWellFormed bases b.constants) (p : Place) (c : Constant)
      (labels : ItemLabels (constant_item p c)) (all : List Tree) → LawfulItem m all b (constant_item p c) labels
      → Tells code (constant_findings m keeps (reached_at b) c) (coded_in_item code (constant_item p c) labels)
  constant_tells b kb p c labels all l =
      let into = annotated_types m (binds_name b.names c.name) c.annotation in
      let notes = map plain_note (option_findings m bases c.annotation) in
      let q = place_of c.value in
      let ds = coded_in code c.value labels.value in
      let es = coded_at code q labels.flows in
      let found = found_is m b kb p c labels all l keeps in
      let flows = flows_are m b kb p c labels all l in
      let is : value_findings m keeps (reached_at b) into c.value ≡ notes_under keeps c.value labels.value
      ++ flows_at q labels.flows = λ i. found i ++ flows_at q (flows i) in
      tell_then notes (value_findings m keeps (reached_at b) into c.value) [] (ds ++ es)
      (tell_plain (option_findings m bases c.annotation))
      (subst (λ xs. Tells code xs (ds ++ es)) (sym is) (tell_then (notes_under keeps c.value labels.value)
      (flows_at q labels.flows) ds es (tell_expression code own keeps c.value labels.value)
      (tell_flows code own q labels.flows)))

  -- the note of a constant's name tells of no flow
  named_tells : (found : List Note) (p : Place) (d : Tree) (t : Option Tree) (ds : List CodedFlow) → Tells code found ds
      → Tells code (name_after keeps found p d t) ds
  named_tells found p d t ds h = kept keeps
    where
      kept : (k : Test) → Tells code (name_after k found p d t) ds
      kept false = h
      kept true = tell_behind found (named p d t ∷ []) ds h (record { is = λ q. refl })

  -- ---- items

  -- the signatures of functions
  functions_tell : (all : List Tree) (b : BeforeItem) (items : List Item) (labels : ModuleItemsLabels items)
      → LawfulModuleItems m all b items labels → Tells code (functions_findings m items)
      (flows_in_each (coded_in_function code) items labels)
  functions_tell all b [] labels l = tell_none
  functions_tell all b (i ∷ rest) labels l =
      tell_then (function_findings m i) (functions_findings m rest) (coded_in_function code i labels.first)
      (flows_in_each (coded_in_function code) rest labels.rest) (one i labels.first l.0)
      (functions_tell all (before_next m b i labels.first) rest labels.rest l.1)
    where
      one : (i : Item) (mk : ItemLabels i) → LawfulItem m all b i mk
          → Tells code (function_findings m i) (coded_in_function code i mk)
      one (constant_item p c) mk h = tell_none
      one (class_item p c) mk h = tell_none
      one (def_item p f) mk h = def_tells [] f mk.params h.params

  -- constants and classes
  class_tells : (all : List Tree) (b : BeforeItem) (p : _) (c : ClassDef) (labels : ItemLabels (class_item p c))
      → slice_get (classes_in m.items) b.classes ≡ Some c → LawfulItem m all b (class_item p c) labels
      → Tells code (class_notes m b.classes c) (coded_in_members code c.members labels)
  class_tells all b p c labels is l =
      let same : base_at m b.classes ≡ base_class m b.classes c = ap (base_facts (classes_of m))
      (base_here m b.classes c is) in
      subst (λ (x : ClassFacts). Tells code (members_findings m x no_name c.members)
      (coded_in_members code c.members labels))
      (sym same) (members_tell all (base_class m b.classes c) b.classes 0 [] c.members labels l)

  items_tell : (all : List Tree) (b : BeforeItem) → AreWellFormed bases b.constants → (items : List Item)
      → ClassesFrom m b.classes (classes_in items) → (labels : ModuleItemsLabels items)
      → LawfulModuleItems m all b items labels → Tells code (items_findings m keeps (reached_at b) items)
      (flows_in_each (coded_in_item code) items labels)
  items_tell all b kb [] from labels l = tell_none
  items_tell all b kb (constant_item p c ∷ rest) from labels l =
      let mk = labels.first in
      let t = constant_type m c.annotation (type_of c.value mk.value) in
      let next = before_next m b (constant_item p c) mk in
      let others = flows_in_each (coded_in_item code) rest labels.rest in
      let here : behind m (reached_at b) (constant_item p c) ≡ reached_at next =
      ap (λ x. record {
        constants = b.constants ++ x ∷ [];
        classes = b.classes;
        bound = λ w. is_one_of w next.names;
      }) (constant_is m b kb p c mk all l.0) in
      let found = constant_findings m keeps (reached_at b) c in
      let named_type = type_of_constant m (reached_at b) c in
      let ds = coded_in_item code (constant_item p c) mk in
      tell_then (name_after keeps found c.name.place named_type None)
      (items_findings m keeps (behind m (reached_at b) (constant_item p c)) rest) ds others
      (named_tells found c.name.place named_type None ds (constant_tells b kb p c mk all l.0))
      (subst (λ (x : ItemsReached). Tells code (items_findings m keeps x rest) others) (sym here)
      (items_tell all next (one_more m b.constants t kb (type_well_formed m b kb p c mk all l.0)) rest from
      labels.rest l.1))
  items_tell all b kb (class_item p c ∷ rest) from labels l =
      let next = before_next m b (class_item p c) labels.first in
      tell_then (class_notes m b.classes c) (items_findings m keeps (reached_at next) rest)
      (coded_in_members code c.members labels.first) (flows_in_each (coded_in_item code) rest labels.rest)
      (class_tells all b p c labels.first (ap (slice_get (classes_in m.items)) (omega arith) ∙ from 0) l.0)
      (items_tell all next kb rest (λ i. ap (slice_get (classes_in m.items)) (omega arith) ∙ from (suc i)) labels.rest
      l.1)
  items_tell all b kb (def_item p f ∷ rest) from labels l = items_tell all (before_next m b (def_item p f) labels.first)
      kb rest from labels.rest l.1

  -- ---- bodies

  end_tells : (t : Tree) (p : Place) (out : Option Env) → Tells code (end_finds bases t p out) []
  end_tells t p None = tell_none
  end_tells t p (Some env) = in_both (λ (xs : List Note). Tells code xs []) (static_test bases NoneType t) []
      (plain_note (finding p E21) ∷ []) tell_none (tell_plain (finding p E21 ∷ []))

  module _ (all : List Tree) (ka : AreWellFormed bases all) where
    function_tells : (owner : Owner) (f : FuncDef) (labels : FunctionLabels f) → LawfulFunction m all owner f labels
        → (found : List Note) → Grows code found (function_finds keeps m all owner f found)
        (coded_in_suite code f.body labels.body)
    function_tells owner f labels l found =
        let names = locals owner f in
        let around : Surroundings = record {
          whole = m;
          context = body_context m all names;
          context_well_formed =
              bodies_well_formed m all names ka;
          count = length names;
          locals = names_are m all names;
        } in
        let ds = labels.declared in
        let none = none_assigned (length names) in
        let entries = entry_parameters m owner f in
        let start = enter_parameters around.context.resolve none none entries in
        let env = entry_env around.context.resolve [] entries none in
        let e = all_entered around ds [] none none (none_fits around ds) (none_assigned_fits around ds l.each_local)
        entries (entries_well_formed m owner f) l.entry in
        let w : Walk = record { table = start.0; env = Some start.1; exit_env = None; found = found } in
        let body = walk_suite (standing m around.context (return_type m f) keeps) w f.body in
        let at_end = end_finds bases (return_type m f) f.name.place body.env in
        let told = suite_tells code own keeps around (return_type m f) (returned_well_formed m f) ds
        (names_entered [] entries) f.body
        w env (ap Some e.env_is) e.fits e.env_fits tt labels.body labels.out l.body in
        subst (λ flows. Grows code found (body.found ++ at_end) flows)
        (append-nil (coded_in_suite code f.body labels.body))
        (grow_then code found body.found (body.found ++ at_end) (coded_in_suite code f.body labels.body) [] told
        (grow code body.found at_end [] (end_tells (return_type m f) f.name.place body.env)))

    methods_tell : (base : ClassFacts) (c number : ℕ) (before : List (List ℕ)) (ms : List Member)
        (labels : MembersLabels ms) → LawfulMembers m all base c number before ms labels → (found : List Note)
        → Grows code found (methods_find keeps m all c number ms found) (coded_in_methods code ms labels)
    methods_tell base c number before [] labels l found = grow_none code found
    methods_tell base c number before (field_member d ∷ rest) labels l found =
        methods_tell base c number (d.name.text ∷ before) rest labels.rest l.others found
    methods_tell base c number before (method_member f ∷ rest) labels l found =
        let one = function_finds keeps m all (owners.Method c number) f found in
        grow_then code found one (methods_find keeps m all c (suc number) rest one)
        (coded_in_suite code f.body labels.method.body)
        (coded_in_methods code rest labels.rest)
        (function_tells (owners.Method c number) f labels.method l.method found)
        (methods_tell base c (suc number) (f.name.text ∷ before) rest labels.rest l.others one)

    bodies_tell : (b : BeforeItem) (items : List Item) (labels : ModuleItemsLabels items)
        → LawfulModuleItems m all b items labels → (found : List Note)
        → Grows code found (bodies_find keeps m all b.classes b.functions items found)
        (flows_in_each (coded_in_body code) items labels)
    bodies_tell b [] labels l found = grow_none code found
    bodies_tell b (constant_item p c ∷ rest) labels l found = bodies_tell
        (before_next m b (constant_item p c) labels.first) rest labels.rest l.1 found
    bodies_tell b (class_item p c ∷ rest) labels l found =
        let one = methods_find keeps m all b.classes 0 c.members found in
        grow_then code found one (bodies_find keeps m all (suc b.classes) b.functions rest one)
        (coded_in_methods code c.members labels.first) (flows_in_each (coded_in_body code) rest labels.rest)
        (methods_tell (base_class m b.classes c) b.classes 0 [] c.members labels.first l.0 found)
        (bodies_tell (before_next m b (class_item p c) labels.first) rest labels.rest l.1 one)
    bodies_tell b (def_item p f ∷ rest) labels l found =
        let one = function_finds keeps m all (owners.Func b.functions) f found in
        grow_then code found one (bodies_find keeps m all b.classes (suc b.functions) rest one)
        (coded_in_suite code f.body labels.first.body) (flows_in_each (coded_in_body code) rest labels.rest)
        (function_tells (owners.Func b.functions) f labels.first l.0 found)
        (bodies_tell (before_next m b (def_item p f) labels.first) rest labels.rest l.1 one)

-- the notes of a module tell of exactly the flows with the code under its lawful labelling
pub module_tells : (code : Code) → is_of_scopes code ≡ false → (keeps : Test) (m : Module) (labels : Labelling m)
    → IsLawful m labels → Tells code (module_notes keeps m []) (coded_flows code m labels)
unfolding module_notes signatures_find
module_tells code own keeps m labels l =
    let all = constant_types m m.items labels in
    let same : constants_of m ≡ all = constants_have_types m labels l in
    let ka : AreWellFormed (bases_of m) all = subst (AreWellFormed (bases_of m)) same (constants_well_formed m) in
    let first = functions_findings m m.items ++ items_findings m keeps nothing_reached m.items in
    let ds = flows_in_each (coded_in_function code) m.items labels ++ flows_in_each (coded_in_item code) m.items
    labels in
    let es = flows_in_each (coded_in_body code) m.items labels in
    let signed : Tells code first ds = tell_then (functions_findings m m.items)
    (items_findings m keeps nothing_reached m.items)
    (flows_in_each (coded_in_function code) m.items labels) (flows_in_each (coded_in_item code) m.items labels)
    (functions_tell code own keeps m all nothing_before m.items labels l)
    (items_tell code own keeps m all nothing_before tt m.items (λ i. ap (slice_get (classes_in m.items)) (omega arith))
    labels
    l) in
    subst (λ ts. Tells code (bodies_find keeps m ts 0 0 m.items first) (ds ++ es)) (sym same)
    (tell_grown code first (bodies_find keeps m all 0 0 m.items first) ds es signed
    (bodies_tell code own keeps m all ka nothing_before m.items labels l first))
