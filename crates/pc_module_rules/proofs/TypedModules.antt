-- The types that a walk over a module notes, if types are kept, are those under its lawful labelling.
use Rattle.std.proofs.Common.{◌≡◌, ℕ, suc, List, [], ◌∷◌, ◌++◌, length, refl, sym, ap, ◌∙◌, subst, append-nil}
use Rattle.std.specs.Prelude.{Bool as Test, true, false, Option, Some, None, map, codes}
use Rattle.pc_tree.specs.declared.code.Code.TheVariants.{E21}
use Rattle.pc_tree.specs.Code.{finding}
use Rattle.pc_tree.specs.Depth.{place_of}
use Rattle.pc_tree.specs.Tree.{Literal, Param, FuncDef, Member, field_member, method_member, Constant, Item}
use Rattle.pc_tree.specs.Tree.{constant_item, class_item, def_item, Module}
use Rattle.pc_tree.specs.Stopping.{name_of_member}
use Rattle.pc_source.specs.declared.place.Place.{Place}
use Rattle.pc_scope.specs.Resolution.{is_one_of, locals}
use Rattle.pc_scope.specs.declared.resolution.Owner.{Owner}
use Rattle.pc_scope.specs.declared.resolution.Owner.TheVariants as owners
use Rattle.pc_types.specs.Tree.{Tree, NoneType}
use Rattle.pc_types.specs.Below.{Bases}
use Rattle.pc_types.specs.Computed.{static_test}
use Rattle.pc_annotations.specs.Annotations.{read_ann, read_option}
use Rattle.pc_annotations.specs.Listed.{option_findings}
use Rattle.pc_class.specs.Bases.{bases_of}
use Rattle.pc_class.specs.Facts.{ClassFacts, return_type}
use Rattle.pc_class.specs.Findings.{base_class}
use Rattle.pc_class.proofs.WellFormed.{returned_well_formed}
use Rattle.pc_flow.specs.Environment.{Env, none_assigned}
use Rattle.pc_flow.specs.WellFormed.{AreWellFormed}
use Rattle.pc_notes.specs.Notes.{Note, plain_note, named}
use Rattle.pc_rules.specs.Operations.{clean}
use Rattle.pc_rules.specs.Labels.{type_of}
use Rattle.pc_rules.specs.Computed.Expressions.{flows_of}
use Rattle.pc_rules.specs.Computed.Findings.{flows_at}
use Rattle.pc_rules.specs.Signatures.{body_context, literal_type, literal_place, binds_name}
use Rattle.pc_rules.specs.Signatures.{constant_type, annotated_types, first_of_types}
use Rattle.pc_rules.specs.Computed.Signatures.{constants_of, signatures_find, no_name, with_name, ItemsReached}
use Rattle.pc_rules.specs.Computed.Signatures.{nothing_reached, default_findings, params_findings, def_findings}
use Rattle.pc_rules.specs.Computed.Signatures.{function_findings, functions_findings, members_findings, member_findings}
use Rattle.pc_rules.specs.Computed.Signatures.{binds_text, binds_as_field, binds_as_method, base_at}
use Rattle.pc_rules.specs.Computed.Signatures.{params_defaults, param_default, method_findings, initial}
use Rattle.pc_rules.specs.Computed.Signatures.{type_of_constant, value_findings, constant_findings, class_notes, behind}
use Rattle.pc_rules.specs.Computed.Signatures.{items_findings}
use Rattle.pc_rules.specs.Computed.Standing.{label_in, finds_in}
use Rattle.pc_rules.proofs.Contexts.{bodies_well_formed}
use Rattle.pc_module_rules.specs.Modules.{entry_parameters, names_entered, entry_env, FunctionLabels, LawfulFunction}
use Rattle.pc_module_rules.specs.Modules.{MembersLabels, LawfulMembers, ItemLabels, ModuleItemsLabels, constant_types}
use Rattle.pc_module_rules.specs.Modules.{BeforeItem, nothing_before, before_next, LawfulItem, LawfulModuleItems}
use Rattle.pc_module_rules.specs.Modules.{Labelling, IsLawful}
use Rattle.pc_module_rules.specs.Laws.Labellings.{Surroundings}
use Rattle.pc_module_rules.specs.Computed.Statements.{Walk, walk_suite, enter_parameters, end_finds, function_finds}
use Rattle.pc_module_rules.specs.Computed.Modules.{methods_find, bodies_find, module_notes}
use Rattle.pc_module_rules.proofs.EnteredTables.{all_entered, none_fits, none_assigned_fits}
use Rattle.pc_module_rules.proofs.LabelledFunctions.{entries_well_formed}
use Rattle.pc_module_rules.proofs.LabelledModule.{one_more}
use Rattle.pc_module_rules.proofs.LocalNames.{names_are}
use Rattle.pc_module_rules.proofs.PlainCodes.{in_both}
use Rattle.pc_module_rules.proofs.WalkedItems.{reached_at}
use Rattle.pc_module_rules.proofs.WalkedModule.{constants_have_types, constants_well_formed}
use Rattle.pc_module_rules.specs.TypesOfExpressions.{TypeAt, types_in}
use Rattle.pc_module_rules.specs.TypesOfStatements.{types_in_suite}
use Rattle.pc_module_rules.specs.TypesOfModules.{types_in_item, types_in_methods, types_in_body, types_in_each}
use Rattle.pc_module_rules.specs.TypesOfModules.{labelled_types}
use Rattle.pc_module_rules.specs.Laws.Types.{TypesAreNoted, FirstTypesAreNoted}
use Rattle.pc_module_rules.proofs.KeptWalks.{standing}
use Rattle.pc_module_rules.proofs.NotedTypes.{Shows, show_nothing, show_both, show_behind, show_after, show_plain}
use Rattle.pc_module_rules.proofs.NotedTypes.{show_flows, show_expression, show_more, ShowsMore, more_none, more}
use Rattle.pc_module_rules.proofs.NotedTypes.{more_then, shown_types, first_shown}
use Rattle.pc_module_rules.proofs.RangeNames.{range_named}
use Rattle.pc_module_rules.proofs.ReadConstants.{found_is, type_well_formed, constant_is}
use Rattle.pc_module_rules.proofs.TypedStatements.{suite_shows}

module _ (every : Test) (m : Module) where
  abbrev bases : Bases
  bases = bases_of m

  -- ---- signatures show none

  shows_none : (xs ys : List Note) → Shows every xs [] → Shows every ys [] → Shows every (xs ++ ys) []
  shows_none xs ys h k = show_both xs ys [] [] h k

  default_shows : (binds : Test) (l : Option Literal) (t : Tree) → Shows every (default_findings bases binds l t) []
  default_shows binds None t = show_nothing
  default_shows false (Some l) t = show_nothing
  default_shows true (Some l) t = show_flows (literal_place l) (flows_of bases (clean (literal_type l)) (t ∷ []))

  param_shows : (bound : List ℕ → Test) (p : Param) → Shows every (param_default m bound p) []
  param_shows bound p = default_shows (binds_text bound p.name.text) p.default (read_option m bases p.annotation)

  params_show : (bound : List ℕ → Test) (ps : List Param) → Shows every (params_findings m bound ps) []
  params_show bound [] = show_nothing
  params_show bound (p ∷ ps) =
      let notes = map plain_note (option_findings m bases p.annotation) in
      shows_none (notes ++ param_default m bound p) (params_findings m (with_name bound p.name.text) ps)
      (shows_none notes (param_default m bound p) (show_plain (option_findings m bases p.annotation))
      (param_shows bound p)) (params_show (with_name bound p.name.text) ps)

  def_shows : (bound : List ℕ → Test) (f : FuncDef) → Shows every (def_findings m bound f) []
  def_shows bound f = shows_none (params_findings m bound f.params) (map plain_note (option_findings m bases f.returns))
      (params_show bound f.params) (show_plain (option_findings m bases f.returns))

  functions_show : (items : List Item) → Shows every (functions_findings m items) []
  functions_show [] = show_nothing
  functions_show (i ∷ rest) = shows_none (function_findings m i) (functions_findings m rest) (one i)
      (functions_show rest)
    where
      one : (i : Item) → Shows every (function_findings m i) []
      one (constant_item p c) = show_nothing
      one (class_item p c) = show_nothing
      one (def_item p f) = def_shows no_name f

  defaults_show : (bound : List ℕ → Test) (ps : List Param) → Shows every (params_defaults m bound ps) []
  defaults_show bound [] = show_nothing
  defaults_show bound (p ∷ ps) = shows_none (param_default m bound p)
      (params_defaults m (with_name bound p.name.text) ps) (param_shows bound p)
      (defaults_show (with_name bound p.name.text) ps)

  method_shows : (binds : Test) (d : FuncDef) → Shows every (method_findings m binds d) []
  method_shows true d = defaults_show (with_name no_name (codes "self")) d.params
  method_shows false d = def_shows (with_name no_name (codes "self")) d

  members_show : (base : ClassFacts) (bound : List ℕ → Test) (ms : List Member)
      → Shows every (members_findings m base bound ms) []
  members_show base bound [] = show_nothing
  members_show base bound (x ∷ rest) = shows_none (member_findings m base bound x)
      (members_findings m base (with_name bound (name_of_member x).text) rest) (one x)
      (members_show base (with_name bound (name_of_member x).text) rest)
    where
      one : (x : Member) → Shows every (member_findings m base bound x) []
      one (field_member d) = default_shows (binds_as_field base bound d.name.text) d.default
          (read_ann m bases d.annotation)
      one (method_member d) = method_shows (binds_as_method base bound d.name.text) d

  -- ---- constants

  constant_shows : (b : BeforeItem) (kb : AreWellFormed bases b.constants) (p : Place) (c : Constant)
      (labels : ItemLabels (constant_item p c)) (all : List Tree) → LawfulItem m all b (constant_item p c) labels
      → Shows every (constant_findings m true (reached_at b) c) (types_in every c.value labels.value)
  constant_shows b kb p c labels all l =
      let into = annotated_types m (binds_name b.names c.name) c.annotation in
      let notes = map plain_note (option_findings m bases c.annotation) in
      let value = finds_in (initial m true b.constants b.classes) (first_of_types into) c.value in
      let flows = flows_of bases (label_in (initial m false b.constants b.classes) (first_of_types into) c.value)
      into in
      show_after notes (value_findings m true (reached_at b) into c.value) (types_in every c.value labels.value)
      (show_plain (option_findings m bases c.annotation))
      (show_behind value (flows_at (place_of c.value) flows) (types_in every c.value labels.value)
      (subst (λ (xs : List Note). Shows every xs (types_in every c.value labels.value))
      (sym (found_is m b kb p c labels all l true)) (show_expression c.value labels.value))
      (show_flows (place_of c.value) flows))

  items_show : (all : List Tree) (b : BeforeItem) → AreWellFormed bases b.constants → (items : List Item)
      → (labels : ModuleItemsLabels items) → LawfulModuleItems m all b items labels
      → Shows every (items_findings m true (reached_at b) items) (types_in_each (types_in_item every) items labels)
  items_show all b kb [] labels l = show_nothing
  items_show all b kb (constant_item p c ∷ rest) labels l =
      let mk = labels.first in
      let t = constant_type m c.annotation (type_of c.value mk.value) in
      let next = before_next m b (constant_item p c) mk in
      let others = types_in_each (types_in_item every) rest labels.rest in
      let here : behind m (reached_at b) (constant_item p c) ≡ reached_at next =
      ap (λ x. record {
        constants = b.constants ++ x ∷ [];
        classes = b.classes;
        bound = λ w. is_one_of w next.names;
      }) (constant_is m b kb p c mk all l.0) in
      show_both (constant_findings m true (reached_at b) c
      ++ named c.name.place (type_of_constant m (reached_at b) c) None ∷ [])
      (items_findings m true (behind m (reached_at b) (constant_item p c)) rest) (types_in every c.value mk.value)
      others
      (show_behind (constant_findings m true (reached_at b) c)
      (named c.name.place (type_of_constant m (reached_at b) c) None ∷ []) (types_in every c.value mk.value)
      (constant_shows b kb p c mk all l.0) (record { are = refl }))
      (subst (λ (x : ItemsReached). Shows every (items_findings m true x rest) others) (sym here)
      (items_show all next (one_more m b.constants t kb (type_well_formed m b kb p c mk all l.0)) rest labels.rest l.1))
  items_show all b kb (class_item p c ∷ rest) labels l =
      let next = before_next m b (class_item p c) labels.first in
      show_after (class_notes m b.classes c) (items_findings m true (reached_at next) rest)
      (types_in_each (types_in_item every) rest labels.rest) (members_show (base_at m b.classes) no_name c.members)
      (items_show all next kb rest labels.rest l.1)
  items_show all b kb (def_item p f ∷ rest) labels l = items_show all (before_next m b (def_item p f) labels.first) kb
      rest labels.rest l.1

  -- ---- bodies

  end_shows : (t : Tree) (p : Place) (out : Option Env) → Shows every (end_finds bases t p out) []
  end_shows t p None = show_nothing
  end_shows t p (Some env) = in_both (λ (xs : List Note). Shows every xs []) (static_test bases NoneType t) []
      (plain_note (finding p E21) ∷ []) show_nothing (show_plain (finding p E21 ∷ []))

  module _ (all : List Tree) (ka : AreWellFormed bases all) where
    function_shows : (owner : Owner) (f : FuncDef) (labels : FunctionLabels f) → LawfulFunction m all owner f labels
        → (found : List Note) → ShowsMore every found (function_finds true m all owner f found)
        (types_in_suite every f.body labels.body)
    function_shows owner f labels l found =
        let names = locals owner f in
        let around : Surroundings = record {
          whole = m;
          context = body_context m all names;
          context_well_formed = bodies_well_formed m all names ka;
          count = length names;
          locals = names_are m all names;
        } in
        let ds = labels.declared in
        let none = none_assigned (length names) in
        let entries = entry_parameters m owner f in
        let start = enter_parameters around.context.resolve none none entries in
        let env = entry_env around.context.resolve [] entries none in
        let e = all_entered around ds [] none none (none_fits around ds) (none_assigned_fits around ds l.each_local)
        entries (entries_well_formed m owner f) l.entry in
        let w : Walk = record { table = start.0; env = Some start.1; exit_env = None; found = found } in
        let body = walk_suite (standing m around.context (return_type m f) true) w f.body in
        let at_end = end_finds bases (return_type m f) f.name.place body.env in
        let shown = suite_shows every around (λ n. range_named m owner f n.text) (return_type m f)
        (returned_well_formed m f) ds (names_entered [] entries) f.body w env (ap Some e.env_is) e.fits e.env_fits tt
        labels.body labels.out l.body in
        subst (λ (rows : List TypeAt). ShowsMore every found (body.found ++ at_end) rows)
        (append-nil (types_in_suite every f.body labels.body))
        (more_then found body.found (body.found ++ at_end) (types_in_suite every f.body labels.body) [] shown
        (more body.found at_end [] (end_shows (return_type m f) f.name.place body.env)))

    methods_show : (base : ClassFacts) (c number : ℕ) (before : List (List ℕ)) (ms : List Member)
        (labels : MembersLabels ms) → LawfulMembers m all base c number before ms labels → (found : List Note)
        → ShowsMore every found (methods_find true m all c number ms found) (types_in_methods every ms labels)
    methods_show base c number before [] labels l found = more_none found
    methods_show base c number before (field_member d ∷ rest) labels l found =
        methods_show base c number (d.name.text ∷ before) rest labels.rest l.others found
    methods_show base c number before (method_member f ∷ rest) labels l found =
        let one = function_finds true m all (owners.Method c number) f found in
        more_then found one (methods_find true m all c (suc number) rest one)
        (types_in_suite every f.body labels.method.body) (types_in_methods every rest labels.rest)
        (function_shows (owners.Method c number) f labels.method l.method found)
        (methods_show base c (suc number) (f.name.text ∷ before) rest labels.rest l.others one)

    bodies_show : (b : BeforeItem) (items : List Item) (labels : ModuleItemsLabels items)
        → LawfulModuleItems m all b items labels → (found : List Note)
        → ShowsMore every found (bodies_find true m all b.classes b.functions items found)
        (types_in_each (types_in_body every) items labels)
    bodies_show b [] labels l found = more_none found
    bodies_show b (constant_item p c ∷ rest) labels l found =
        bodies_show (before_next m b (constant_item p c) labels.first) rest labels.rest l.1 found
    bodies_show b (class_item p c ∷ rest) labels l found =
        let one = methods_find true m all b.classes 0 c.members found in
        more_then found one (bodies_find true m all (suc b.classes) b.functions rest one)
        (types_in_methods every c.members labels.first) (types_in_each (types_in_body every) rest labels.rest)
        (methods_show (base_class m b.classes c) b.classes 0 [] c.members labels.first l.0 found)
        (bodies_show (before_next m b (class_item p c) labels.first) rest labels.rest l.1 one)
    bodies_show b (def_item p f ∷ rest) labels l found =
        let one = function_finds true m all (owners.Func b.functions) f found in
        more_then found one (bodies_find true m all b.classes (suc b.functions) rest one)
        (types_in_suite every f.body labels.first.body) (types_in_each (types_in_body every) rest labels.rest)
        (function_shows (owners.Func b.functions) f labels.first l.0 found)
        (bodies_show (before_next m b (def_item p f) labels.first) rest labels.rest l.1 one)

module_shows : (every : Test) (m : Module) (labels : Labelling m) → IsLawful m labels
    → Shows every (module_notes true m []) (labelled_types every m labels)
unfolding module_notes signatures_find
module_shows every m labels l =
    let all = constant_types m m.items labels in
    let same : constants_of m ≡ all = constants_have_types m labels l in
    let ka : AreWellFormed (bases_of m) all = subst (AreWellFormed (bases_of m)) same (constants_well_formed m) in
    let first = functions_findings m m.items ++ items_findings m true nothing_reached m.items in
    let rows = types_in_each (types_in_item every) m.items labels in
    let others = types_in_each (types_in_body every) m.items labels in
    let signed : Shows every first rows = show_after (functions_findings m m.items)
    (items_findings m true nothing_reached m.items) rows (functions_show every m m.items)
    (items_show every m all nothing_before tt m.items labels l) in
    subst (λ (ts : List Tree). Shows every (bodies_find true m ts 0 0 m.items first) (rows ++ others)) (sym same)
    (show_more first (bodies_find true m all 0 0 m.items first) rows others signed
    (bodies_show every m all ka nothing_before m.items labels l first))

-- the types that are shown of a module are those under its lawful labelling
pub types_noted : TypesAreNoted
types_noted m labels l = sym (shown_types (module_notes true m [])) ∙ (module_shows false m labels l).are

-- the first type noted at a place is the first there of all types under the lawful labelling
pub first_types_noted : FirstTypesAreNoted
first_types_noted m labels l p = first_shown p (module_notes true m []) (labelled_types true m labels)
    (module_shows true m labels l)
