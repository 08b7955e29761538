-- The bound names that a walk over a module notes, if types are kept, are those bound under its lawful labelling.
use Rattle.std.proofs.Common.{◌≡◌, ℕ, suc, List, [], ◌∷◌, ◌++◌, length, refl, sym, ap, subst, append-nil}
use Rattle.std.specs.Prelude.{Bool as Test, true, false, Option, Some, None, map, codes}
use Rattle.pc_source.specs.declared.place.Place.{Place}
use Rattle.pc_tree.specs.declared.code.Code.TheVariants.{E21}
use Rattle.pc_tree.specs.Code.{finding}
use Rattle.pc_tree.specs.Depth.{place_of}
use Rattle.pc_tree.specs.Tree.{Literal, Expr, Param, FuncDef, Member, field_member, method_member, Constant, Item}
use Rattle.pc_tree.specs.Tree.{constant_item, class_item, def_item, Module}
use Rattle.pc_tree.specs.Stopping.{name_of_member}
use Rattle.pc_scope.specs.Resolution.{is_one_of, locals}
use Rattle.pc_scope.specs.declared.resolution.Owner.{Owner}
use Rattle.pc_scope.specs.declared.resolution.Owner.TheVariants as owners
use Rattle.pc_types.specs.Tree.{Tree, NoneType}
use Rattle.pc_types.specs.Below.{Bases}
use Rattle.pc_types.specs.Computed.{static_test}
use Rattle.pc_annotations.specs.Annotations.{read_ann, read_option}
use Rattle.pc_annotations.specs.Listed.{option_findings}
use Rattle.pc_class.specs.Bases.{bases_of}
use Rattle.pc_class.specs.Facts.{ClassFacts, return_type}
use Rattle.pc_class.specs.Findings.{base_class}
use Rattle.pc_class.proofs.WellFormed.{returned_well_formed}
use Rattle.pc_flow.specs.Environment.{Env, none_assigned}
use Rattle.pc_flow.specs.WellFormed.{AreWellFormed}
use Rattle.pc_notes.specs.Notes.{Note, plain_note, named}
use Rattle.pc_rules.specs.Operations.{clean}
use Rattle.pc_rules.specs.Labels.{type_of}
use Rattle.pc_rules.specs.Computed.Expressions.{flows_of}
use Rattle.pc_rules.specs.Computed.Findings.{flows_at}
use Rattle.pc_rules.specs.Signatures.{body_context, literal_type, literal_place, constant_type, first_of_types}
use Rattle.pc_rules.specs.Computed.Signatures.{constants_of, signatures_find, no_name, with_name, ItemsReached}
use Rattle.pc_rules.specs.Computed.Signatures.{nothing_reached, default_findings, params_findings, def_findings}
use Rattle.pc_rules.specs.Computed.Signatures.{function_findings, functions_findings, members_findings, member_findings}
use Rattle.pc_rules.specs.Computed.Signatures.{binds_text, binds_as_field, binds_as_method, base_at}
use Rattle.pc_rules.specs.Computed.Signatures.{params_defaults, param_default, method_findings, initial}
use Rattle.pc_rules.specs.Computed.Signatures.{initializer_types, type_of_constant, value_findings, constant_findings}
use Rattle.pc_rules.specs.Computed.Signatures.{class_notes, behind, items_findings}
use Rattle.pc_rules.specs.Computed.Standing.{label_in, finds_in}
use Rattle.pc_rules.proofs.Contexts.{bodies_well_formed}
use Rattle.pc_module_rules.specs.Modules.{entry_parameters, names_entered, entry_env, FunctionLabels, LawfulFunction}
use Rattle.pc_module_rules.specs.Modules.{MembersLabels, LawfulMembers, ModuleItemsLabels, constant_types}
use Rattle.pc_module_rules.specs.Modules.{BeforeItem, nothing_before, before_next, LawfulModuleItems, Labelling}
use Rattle.pc_module_rules.specs.Modules.{IsLawful}
use Rattle.pc_module_rules.specs.NamesOfStatements.{NameAt, names_in_suite}
use Rattle.pc_module_rules.specs.NamesOfModules.{names_in_item, names_of_constants, names_in_body, names_in_methods}
use Rattle.pc_module_rules.specs.NamesOfModules.{names_in_bodies}
use Rattle.pc_module_rules.specs.Laws.Labellings.{Surroundings}
use Rattle.pc_module_rules.specs.Laws.Names.{names_by_labels, NamesAreNoted}
use Rattle.pc_module_rules.specs.Computed.Statements.{Walk, walk_suite, enter_parameters, end_finds, function_finds}
use Rattle.pc_module_rules.specs.Computed.Modules.{methods_find, bodies_find, module_notes}
use Rattle.pc_module_rules.proofs.EnteredTables.{all_entered, none_fits, none_assigned_fits}
use Rattle.pc_module_rules.proofs.LabelledFunctions.{entries_well_formed}
use Rattle.pc_module_rules.proofs.LabelledModule.{one_more}
use Rattle.pc_module_rules.proofs.LocalNames.{names_are}
use Rattle.pc_module_rules.proofs.PlainCodes.{in_both}
use Rattle.pc_module_rules.proofs.WalkedItems.{reached_at}
use Rattle.pc_module_rules.proofs.WalkedModule.{constants_have_types, constants_well_formed}
use Rattle.pc_module_rules.proofs.KeptWalks.{standing}
use Rattle.pc_module_rules.proofs.NamelessNotes.{AreNameless, no_notes, nameless_both, plain_nameless, flows_nameless}
use Rattle.pc_module_rules.proofs.NamelessNotes.{read_nameless}
use Rattle.pc_module_rules.proofs.NamedNotes.{Names, name_both, name_after_none, name_more, NamesMore, more_none}
use Rattle.pc_module_rules.proofs.NamedNotes.{more_nameless, more_then}
use Rattle.pc_module_rules.proofs.NamedStatements.{suite_names}
use Rattle.pc_module_rules.proofs.ReadConstants.{constant_is, type_well_formed}

module _ (m : Module) where
  abbrev bases : Bases
  bases = bases_of m

  -- ---- signatures name nothing

  default_nameless : (binds : Test) (l : Option Literal) (t : Tree) → AreNameless (default_findings bases binds l t)
  default_nameless binds None t = no_notes
  default_nameless false (Some l) t = no_notes
  default_nameless true (Some l) t = flows_nameless (literal_place l)
      (flows_of bases (clean (literal_type l)) (t ∷ []))

  param_nameless : (bound : List ℕ → Test) (p : Param) → AreNameless (param_default m bound p)
  param_nameless bound p = default_nameless (binds_text bound p.name.text) p.default (read_option m bases p.annotation)

  params_nameless : (bound : List ℕ → Test) (ps : List Param) → AreNameless (params_findings m bound ps)
  params_nameless bound [] = no_notes
  params_nameless bound (p ∷ ps) =
      let notes = map plain_note (option_findings m bases p.annotation) in
      nameless_both (notes ++ param_default m bound p) (params_findings m (with_name bound p.name.text) ps)
      (nameless_both notes (param_default m bound p) (plain_nameless (option_findings m bases p.annotation))
      (param_nameless bound p)) (params_nameless (with_name bound p.name.text) ps)

  def_nameless : (bound : List ℕ → Test) (f : FuncDef) → AreNameless (def_findings m bound f)
  def_nameless bound f = nameless_both (params_findings m bound f.params)
      (map plain_note (option_findings m bases f.returns)) (params_nameless bound f.params)
      (plain_nameless (option_findings m bases f.returns))

  functions_nameless : (items : List Item) → AreNameless (functions_findings m items)
  functions_nameless [] = no_notes
  functions_nameless (i ∷ rest) = nameless_both (function_findings m i) (functions_findings m rest) (one i)
      (functions_nameless rest)
    where
      one : (i : Item) → AreNameless (function_findings m i)
      one (constant_item p c) = no_notes
      one (class_item p c) = no_notes
      one (def_item p f) = def_nameless no_name f

  defaults_nameless : (bound : List ℕ → Test) (ps : List Param) → AreNameless (params_defaults m bound ps)
  defaults_nameless bound [] = no_notes
  defaults_nameless bound (p ∷ ps) = nameless_both (param_default m bound p)
      (params_defaults m (with_name bound p.name.text) ps) (param_nameless bound p)
      (defaults_nameless (with_name bound p.name.text) ps)

  method_nameless : (binds : Test) (d : FuncDef) → AreNameless (method_findings m binds d)
  method_nameless true d = defaults_nameless (with_name no_name (codes "self")) d.params
  method_nameless false d = def_nameless (with_name no_name (codes "self")) d

  members_nameless : (base : ClassFacts) (bound : List ℕ → Test) (ms : List Member)
      → AreNameless (members_findings m base bound ms)
  members_nameless base bound [] = no_notes
  members_nameless base bound (x ∷ rest) = nameless_both (member_findings m base bound x)
      (members_findings m base (with_name bound (name_of_member x).text) rest) (one x)
      (members_nameless base (with_name bound (name_of_member x).text) rest)
    where
      one : (x : Member) → AreNameless (member_findings m base bound x)
      one (field_member d) = default_nameless (binds_as_field base bound d.name.text) d.default
          (read_ann m bases d.annotation)
      one (method_member d) = method_nameless (binds_as_method base bound d.name.text) d

  -- ---- constants

  value_nameless : (r : ItemsReached) (into : List Tree) (e : Expr) → AreNameless (value_findings m true r into e)
  value_nameless r into e =
      let k = initial m true r.constants r.classes in
      let flows = flows_of bases (label_in (initial m false r.constants r.classes) (first_of_types into) e) into in
      nameless_both (finds_in k (first_of_types into) e) (flows_at (place_of e) flows)
      (read_nameless k (first_of_types into) e) (flows_nameless (place_of e) flows)

  constant_nameless : (r : ItemsReached) (c : Constant) → AreNameless (constant_findings m true r c)
  constant_nameless r c =
      let into = initializer_types m r c in
      nameless_both (map plain_note (option_findings m bases c.annotation)) (value_findings m true r into c.value)
      (plain_nameless (option_findings m bases c.annotation)) (value_nameless r into c.value)

  items_name : (all : List Tree) (b : BeforeItem) → AreWellFormed bases b.constants → (items : List Item)
      → (labels : ModuleItemsLabels items) → LawfulModuleItems m all b items labels
      → Names (items_findings m true (reached_at b) items) (names_of_constants m items labels)
  items_name all b kb [] labels l = record { are = refl }
  items_name all b kb (constant_item p c ∷ rest) labels l =
      let mk = labels.first in
      let t = constant_type m c.annotation (type_of c.value mk.value) in
      let next = before_next m b (constant_item p c) mk in
      let others = names_of_constants m rest labels.rest in
      let row = names_in_item m (constant_item p c) mk in
      let type_is : type_of_constant m (reached_at b) c ≡ t = constant_is m b kb p c mk all l.0 in
      let here : behind m (reached_at b) (constant_item p c) ≡ reached_at next =
      ap (λ x. record {
        constants = b.constants ++ x ∷ [];
        classes = b.classes;
        bound = λ w. is_one_of w next.names;
      }) type_is in
      let notes : Tree → List Note = λ x. constant_findings m true (reached_at b) c ++ named c.name.place x None ∷ [] in
      let here_named : Names (notes t) row = name_after_none (constant_findings m true (reached_at b) c)
      (named c.name.place t None ∷ []) row (constant_nameless (reached_at b) c) (record { are = refl }) in
      name_both (notes (type_of_constant m (reached_at b) c))
      (items_findings m true (behind m (reached_at b) (constant_item p c)) rest) row others
      (subst (λ (x : Tree). Names (notes x) row) (sym type_is) here_named)
      (subst (λ (x : ItemsReached). Names (items_findings m true x rest) others) (sym here)
      (items_name all next (one_more m b.constants t kb (type_well_formed m b kb p c mk all l.0)) rest labels.rest l.1))
  items_name all b kb (class_item p c ∷ rest) labels l =
      let next = before_next m b (class_item p c) labels.first in
      name_after_none (class_notes m b.classes c) (items_findings m true (reached_at next) rest)
      (names_of_constants m rest labels.rest) (members_nameless (base_at m b.classes) no_name c.members)
      (items_name all next kb rest labels.rest l.1)
  items_name all b kb (def_item p f ∷ rest) labels l = items_name all (before_next m b (def_item p f) labels.first) kb
      rest labels.rest l.1

  -- ---- bodies

  end_nameless : (t : Tree) (p : Place) (out : Option Env) → AreNameless (end_finds bases t p out)
  end_nameless t p None = no_notes
  end_nameless t p (Some env) = in_both AreNameless (static_test bases NoneType t) []
      (plain_note (finding p E21) ∷ []) no_notes (plain_nameless (finding p E21 ∷ []))

  module _ (all : List Tree) (ka : AreWellFormed bases all) where
    function_names : (owner : Owner) (f : FuncDef) (labels : FunctionLabels f) → LawfulFunction m all owner f labels
        → (found : List Note) → NamesMore found (function_finds true m all owner f found)
        (names_in_body m owner f labels)
    function_names owner f labels l found =
        let names = locals owner f in
        let around : Surroundings = record {
          whole = m;
          context = body_context m all names;
          context_well_formed = bodies_well_formed m all names ka;
          count = length names;
          locals = names_are m all names;
        } in
        let ds = labels.declared in
        let none = none_assigned (length names) in
        let entries = entry_parameters m owner f in
        let start = enter_parameters around.context.resolve none none entries in
        let env = entry_env around.context.resolve [] entries none in
        let e = all_entered around ds [] none none (none_fits around ds) (none_assigned_fits around ds l.each_local)
        entries (entries_well_formed m owner f) l.entry in
        let w : Walk = record { table = start.0; env = Some start.1; exit_env = None; found = found } in
        let body = walk_suite (standing m around.context (return_type m f) true) w f.body in
        let at_end = end_finds bases (return_type m f) f.name.place body.env in
        let inside = names_in_suite around.context.resolve ds f.body labels.body in
        let named = suite_names around (return_type m f) (returned_well_formed m f) ds (names_entered [] entries)
        f.body w env (ap Some e.env_is) e.fits e.env_fits tt labels.body labels.out l.body in
        subst (λ (rows : List NameAt). NamesMore found (body.found ++ at_end) rows) (append-nil inside)
        (more_then found body.found (body.found ++ at_end) inside [] named
        (more_nameless body.found at_end (end_nameless (return_type m f) f.name.place body.env)))

    methods_name : (base : ClassFacts) (c number : ℕ) (before : List (List ℕ)) (ms : List Member)
        (labels : MembersLabels ms) → LawfulMembers m all base c number before ms labels → (found : List Note)
        → NamesMore found (methods_find true m all c number ms found) (names_in_methods m c number ms labels)
    methods_name base c number before [] labels l found = more_none found
    methods_name base c number before (field_member d ∷ rest) labels l found =
        methods_name base c number (d.name.text ∷ before) rest labels.rest l.others found
    methods_name base c number before (method_member f ∷ rest) labels l found =
        let one = function_finds true m all (owners.Method c number) f found in
        more_then found one (methods_find true m all c (suc number) rest one)
        (names_in_body m (owners.Method c number) f labels.method)
        (names_in_methods m c (suc number) rest labels.rest)
        (function_names (owners.Method c number) f labels.method l.method found)
        (methods_name base c (suc number) (f.name.text ∷ before) rest labels.rest l.others one)

    bodies_name : (b : BeforeItem) (items : List Item) (labels : ModuleItemsLabels items)
        → LawfulModuleItems m all b items labels → (found : List Note)
        → NamesMore found (bodies_find true m all b.classes b.functions items found)
        (names_in_bodies m b.classes b.functions items labels)
    bodies_name b [] labels l found = more_none found
    bodies_name b (constant_item p c ∷ rest) labels l found =
        bodies_name (before_next m b (constant_item p c) labels.first) rest labels.rest l.1 found
    bodies_name b (class_item p c ∷ rest) labels l found =
        let one = methods_find true m all b.classes 0 c.members found in
        more_then found one (bodies_find true m all (suc b.classes) b.functions rest one)
        (names_in_methods m b.classes 0 c.members labels.first)
        (names_in_bodies m (suc b.classes) b.functions rest labels.rest)
        (methods_name (base_class m b.classes c) b.classes 0 [] c.members labels.first l.0 found)
        (bodies_name (before_next m b (class_item p c) labels.first) rest labels.rest l.1 one)
    bodies_name b (def_item p f ∷ rest) labels l found =
        let one = function_finds true m all (owners.Func b.functions) f found in
        more_then found one (bodies_find true m all b.classes (suc b.functions) rest one)
        (names_in_body m (owners.Func b.functions) f labels.first)
        (names_in_bodies m b.classes (suc b.functions) rest labels.rest)
        (function_names (owners.Func b.functions) f labels.first l.0 found)
        (bodies_name (before_next m b (def_item p f) labels.first) rest labels.rest l.1 one)

module_names : (m : Module) (labels : Labelling m) → IsLawful m labels
    → Names (module_notes true m []) (names_by_labels m labels)
unfolding module_notes signatures_find
module_names m labels l =
    let all = constant_types m m.items labels in
    let same : constants_of m ≡ all = constants_have_types m labels l in
    let ka : AreWellFormed (bases_of m) all = subst (AreWellFormed (bases_of m)) same (constants_well_formed m) in
    let first = functions_findings m m.items ++ items_findings m true nothing_reached m.items in
    let rows = names_of_constants m m.items labels in
    let others = names_in_bodies m 0 0 m.items labels in
    let signed : Names first rows = name_after_none (functions_findings m m.items)
    (items_findings m true nothing_reached m.items) rows (functions_nameless m m.items)
    (items_name m all nothing_before tt m.items labels l) in
    subst (λ (ts : List Tree). Names (bodies_find true m ts 0 0 m.items first) (rows ++ others)) (sym same)
    (name_more first (bodies_find true m all 0 0 m.items first) rows others signed
    (bodies_name m all ka nothing_before m.items labels l first))

-- the bound names that are noted of a module are those under its lawful labelling
pub names_noted : NamesAreNoted
names_noted m labels l = (module_names m labels l).are
