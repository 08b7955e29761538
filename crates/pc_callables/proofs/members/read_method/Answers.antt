use Rattle.std.proofs.Common.{◌≡◌, ◌∙◌, ◌++◌, All, List, ℕ, Option, None, OnOk, sym, ap, subst}
use Rattle.std.specs.Prelude.{Bool as Test, if◌then◌else◌, codes, map, string_bytes}
use Rattle.std.specs.Option.{option_map}
use Rattle.pc_tree.specs.declared.tree.Param.{Param as RustParam}
use Rattle.pc_tree.specs.Tree.{func_of, param_of}
use Rattle.pc_scope.specs.Resolution.{is_one_of}
use Rattle.pc_annotations.specs.ModuleOutlines.{module_in}
use Rattle.pc_callables.proofs.HeldSignatures.{method_held}
use Rattle.pc_class.specs.Facts.{Method, ClassFacts, parameters_of, method_by_name, class_facts_at, base_facts}
use Rattle.pc_class.specs.Facts.{classes_of}
use Rattle.pc_class.specs.Tables.{HasParameter, parameters_with, method_lent, IsMethodIfAny}
use Rattle.pc_notes.specs.Notes.{Note, notes_of}
use Rattle.pc_rules.specs.Calls.{method_signature}
use Rattle.pc_rules.specs.Context.{Signature}
use Rattle.pc_rules.specs.Signatures.{signature_of}
use Rattle.pc_rules.specs.Computed.TypingStates.{AddsNotes}
use Rattle.pc_rules.specs.Computed.Signatures.{is_in_names, no_name, with_name, binds_as_method, method_findings}
use Rattle.pc_rules.specs.Computed.Signatures.{def_findings, params_defaults}
use Rattle.pc_callables.proofs.MembersHeld.{unbound, bound_as}
use Rattle.pc_callables.proofs.members.read_method.Goals as goal

-- the method that a name finds among classes, if it binds it
abbrev found_in : (c : ℕ) (base : Option ℕ) (bound : List ℕ → Test) → List ℕ → List ClassFacts → Option Method
found_in c base bound n cs =
    if binds_as_method (base_facts cs base) bound n then method_by_name (class_facts_at cs c).methods n else None

pub returns-in-None-clause-found : goal.returns-in-None-clause-found
returns-in-None-clause-found g c =
    let m = module_in c.args.globals.now.outline.now in
    let tree = g.S.TypeStore.tree in
    let d = func_of c.args.def.now in
    let bound = is_in_names c.args.bound.now in
    let binds = binds_as_method (base_facts (classes_of m) c.args.class.base) bound d.name.text in
    let text = c.as_str.ensures.value in
    let found = sym (ap (option_map (method_lent tree)) c.in-None.is) ∙ c.held_method.ensures.value tree
    ∙ (λ i. found_in c.args.class.number c.args.class.base bound (text i) (c.requires.globals.classes i)) in
    let free = unbound method_signature binds
    (method_by_name (class_facts_at (classes_of m) c.args.class.number).methods d.name.text) (signature_of m d) found
    c.requires.held in
    let named : is_in_names c.bind.new.bound ≡ with_name no_name (codes "self") = c.in_ok-bind.ensures
    ∙ ap (λ ks. with_name (λ t. is_one_of t (map string_bytes ks)) (codes "self")) c.with_hasher-names.ensures.empty in
    let same = ap (λ b. def_findings m b d) named ∙ ap (λ b. method_findings m b d) (sym free) in
    subst (λ (l : List Note). OnOk c.read_signature.result (AddsNotes c.args.state.now c.read_signature.new.state l))
    same c.read_signature.ensures.found

pub copy_signature-requires : goal.copy_signature-requires
copy_signature-requires g c =
    method_held (g.S.TypeStore.has c.args.state.now.store.now) c.args.globals.now.classes.now
    c.requires.globals.entries c.in-Some.held.now
    (subst (IsMethodIfAny c.args.globals.now.classes.now) c.in-Some.is c.held_method.ensures.listed)

pub find_defaults-requires-clause-given : goal.find_defaults-requires-clause-given
find_defaults-requires-clause-given g c =
    subst (All (HasParameter (g.S.TypeStore.has c.args.state.now.store.now))) (sym c.as_slice-typed.ensures)
    c.in_ok-signature-in-Some.ensures.given.params

pub find_defaults-requires-clause-same : goal.find_defaults-requires-clause-same
find_defaults-requires-clause-same g c =
    let m = module_in c.args.globals.now.outline.now in
    let tree = g.S.TypeStore.tree in
    let d = func_of c.args.def.now in
    let bound = is_in_names c.args.bound.now in
    let binds = binds_as_method (base_facts (classes_of m) c.args.class.base) bound d.name.text in
    let text = c.as_str.ensures.value in
    let held = c.in-Some.held in
    let found = sym (ap (option_map (method_lent tree)) c.in-Some.is) ∙ c.held_method.ensures.value tree
    ∙ (λ i. found_in c.args.class.number c.args.class.base bound (text i) (c.requires.globals.classes i)) in
    let is = bound_as method_signature binds
    (method_by_name (class_facts_at (classes_of m) c.args.class.number).methods d.name.text) (method_lent tree held)
    (signature_of m d) found c.requires.held in
    ap (parameters_with tree) c.as_slice-typed.ensures
    ∙ ap (λ (s : Signature). s.parameters) (c.in_ok-signature-in-Some.ensures.is ∙ is.1)
    ∙ ap (λ (ps : List RustParam). parameters_of m (map param_of ps)) (sym c.deref.ensures.value)

pub returns-clause-found : goal.returns-clause-found
returns-clause-found g c =
    let m = module_in c.args.globals.now.outline.now in
    let tree = g.S.TypeStore.tree in
    let d = func_of c.args.def.now in
    let bound = is_in_names c.args.bound.now in
    let binds = binds_as_method (base_facts (classes_of m) c.args.class.base) bound d.name.text in
    let text = c.as_str.ensures.value in
    let held = c.in-Some.held in
    let found = sym (ap (option_map (method_lent tree)) c.in-Some.is) ∙ c.held_method.ensures.value tree
    ∙ (λ i. found_in c.args.class.number c.args.class.base bound (text i) (c.requires.globals.classes i)) in
    let is = bound_as method_signature binds
    (method_by_name (class_facts_at (classes_of m) c.args.class.number).methods d.name.text) (method_lent tree held)
    (signature_of m d) found c.requires.held in
    let named : is_in_names c.bind.new.bound ≡ with_name no_name (codes "self") = c.in_ok-bind.ensures
    ∙ ap (λ ks. with_name (λ t. is_one_of t (map string_bytes ks)) (codes "self")) c.with_hasher-names.ensures.empty in
    let same = ap (λ b. params_defaults m b (map param_of c.deref.result.now)) named
    ∙ ap (λ (ps : List RustParam). params_defaults m (with_name no_name (codes "self")) (map param_of ps))
    c.deref.ensures.value
    ∙ ap (λ b. method_findings m b d) (sym is.0) in
    c.in_ok-find_defaults-in-Some.ensures.found
    ∙ ap (λ (l : List Note). notes_of c.args.state.now.found.now ++ l) same
