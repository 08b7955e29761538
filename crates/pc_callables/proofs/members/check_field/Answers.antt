use Rattle.std.proofs.Common.{◌≡◌, ◌∙◌, ◌++◌, List, ℕ, Option, None, true, OnOk, sym, ap, subst, append-nil}
use Rattle.std.specs.Prelude.{Bool as Test, if◌then◌else◌}
use Rattle.std.specs.Option.{option_map}
use Rattle.pc_tree.specs.Tree.{field_of}
use Rattle.pc_types.specs.Below.{Bases}
use Rattle.pc_annotations.specs.Annotations.{read_ann}
use Rattle.pc_annotations.specs.Bases.{bases_of}
use Rattle.pc_annotations.specs.ModuleOutlines.{module_in}
use Rattle.pc_callables.proofs.HeldSignatures.{field_held}
use Rattle.pc_class.specs.Entries.{parameter_made}
use Rattle.pc_class.specs.Facts.{TypedParameter, ClassFacts, field_by_name, class_facts_at, base_facts, classes_of}
use Rattle.pc_class.specs.Tables.{parameter_lent, IsFieldIfAny}
use Rattle.pc_notes.specs.Notes.{Note, notes_of}
use Rattle.pc_rules.specs.Computed.TypingStates.{AddsNotes}
use Rattle.pc_rules.specs.Computed.Signatures.{is_in_names, binds_as_field, default_findings}
use Rattle.pc_callables.proofs.MembersHeld.{unbound, bound_as, no_default}
use Rattle.pc_callables.proofs.members.check_field.Goals as goal

-- the field that a name finds among classes, if it binds it
abbrev found_in : (c : ℕ) (base : Option ℕ) (bound : List ℕ → Test) → List ℕ → List ClassFacts
    → Option TypedParameter
found_in c base bound n cs =
    if binds_as_field (base_facts cs base) bound n then field_by_name (class_facts_at cs c).fields n else None

pub returns-in-None-clause-found : goal.returns-in-None-clause-found
returns-in-None-clause-found g c =
    let m = module_in c.args.globals.now.outline.now in
    let tree = g.S.TypeStore.tree in
    let d = field_of c.args.field.now in
    let bound = is_in_names c.args.bound.now in
    let notes = notes_of c.args.state.now.found.now in
    let binds = binds_as_field (base_facts (classes_of m) c.args.class.base) bound d.name.text in
    let text = c.as_str.ensures.value in
    let found = sym (ap (option_map (parameter_lent tree)) c.in-None.is) ∙ c.held_field.ensures.value tree
    ∙ (λ i. found_in c.args.class.number c.args.class.base bound (text i) (c.requires.globals.classes i)) in
    let free = unbound (λ (p : TypedParameter). p) binds
    (field_by_name (class_facts_at (classes_of m) c.args.class.number).fields d.name.text) (parameter_made m d) found
    (λ on. ap (option_map (λ (p : TypedParameter). p)) (c.requires.held on)) in
    sym (append-nil notes) ∙ ap (λ (l : List Note). notes ++ l)
    (sym (no_default (bases_of m) binds d.default (read_ann m (bases_of m) d.annotation) free))

pub find_default-requires : goal.find_default-requires
find_default-requires g c =
    field_held (g.S.TypeStore.has c.args.state.now.store.now) c.args.globals.now.classes.now
    c.requires.globals.entries c.in-Some.held.now
    (subst (IsFieldIfAny c.args.globals.now.classes.now) c.in-Some.is c.held_field.ensures.listed)

pub returns-in-Some-clause-found : goal.returns-in-Some-clause-found
returns-in-Some-clause-found g c =
    let m = module_in c.args.globals.now.outline.now in
    let tree = g.S.TypeStore.tree in
    let d = field_of c.args.field.now in
    let bound = is_in_names c.args.bound.now in
    let binds = binds_as_field (base_facts (classes_of m) c.args.class.base) bound d.name.text in
    let text = c.as_str.ensures.value in
    let held = c.in-Some.held in
    let found = sym (ap (option_map (parameter_lent tree)) c.in-Some.is) ∙ c.held_field.ensures.value tree
    ∙ (λ i. found_in c.args.class.number c.args.class.base bound (text i) (c.requires.globals.classes i)) in
    let is = bound_as (λ (p : TypedParameter). p) binds
    (field_by_name (class_facts_at (classes_of m) c.args.class.number).fields d.name.text) (parameter_lent tree held)
    (parameter_made m d) found (λ on. ap (option_map (λ (p : TypedParameter). p)) (c.requires.held on)) in
    let typed : tree held.now.ty ≡ read_ann m (bases_of m) d.annotation = ap (λ (p : TypedParameter). p.type) is.1 in
    let same = ap (λ (bs : Bases). default_findings bs true d.default (tree held.now.ty))
    c.requires.globals.outline.parents
    ∙ ap (λ b. default_findings (bases_of m) b d.default (tree held.now.ty)) (sym is.0)
    ∙ ap (default_findings (bases_of m) binds d.default) typed in
    subst (λ (l : List Note). OnOk c.find_default.result (AddsNotes c.args.state.now c.find_default.new.state l)) same
    c.find_default.ensures.found
