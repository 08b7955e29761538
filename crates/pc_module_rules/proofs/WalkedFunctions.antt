-- A walk over the body of a function, from its entry, finds exactly what is under lawful labels in the body and at the
-- name.
use Rattle.std.proofs.Common.{◌≡◌, [], ◌∷◌, ◌++◌, length, refl, sym, ap, subst, inl, inr}
use Rattle.std.specs.Prelude.{Bool as Test, true, false, if◌then◌else◌, Option, Some, None}
use Rattle.pc_source.specs.declared.place.Place.{Place}
use Rattle.pc_tree.specs.declared.code.Code.{Code}
use Rattle.pc_tree.specs.declared.code.Code.TheVariants.{E21}
use Rattle.pc_tree.specs.Code.{finding}
use Rattle.pc_scope.specs.declared.resolution.NameMeaning.TheVariants as meaning
use Rattle.pc_scope.specs.Resolution.{locals}
use Rattle.pc_types.specs.Tree.{Tree, NoneType}
use Rattle.pc_types.specs.Below.{Bases, AreSmaller}
use Rattle.pc_types.specs.WellFormed.{IsWellFormed}
use Rattle.pc_types.specs.Computed.{static_test}
use Rattle.pc_class.specs.Bases.{bases_of}
use Rattle.pc_class.specs.Facts.{return_type}
use Rattle.pc_class.proofs.WellFormed.{returned_well_formed}
use Rattle.pc_flow.specs.Environment.{Env, none_assigned}
use Rattle.pc_notes.specs.Notes.{plain_note}
use Rattle.pc_rules.specs.Labels.{IsCodeAt}
use Rattle.pc_rules.specs.Signatures.{body_context}
use Rattle.pc_rules.proofs.ComputedFlows.{are_tests}
use Rattle.pc_rules.proofs.Contexts.{bodies_well_formed}
use Rattle.pc_annotations.proofs.Earlier.{smaller}
use Rattle.pc_module_rules.specs.Modules.{entry_env, entry_parameters}
use Rattle.pc_module_rules.specs.Modules.{names_entered, ReturnsWell, leaves, may_complete, may_not}
use Rattle.pc_module_rules.specs.Laws.Labellings.{Surroundings}
use Rattle.pc_module_rules.specs.Computed.Statements.{Walk, walk_suite}
use Rattle.pc_module_rules.specs.Computed.Statements.{enter_parameters, end_finds}
use Rattle.pc_module_rules.specs.Laws.Walks.{body_context_in, BodiesFindWhatLabelsSay, Lists}
use Rattle.pc_module_rules.proofs.EnteredTables.{all_entered, none_fits, none_assigned_fits}
use Rattle.pc_module_rules.proofs.LabelledFunctions.{entries_well_formed}
use Rattle.pc_module_rules.proofs.LocalNames.{names_are}
use Rattle.pc_module_rules.proofs.WalkedFindings.{lists_nothing, lists_one, adds_same, adds_list, adds_both}
use Rattle.pc_module_rules.proofs.WalkedStatements.{suite_says}

-- ---- the end

-- E21 where the body can complete and None is not static to the return type
end_says : (bases : Bases) (t : Tree) → AreSmaller bases → IsWellFormed bases t
    → (p : Place) (out : Option Env) (c : Option Code) → ReturnsWell bases t out c
    → Lists (end_finds bases t p out) (IsCodeAt p c)
end_says bases t o k p _ _ leaves = lists_nothing
end_says bases t o k p _ _ (may_complete is) = subst (λ b. Lists (if b then [] else plain_note (finding p E21) ∷ [])
    (λ f. ⊥)) (sym (((are_tests bases o).of_static NoneType t tt k.0).1 is)) lists_nothing
end_says bases t o k p _ _ (may_not wrong) = go (static_test bases NoneType t) refl
  where
    go : (b : Test) → static_test bases NoneType t ≡ b → Lists (if b then [] else plain_note (finding p E21) ∷ [])
        (IsCodeAt p (Some E21))
    go true e = absurd (wrong (((are_tests bases o).of_static NoneType t tt k.0).0 e))
    go false e = lists_one (finding p E21) refl

-- ---- functions

pub bodies_say : BodiesFindWhatLabelsSay
bodies_say m constants kc owner f labels l found =
    let names = locals owner f in
    let here : Surroundings = record {
      whole = m;
      context = body_context m constants names;
      context_well_formed =
          bodies_well_formed m constants names kc;
      count = length names;
      locals = names_are m constants names;
    } in
    let ds = labels.declared in
    let none = none_assigned (length names) in
    let entries = entry_parameters m owner f in
    let start = enter_parameters here.context.resolve none none entries in
    let env = entry_env here.context.resolve [] entries none in
    let e = all_entered here ds [] none none (none_fits here ds) (none_assigned_fits here ds l.each_local) entries
    (entries_well_formed m owner f) l.entry in
    let w : Walk = record { table = start.0; env = Some start.1; exit_env = None; found = found } in
    let k = returned_well_formed m f in
    let body = suite_says here (return_type m f) k ds (names_entered [] entries) w env (ap Some e.env_is) e.fits
    e.env_fits tt f.body labels.body labels.out l.body in
    let walked = walk_suite (body_context_in here (return_type m f)) w f.body in
    let end = subst (λ o. Lists (end_finds (bases_of m) (return_type m f) f.name.place o)
    (IsCodeAt f.name.place labels.completing)) (sym body.env_is)
    (end_says (bases_of m) (return_type m f) (smaller m) k f.name.place labels.out labels.completing
    l.completing) in
    let last = end_finds (bases_of m) (return_type m f) f.name.place walked.env in
    adds_same found (walked.found ++ last)
    (λ g y. elim y [ inl a ↦ inr a | inr b ↦ inl b ])
    (λ g y. elim y [ inl a ↦ inr a | inr b ↦ inl b ])
    (adds_both found walked.found (walked.found ++ last) body.found_is (adds_list walked.found last end))
