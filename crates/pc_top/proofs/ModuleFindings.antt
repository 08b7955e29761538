-- The findings under the labels of a module, of its scopes and of its classes are together exactly its findings; and
-- the dynamic flows are those under the labels.
use Rattle.std.proofs.Common.{◌≡◌, List, [], ◌∷◌, ◌++◌, map, refl, ap, ◌∙◌, sym, subst, inl, inr, Contains, ◌↔◌, Option}
use Rattle.std.proofs.Common.{None}
use Rattle.std.specs.Prelude.{◌⊎◌, Bool, true, false, if◌then◌else◌}
use Rattle.std.proofs.lemmas.Grind.{flat_map-append}
use Rattle.std.proofs.lemmas.List.Elements.{Contains-append_left, Contains-append_right, Contains-append_cases}
use Rattle.pc_source.specs.declared.place.Place.{Place}
use Rattle.pc_tree.specs.declared.code.Code.{Code}
use Rattle.pc_tree.specs.declared.code.Code.TheVariants.{A1}
use Rattle.pc_tree.specs.declared.code.Finding.{Finding}
use Rattle.pc_tree.specs.Tree.{Module}
use Rattle.pc_scope_findings.specs.Findings.{ScopeFinds}
use Rattle.pc_types.specs.Tree.{Tree}
use Rattle.pc_class.specs.Annotated.{member_annotations}
use Rattle.pc_class.specs.Built.{class_findings}
use Rattle.pc_class.specs.Findings.{ClassFinds}
use Rattle.pc_class.specs.OverrideFindings.{override_findings}
use Rattle.pc_class.proofs.FoundClashes.{just_their_lists}
use Rattle.pc_notes.specs.Notes.{Note, plain_note, finding_in, findings_of, is_finding_at, flow_or, flow_noted}
use Rattle.pc_module_rules.specs.Computed.DynamicFlows.{dynamic_flow}
use Rattle.pc_module_rules.specs.Modules.{IsFinding}
use Rattle.pc_module_rules.specs.Computed.Modules.{module_finds}
use Rattle.pc_module_rules.proofs.WalkedModule.{findings_computed}
use Rattle.pc_module_rules.specs.Laws.Flows.{TellsFlows}
use Rattle.pc_module_rules.proofs.StandingFlows.{flows_computed}

-- ---- findings

-- the findings of notes that tell of no flow
plain_findings : (fs : List Finding) → findings_of (map plain_note fs) ≡ fs
plain_findings [] = refl
plain_findings (f ∷ fs) = ap (λ (l : List Finding). f ∷ l) (plain_findings fs)

-- the findings of notes with others after them that tell of no flow
with_plain : (notes : List Note) (fs : List Finding) → findings_of (notes ++ map plain_note fs) ≡ findings_of notes
    ++ fs
with_plain notes fs = flat_map-append finding_in notes (map plain_note fs)
    ∙ ap (λ (l : List Finding). findings_of notes ++ l) (plain_findings fs)

module _ (m : Module) (of_scopes : List Finding) (scopes_found : (f : Finding) → Contains of_scopes f
    ↔ ScopeFinds m f) where
  of_classes : List Finding
  of_classes = (class_findings m ++ member_annotations m) ++ override_findings m

  classes_found : (f : Finding) → Contains of_classes f ↔ (ClassFinds m f ⊎ Contains (member_annotations m) f)
  unfolding of_classes
  classes_found f =
      let lists = just_their_lists m f in
      let first = class_findings m ++ member_annotations m in (
        (λ h. elim (Contains-append_cases first (override_findings m) f h) [
          | inl t ↦ elim (Contains-append_cases (class_findings m) (member_annotations m) f t) [
            | inl n ↦ inl (lists.0 (inl n))
            | inr a ↦ inr a
          ]
          | inr o ↦ inl (lists.0 (inr o))
        ]),
        (λ s. elim s [
          | inl c ↦ elim (lists.1 c) [
            | inl n ↦ Contains-append_left first (override_findings m) f
                (Contains-append_left (class_findings m) (member_annotations m) f n)
            | inr o ↦ Contains-append_right first (override_findings m) f o
          ]
          | inr a ↦ Contains-append_left first (override_findings m) f
              (Contains-append_right (class_findings m) (member_annotations m) f a)
        ]),
      )

  all_found : (f : Finding) → Contains ((findings_of (module_finds m []) ++ of_scopes) ++ of_classes) f ↔ IsFinding m f
  all_found f =
      let labels = findings_of (module_finds m []) in
      let computed = findings_computed m f in (
        (λ h. elim (Contains-append_cases (labels ++ of_scopes) of_classes f h) [
          | inl a ↦ elim (Contains-append_cases labels of_scopes f a) [
            | inl l ↦ computed.1 (inr (inr (inr l)))
            | inr s ↦
                computed.1 (inl ((scopes_found f).0 s))
          ]
          | inr c ↦ elim ((classes_found f).0 c) [
            | inl k ↦ computed.1 (inr (inl k))
            | inr a ↦ computed.1 (inr (inr (inl a)))
          ]
        ]),
        (λ h. elim (computed.0 h) [
          | inl s ↦ Contains-append_left (labels ++ of_scopes) of_classes f
              (Contains-append_right labels of_scopes f ((scopes_found f).1 s))
          | inr rest ↦ elim rest [
            | inl c ↦ Contains-append_right (labels ++ of_scopes) of_classes f ((classes_found f).1 (inl c))
            | inr x ↦ elim x [
              | inl a ↦ Contains-append_right (labels ++ of_scopes) of_classes f ((classes_found f).1 (inr a))
              | inr l ↦ Contains-append_left (labels ++ of_scopes) of_classes f
                  (Contains-append_left labels of_scopes f l)
            ]
          ]
        ]),
      )

  -- the findings of the walk over a module, and then those of scopes and classes, are exactly the module's findings
  pub exactly : (notes : List Note) → notes ≡ (module_finds m [] ++ map plain_note of_scopes) ++ map plain_note
      ((class_findings m ++ member_annotations m) ++ override_findings m)
      → (f : Finding) → Contains (findings_of notes) f ↔ IsFinding m f
  unfolding of_classes
  exactly notes is f =
      let whole : findings_of notes ≡ (findings_of (module_finds m []) ++ of_scopes) ++ of_classes =
      ap findings_of is ∙ with_plain (module_finds m [] ++ map plain_note of_scopes) of_classes
      ∙ ap (λ (l : List Finding). l ++ of_classes) (with_plain (module_finds m []) of_scopes) in
      subst (λ (l : List Finding). Contains l f ↔ IsFinding m f) (sym whole) (all_found f)

-- ---- flows

same_or : (b : Bool) (o : Option (Tree × Tree)) → (if b then o else o) ≡ o
same_or true o = refl
same_or false o = refl

-- notes that tell of no flow add none
none_added : (c : Code) (p : Place) (fs : List Finding) → flow_noted c p (map plain_note fs) ≡ None
none_added c p [] = refl
none_added c p (f ∷ fs) = same_or (is_finding_at c p f) (flow_noted c p (map plain_note fs)) ∙ none_added c p fs

flows_stay : (c : Code) (p : Place) (notes : List Note) (fs : List Finding)
    → flow_noted c p (notes ++ map plain_note fs) ≡ flow_noted c p notes
flows_stay c p [] fs = none_added c p fs
flows_stay c p (n ∷ ns) fs = ap (flow_or c p n) (flows_stay c p ns fs)

pub same_flows : (c : Code) (p : Place) (notes first : List Note) (xs ys : List Finding)
    → notes ≡ (first ++ map plain_note xs)
    ++ map plain_note ys → flow_noted c p notes ≡ flow_noted c p first
same_flows c p notes first xs ys is = ap (flow_noted c p) is ∙ flows_stay c p (first ++ map plain_note xs) ys
    ∙ flows_stay c p first xs

-- notes hold the dynamic flows of a module if the flow noted at each place is the dynamic flow there
pub told_flows : (m : Module) (notes : List Note) → ((p : Place) → flow_noted A1 p notes ≡ dynamic_flow m p)
    → TellsFlows m notes
told_flows m notes same = record {
  just = λ p s t. (
    λ e. (flows_computed m p s t).0 (sym (same p) ∙ e),
    λ h. same p
        ∙ (flows_computed m p s t).1 h,
  );
}
