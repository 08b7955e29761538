-- The findings made while building a class table are exactly those of the rules on names.
use Rattle.std.proofs.Common.{◌≡◌, ◌↔◌, ◌+◌, ℕ, zero, suc, List, [], ◌∷◌, sym, ap, ◌∙◌, subst, inl, inr, arith}
use Rattle.std.specs.Prelude.{Some, slice_get, Contains}
use Rattle.std.specs.List.{list_any}
use Rattle.std.proofs.lemmas.Option.{same_Some}
use Rattle.std.proofs.lemmas.List.Elements.{Contains-append_left, Contains-append_right, Contains-append_cases}
use Rattle.pc_tree.specs.declared.code.Code.TheVariants.{E06, E07, E08}
use Rattle.pc_tree.specs.declared.code.Finding.{Finding}
use Rattle.pc_tree.specs.Tree.{ClassDef, Module}
use Rattle.pc_scope.specs.Bindings.{classes_in}
use Rattle.pc_tree.specs.Code.{at_code}
use Rattle.pc_annotations.specs.Bases.{bases_of}
use Rattle.pc_class.specs.Facts.{TypedParameter}
use Rattle.pc_class.specs.Entries.{inherited_by, class_entries, clash_places, late_places, missing_bases}
use Rattle.pc_class.specs.Findings.{ClassNumbered, base_class}
use Rattle.pc_class.specs.Outlines.{class_found, classes_found}
use Rattle.pc_class.specs.Built.{class_findings}
use Rattle.pc_class.specs.NameFindings.{NamesFind, base, clash, order}
use Rattle.pc_class.proofs.ItemsBuilt.{AreAhead}
use Rattle.pc_class.proofs.FoundBases.{bases_found}
use Rattle.pc_class.proofs.FoundLate.{late_found}

module _ (m : Module) (f : Finding) where
  -- at one class
  abbrev clashes : ℕ → ClassDef → List Finding
  clashes c class = at_code E06 (clash_places (class_entries (inherited_by (base_class m c class)) class))

  abbrev lates : ℕ → ClassDef → List Finding
  lates c class = at_code E08 (late_places (list_any (λ (p : TypedParameter). p.has_default)
      (base_class m c class).fields) (class_entries (inherited_by (base_class m c class)) class))

  -- at the classes from a number on
  found_there : (c : ℕ) (classes : List ClassDef) → AreAhead (classes_in m.items) c classes
      → Contains (classes_found m c classes) f → NamesFind m f
  found_there c [] a h = absurd (let l = h.1 in omega arith)
  found_there c (class ∷ rest) a h =
      let numbered : ClassNumbered m c class = record {
        is = ap (slice_get (classes_in m.items)) (omega arith)
            ∙ a 0;
      } in
      elim (Contains-append_cases (class_found m c class) (classes_found m (suc c) rest) f h) [
        | inl x ↦ elim (Contains-append_cases (clashes c class) (lates c class) f x)
            [ inl y ↦ clash c class numbered y | inr y ↦ order c class numbered ((late_found m c class f).0 y) ]
        | inr x ↦ found_there (suc c) rest (λ j. ap (slice_get (classes_in m.items)) (omega arith) ∙ a (suc j)) x
      ]

  to_there : (c : ℕ) (classes : List ClassDef) (i : ℕ) (class : ClassDef) → slice_get classes i ≡ Some class
      → Contains (class_found m (c + i) class) f → Contains (classes_found m c classes) f
  to_there c [] i class e h = absurd (grind (arith, e))
  to_there c (x ∷ rest) zero class e h =
      Contains-append_left (class_found m c x) (classes_found m (suc c) rest) f
      (subst (λ (y : ClassDef). Contains (class_found m c y) f) (sym (same_Some _ _ e))
      (subst (λ n. Contains (class_found m n class) f) (omega arith) h))
  to_there c (x ∷ rest) (suc i) class e h =
      Contains-append_right (class_found m c x) (classes_found m (suc c) rest) f
      (to_there (suc c) rest i class e (subst (λ n. Contains (class_found m n class) f) (omega arith) h))

  here : (c : ℕ) (class : ClassDef) → ClassNumbered m c class → Contains (class_found m c class) f
      → Contains (classes_found m 0 (classes_in m.items)) f
  here c class numbered h = to_there 0 (classes_in m.items) c class numbered.is
      (subst (λ n. Contains (class_found m n class) f) (omega arith) h)

  -- in a module
  back : NamesFind m f → Contains (class_findings m) f
  unfolding class_findings
  back (base b) = Contains-append_left (at_code E07 (missing_bases (bases_of m) 0 (classes_in m.items)))
      (classes_found m 0 (classes_in m.items)) f ((bases_found m f).1 b)
  back (clash c class numbered h) = Contains-append_right (at_code E07
      (missing_bases (bases_of m) 0 (classes_in m.items))) (classes_found m 0 (classes_in m.items)) f
      (here c class numbered (Contains-append_left (clashes c class) (lates c class) f h))
  back (order c class numbered h) = Contains-append_right (at_code E07
      (missing_bases (bases_of m) 0 (classes_in m.items))) (classes_found m 0 (classes_in m.items)) f
      (here c class numbered (Contains-append_right (clashes c class) (lates c class) f ((late_found m c class f).1 h)))

  there : Contains (class_findings m) f → NamesFind m f
  unfolding class_findings
  there h = elim (Contains-append_cases (at_code E07 (missing_bases (bases_of m) 0 (classes_in m.items)))
      (classes_found m 0 (classes_in m.items)) f h) [
        | inl x ↦ base ((bases_found m f).0 x)
        | inr x ↦ found_there 0 (classes_in m.items) (λ j. ap (slice_get (classes_in m.items)) (omega arith)) x
      ]

  pub findings_listed : Contains (class_findings m) f ↔ NamesFind m f
  findings_listed = (there, back)
