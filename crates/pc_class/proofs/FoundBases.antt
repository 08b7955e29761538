-- The bases that are missing are those that the rule finds.
use Rattle.std.proofs.Common.{◌≡◌, ◌↔◌, ◌+◌, ℕ, zero, suc, List, [], ◌∷◌, refl, sym, ap, ◌∙◌, subst, inl, inr, arith}
use Rattle.std.proofs.Common.{Contains}
use Rattle.std.specs.Prelude.{Option, Some, None, slice_get}
use Rattle.std.proofs.lemmas.List.Elements.{Contains-append_left, Contains-append_right}
use Rattle.std.proofs.lemmas.Option.{same_Some}
use Rattle.pc_tree.specs.declared.code.Code.TheVariants.{E07}
use Rattle.pc_tree.specs.declared.code.Finding.{Finding}
use Rattle.pc_tree.specs.Code.{finding, at_code}
use Rattle.pc_tree.specs.Tree.{Name, ClassDef, Module}
use Rattle.pc_scope.specs.Bindings.{classes_in}
use Rattle.pc_tree.proofs.Among.{none_among, first_among, among_first, either}
use Rattle.pc_tree.proofs.Finds.{at_both}
use Rattle.pc_types.specs.Below.{base_of}
use Rattle.pc_annotations.specs.Bases.{base_named, bases_of}
use Rattle.pc_class.specs.Findings.{ClassNumbered, HasNoBase}
use Rattle.pc_class.specs.Entries.{missing_base, missing_bases}
use Rattle.pc_class.specs.NameFindings.{FindsBase}
use Rattle.pc_class.proofs.ClassesBuilt.{base_here}
use Rattle.pc_class.proofs.ItemsBuilt.{AreAhead}

module _ (m : Module) (f : Finding) where
  -- at one class
  here : (c : ℕ) (class : ClassDef) (o : Option ℕ) → o ≡ base_named m c class.base → (n : Option Name) → class.base ≡ n
      → Contains (at_code E07 (missing_base o n)) f → HasNoBase m class c f
  here c class None e (Some n) b h = record {
    named = n;
    base = b;
    none = ap (base_named m c) (sym b) ∙ sym e;
    is = elim (among_first (finding n.place E07) [] f h) [ inl x ↦ sym x | inr x ↦ absurd (none_among f x) ];
  }
  here c class None e None b h = absurd (none_among f h)
  here c class (Some d) e None b h = absurd (none_among f h)
  here c class (Some d) e (Some n) b h = absurd (none_among f h)

  back : (c : ℕ) (class : ClassDef) → HasNoBase m class c f → Contains
      (at_code E07 (missing_base (base_named m c class.base) class.base)) f
  back c class h =
      subst (λ b. Contains (at_code E07 (missing_base (base_named m c b) b)) f) (sym h.base)
      (subst (λ o. Contains (at_code E07 (missing_base o (Some h.named))) f) (sym h.none)
      (subst (Contains (at_code E07 (h.named.place ∷ []))) (sym h.is) (first_among (finding h.named.place E07) [])))

  -- the findings of bases at the classes from a number on
  pub base_found : (c : ℕ) (classes : List ClassDef) → AreAhead (classes_in m.items) c classes
      → Contains (at_code E07 (missing_bases (bases_of m) c classes)) f → FindsBase m f
  base_found c [] a h = absurd (none_among f h)
  base_found c (class ∷ rest) a h =
      let ps = missing_base (base_of (bases_of m) c) class.base in
      let qs = missing_bases (bases_of m) (suc c) rest in
      let numbered : ClassNumbered m c class = record {
        is = ap (slice_get (classes_in m.items)) (omega arith)
            ∙ a 0;
      } in
      either (at_code E07 ps) (at_code E07 qs) f (subst (λ (fs : List Finding). Contains fs f) (at_both E07 ps qs) h)
      (λ x. record {
        c = c;
        class = class;
        numbered = numbered;
        none = here c class (base_of (bases_of m) c)
            (base_here m c class numbered.is) class.base refl x;
      })
      (λ x. base_found (suc c) rest (λ j. ap (slice_get (classes_in m.items)) (omega arith) ∙ a (suc j)) x)

  pub to_base : (c : ℕ) (classes : List ClassDef) → AreAhead (classes_in m.items) c classes → (i : ℕ) (class : ClassDef)
      → slice_get classes i ≡ Some class → HasNoBase m class (c + i) f
      → Contains (at_code E07 (missing_bases (bases_of m) c classes)) f
  to_base c [] a i class e h = absurd (grind (arith, e))
  to_base c (x ∷ rest) a zero class e h =
      let ps = missing_base (base_of (bases_of m) c) x.base in
      let qs = missing_bases (bases_of m) (suc c) rest in
      let is : slice_get (classes_in m.items) c ≡ Some x = ap (slice_get (classes_in m.items)) (omega arith) ∙ a 0 in
      subst (λ (fs : List Finding). Contains fs f) (sym (at_both E07 ps qs))
      (Contains-append_left (at_code E07 ps) (at_code E07 qs) f
      (subst (λ o. Contains (at_code E07 (missing_base o x.base)) f) (sym (base_here m c x is))
      (subst (λ (y : ClassDef). Contains (at_code E07 (missing_base (base_named m c y.base) y.base)) f)
      (sym (same_Some _ _ e)) (back c class (subst (λ n. HasNoBase m class n f) (omega arith) h)))))
  to_base c (x ∷ rest) a (suc i) class e h =
      let ps = missing_base (base_of (bases_of m) c) x.base in
      let qs = missing_bases (bases_of m) (suc c) rest in
      subst (λ (fs : List Finding). Contains fs f) (sym (at_both E07 ps qs))
      (Contains-append_right (at_code E07 ps) (at_code E07 qs) f
      (to_base (suc c) rest (λ j. ap (slice_get (classes_in m.items)) (omega arith) ∙ a (suc j)) i class e
      (subst (λ n. HasNoBase m class n f) (omega arith) h)))

  -- in a module
  pub bases_found : Contains (at_code E07 (missing_bases (bases_of m) 0 (classes_in m.items))) f ↔ FindsBase m f
  bases_found = (
    base_found 0 (classes_in m.items) (λ j. ap (slice_get (classes_in m.items)) (omega arith)),
    λ h. to_base 0 (classes_in m.items) (λ j. ap (slice_get (classes_in m.items)) (omega arith)) h.c h.class
        h.numbered.is (subst (λ n. HasNoBase m h.class n f) (omega arith) h.none),
  )
