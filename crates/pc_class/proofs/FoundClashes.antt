-- The members that clash by the entries of their classes are those that stop a run; therefore the lists of findings
-- about classes have exactly these findings.
use Rattle.std.proofs.Common.{◌≡◌, ◌↔◌, ◌⊎◌, ◌+◌, ℕ, zero, suc, List, [], ◌∷◌, ◌++◌, refl, sym, ap, ◌∙◌, subst, inl}
use Rattle.std.proofs.Common.{inr, arith, Contains}
use Rattle.std.specs.Prelude.{Bool, true, false, if◌then◌else◌, Option, Some, None, slice_get}
use Rattle.std.proofs.lemmas.Bool.{false≢true}
use Rattle.std.proofs.lemmas.List.Elements.{Contains-append_left, Contains-append_right, Contains-append_cases}
use Rattle.std.proofs.lemmas.Option.{same_Some}
use Rattle.pc_source.specs.declared.place.Place.{Place}
use Rattle.pc_tree.specs.declared.code.Code.TheVariants.{E06}
use Rattle.pc_tree.specs.declared.code.Finding.{Finding}
use Rattle.pc_tree.specs.Code.{finding, at_code}
use Rattle.pc_tree.specs.Stopping.{HeldMember, option_text, own_members, members_of, clashing_in, clashing_members}
use Rattle.pc_tree.specs.Tree.{Name, ClassDef, Item, constant_item, class_item, def_item, Module}
use Rattle.pc_scope.specs.Bindings.{classes_in}
use Rattle.pc_scope.specs.Resolution.{resolve_in_module}
use Rattle.pc_tree.proofs.Among.{none_among, in_code, to_code}
use Rattle.pc_annotations.specs.Bases.{earlier_class, base_named}
use Rattle.pc_class.specs.Built.{class_findings}
use Rattle.pc_class.specs.ClassFindingsLaw.{clashes_from}
use Rattle.pc_class.specs.Entries.{inherited_by, class_entries, clash_places}
use Rattle.pc_class.specs.Facts.{ClassFacts, base_facts, classes_of}
use Rattle.pc_class.specs.Findings as classes
use Rattle.pc_class.specs.Findings.{ClassFinds, ClassNumbered, IsTwiceMember, base_class}
use Rattle.pc_class.specs.NameFindings as names
use Rattle.pc_class.specs.NameFindings.{NamesFind}
use Rattle.pc_class.specs.OverrideFindings.{override_findings}
use Rattle.pc_class.proofs.ClassesBuilt.{class_is}
use Rattle.pc_class.proofs.ClassesBefore.{onto, class_count, class_numbered, is_meant, meant_class, class_meant}
use Rattle.pc_class.proofs.ClassesBefore.{never_earlier, just_before, not_the_one}
use Rattle.pc_class.proofs.FoundOfClasses.{findings_listed}
use Rattle.pc_class.proofs.FoundOverrides.{overrides_found}
use Rattle.pc_class.proofs.HeldMembers.{Tells, nothing_tells, clashes_are, tells_over}
use Rattle.pc_class.proofs.ItemsBuilt.{AreAhead}

module _ (m : Module) where
  -- ---- members held of the items before

  numbered_here : (before : List Item) (p : Place) (c : ClassDef) (rest : List Item)
      → onto before (class_item p c ∷ rest) ≡ m.items → slice_get (classes_in m.items) (class_count before) ≡ Some c
  numbered_here before p c rest whole =
      ap (λ (items : List Item). slice_get (classes_in items) (class_count before)) (sym whole)
      ∙ ap (slice_get (classes_in (onto before (class_item p c ∷ rest)))) (omega arith)
      ∙ class_numbered before (class_item p c ∷ rest) 0

  -- the members held of the class that a name means among the items before are those that the class has
  tells : (before rest : List Item) → onto before rest ≡ m.items → (o : Option Name)
      → Tells (members_of before (option_text o)) (base_facts (classes_of m) (base_named m (class_count before) o))
  tells [] rest whole None = nothing_tells
  tells (i ∷ before) rest whole None = nothing_tells
  tells [] rest whole (Some n) = subst (λ o. Tells [] (base_facts (classes_of m) o))
      (sym (never_earlier (resolve_in_module m n.text))) nothing_tells
  tells (constant_item p c ∷ before) rest whole (Some n) = tells before (constant_item p c ∷ rest) whole (Some n)
  tells (def_item p f ∷ before) rest whole (Some n) = tells before (def_item p f ∷ rest) whole (Some n)
  tells (class_item p c ∷ before) rest whole (Some n) = go (is_meant m before c n.text) refl
      (tells before (class_item p c ∷ rest) whole c.base) (tells before (class_item p c ∷ rest) whole (Some n))
    where
      held : List HeldMember
      held = members_of before (option_text c.base)

      base : ClassFacts
      base = base_class m (class_count before) c

      go : (b : Bool) → is_meant m before c n.text ≡ b → Tells held base → Tells (members_of before (Some n.text))
          (base_facts (classes_of m) (base_named m (class_count before) (Some n)))
          → Tells (if b then held ++ own_members [] held c.members else members_of before (Some n.text))
          (base_facts (classes_of m) (base_named m (suc (class_count before)) (Some n)))
      go true e here others =
          subst (Tells (held ++ own_members [] held c.members))
          (sym (ap (λ r. base_facts (classes_of m) (earlier_class (suc (class_count before)) r))
          (meant_class m before c rest p whole n.text e)
          ∙ ap (base_facts (classes_of m)) (just_before (class_count before))
          ∙ class_is m (class_count before) c (numbered_here before p c rest whole)))
          (tells_over m base held here (class_count before) c)
      go false e here others =
          subst (λ o. Tells (members_of before (Some n.text)) (base_facts (classes_of m) o))
          (sym (not_the_one (class_count before) (resolve_in_module m n.text)
          (λ h. false≢true (sym e ∙ class_meant m before c rest p whole n.text h))))
          others

  -- ---- the members that clash

  clashes_on : (before rest : List Item) → onto before rest ≡ m.items → clashing_in before rest ≡ clashes_from m
      (class_count before) (classes_in rest)
  clashes_on before [] whole = refl
  clashes_on before (constant_item p c ∷ rest) whole = clashes_on (constant_item p c ∷ before) rest whole
  clashes_on before (def_item p f ∷ rest) whole = clashes_on (def_item p f ∷ before) rest whole
  clashes_on before (class_item p c ∷ rest) whole =
      let base = base_class m (class_count before) c in
      ap (λ (ps : List Place). ps ++ clashing_in (class_item p c ∷ before) rest)
      (clashes_are m base (members_of before (option_text c.base))
      (tells before (class_item p c ∷ rest) whole c.base) [] 0 c.members)
      ∙ ap (λ (ps : List Place). clash_places (class_entries (inherited_by base) c) ++ ps)
      (clashes_on (class_item p c ∷ before) rest whole)

  pub clashes_stop : clashing_members m ≡ clashes_from m 0 (classes_in m.items)
  clashes_stop = clashes_on [] m.items refl

  -- ---- findings

  module _ (f : Finding) where
    -- the members that clash in a class
    abbrev clashes : ℕ → ClassDef → List Place
    clashes c class = clash_places (class_entries (inherited_by (base_class m c class)) class)

    to_clashes : (c : ℕ) (all : List ClassDef) (i : ℕ) (class : ClassDef) → slice_get all i ≡ Some class
        → Contains (clashes (c + i) class) f.place → Contains (clashes_from m c all) f.place
    to_clashes c [] i class e h = absurd (grind (arith, e))
    to_clashes c (x ∷ rest) zero class e h =
        Contains-append_left (clashes c x) (clashes_from m (suc c) rest) f.place
        (subst (λ (y : ClassDef). Contains (clashes c y) f.place) (sym (same_Some _ _ e))
        (subst (λ n. Contains (clashes n class) f.place) (omega arith) h))
    to_clashes c (x ∷ rest) (suc i) class e h =
        Contains-append_right (clashes c x) (clashes_from m (suc c) rest) f.place
        (to_clashes (suc c) rest i class e (subst (λ n. Contains (clashes n class) f.place) (omega arith) h))

    from_clashes : f.code ≡ E06 → (c : ℕ) (all : List ClassDef) → AreAhead (classes_in m.items) c all
        → Contains (clashes_from m c all) f.place → NamesFind m f
    from_clashes code c [] a h = absurd (none_among f.place h)
    from_clashes code c (class ∷ rest) a h = elim (Contains-append_cases (clashes c class) (clashes_from m (suc c) rest)
        f.place h) [
          | inl x ↦ names.clash c class (record { is = ap (slice_get (classes_in m.items)) (omega arith) ∙ a 0 })
              (subst (Contains (at_code E06 (clashes c class))) (sym (ap (finding f.place) code))
              (to_code E06 (clashes c class) f.place x))
          | inr x ↦ from_clashes code (suc c) rest
              (λ j. ap (slice_get (classes_in m.items)) (omega arith) ∙ a (suc j)) x
        ]

    by_names : NamesFind m f → ClassFinds m f
    by_names (names.base b) = classes.base b.c b.class b.numbered b.none
    by_names (names.order c class numbered h) = classes.order c class numbered h
    by_names (names.clash c class numbered h) =
        let r = in_code E06 (clashes c class) f h in
        classes.member (record {
          code = r.0;
          stops = subst (λ (ps : List Place). Contains ps f.place) (sym clashes_stop)
              (to_clashes 0 (classes_in m.items) c class numbered.is
              (subst (λ n. Contains (clashes n class) f.place) (omega arith) r.1));
        })

    twice : IsTwiceMember m f → NamesFind m f
    twice h = from_clashes h.code 0 (classes_in m.items) (λ j. ap (slice_get (classes_in m.items)) (omega arith))
        (subst (λ (ps : List Place). Contains ps f.place) clashes_stop h.stops)

    back : ClassFinds m f → Contains (class_findings m) f ⊎ Contains (override_findings m) f
    back (classes.base c class numbered h) = inl ((findings_listed m f).1
        (names.base (record { c = c; class = class; numbered = numbered; none = h })))
    back (classes.order c class numbered h) = inl ((findings_listed m f).1 (names.order c class numbered h))
    back (classes.member h) = inl ((findings_listed m f).1 (twice h))
    back (classes.override c class numbered h) =
        inr ((overrides_found m f).1 (record { c = c; class = class; numbered = numbered; override = h }))

    there : Contains (class_findings m) f ⊎ Contains (override_findings m) f → ClassFinds m f
    there (inl h) = by_names ((findings_listed m f).0 h)
    there (inr h) = let r = (overrides_found m f).0 h in classes.override r.c r.class r.numbered r.override

    pub just_their_lists : (Contains (class_findings m) f ⊎ Contains (override_findings m) f) ↔ ClassFinds m f
    just_their_lists = (there, back)
