-- The fields without default after one with default are those that the rule finds.
use Rattle.std.proofs.Common.{◌≡◌, ◌↔◌, ℕ, zero, suc, List, [], ◌∷◌, take, refl, sym, ap, ◌∙◌, subst, inl, inr, arith}
use Rattle.std.proofs.Common.{Contains}
use Rattle.std.specs.Prelude.{Bool, true, false, ◌&&◌, ◌||◌, not, if◌then◌else◌, is_some, Some, None, slice_get}
use Rattle.std.specs.Prelude.{bytes_eq}
use Rattle.std.specs.List.{list_any}
use Rattle.std.proofs.lemmas.Bool.{false≢true}
use Rattle.std.proofs.lemmas.List.Elements.{Contains-append_left, Contains-append_right}
use Rattle.std.proofs.lemmas.Option.{same_Some}
use Rattle.pc_source.specs.declared.place.Place.{Place}
use Rattle.pc_tree.specs.declared.code.Code.TheVariants.{E08}
use Rattle.pc_tree.specs.declared.code.Finding.{Finding}
use Rattle.pc_tree.specs.Code.{finding, at_code}
use Rattle.pc_tree.specs.Stopping.{one_if, name_of_member}
use Rattle.pc_tree.specs.Tree.{Field, Member, field_member, method_member, ClassDef, Module}
use Rattle.pc_scope.specs.Resolution.{is_one_of}
use Rattle.pc_tree.proofs.Among.{none_among, first_among, among_first, either}
use Rattle.pc_tree.proofs.Finds.{at_both}
use Rattle.pc_class.specs.Facts.{TypedParameter, ClassFacts}
use Rattle.pc_class.specs.Findings.{IsFieldBehind, base_class, member_texts, has_default_before}
use Rattle.pc_class.specs.Entries.{Inherited, inherited_by, member_binds, entry_of_member, number_after, entries_of_members}
use Rattle.pc_class.specs.Entries.{class_entries, member_default, entry_default, defaulted_after, is_late, late_places}
use Rattle.pc_class.specs.Entries.{defaulted_in}
use Rattle.pc_class.proofs.EntryWalk.{same_binds}
use Rattle.pc_class.proofs.OwnMembers.{fields_are, defaults_are}

-- the names after some names and members
abbrev pub names_after : List (List ℕ) → List Member → List (List ℕ)
names_after before [] = before
names_after before (x ∷ xs) = names_after ((name_of_member x).text ∷ before) xs

-- they are those of the members and those before, in some order
pub after_same : (t : List ℕ) (before : List (List ℕ)) (xs : List Member) → is_one_of t (names_after before xs)
    ≡ (is_one_of t (member_texts xs) || is_one_of t before)
after_same t before [] = refl
after_same t before (x ∷ xs) = after_same t ((name_of_member x).text ∷ before) xs
    ∙ turned (is_one_of t (member_texts xs)) (bytes_eq t (name_of_member x).text) (is_one_of t before)
  where
    turned : (a b c : Bool) → (a || (b || c)) ≡ ((b || a) || c)
    turned true true c = refl
    turned true false c = refl
    turned false true c = refl
    turned false false c = refl

pub or_none : (b : Bool) → (b || false) ≡ b
or_none true = refl
or_none false = refl

-- ---- at one entry

late_field : (d b : Bool) (x : Member) → is_late d (if b then member_default x else None) ≡ true → (d ≡ true)
    × (b ≡ true)
late_field true true x e = (refl, refl)
late_field false true (field_member f) e = absurd (false≢true e)
late_field false true (method_member f) e = absurd (false≢true e)
late_field d false x e = absurd (false≢true e)

record IsPlain (x : Member) : Type 0 where
  field : Field
  is : x ≡ field_member field
  none : is_some field.default ≡ false

late_plain : (d b : Bool) (x : Member) → is_late d (if b then member_default x else None) ≡ true → IsPlain x
late_plain true true (field_member f) e = record { field = f; is = refl; none = go (is_some f.default) e }
  where
    go : (b : Bool) → (true && not b) ≡ true → b ≡ false
    go true e = absurd (false≢true e)
    go false e = refl
late_plain false true (field_member f) e = absurd (false≢true e)
late_plain d true (method_member f) e = absurd (false≢true e)
late_plain d false x e = absurd (false≢true e)

-- a code at a place where a test holds
at_one : (b : Bool) (p : Place) (f : Finding) → Contains (at_code E08 (one_if b p)) f → (b ≡ true) × (f ≡ finding p E08)
at_one true p f h = (
  refl,
  elim (among_first (finding p E08) [] f h)
      [ inl e ↦ sym e | inr x ↦ absurd (none_among f x) ],
)
at_one false p f h = absurd (none_among f h)

to_one : (b : Bool) (p : Place) → b ≡ true → Contains (at_code E08 (one_if b p)) (finding p E08)
to_one true p e = first_among (finding p E08) []
to_one false p e = absurd (false≢true e)

module _ (h : Inherited) (f : Finding) where
  -- a field at a number among members, after these names and where there was a default or not
  record LateAt (before : List (List ℕ)) (n : ℕ) (d : Bool) (ms : List Member) : Type 0 where
    at : ℕ
    field : Field
    here : slice_get ms at ≡ Some (field_member field)
    binds : member_binds h (names_after before (take at ms)) (field_member field) ≡ true
    none : is_some field.default ≡ false
    behind : defaulted_in d (entries_of_members h before n (take at ms)) ≡ true
    is : f ≡ finding field.name.place E08

  late_at : (before : List (List ℕ)) (n : ℕ) (d : Bool) (ms : List Member)
      → Contains (at_code E08 (late_places d (entries_of_members h before n ms))) f → LateAt before n d ms
  late_at before n d [] c = absurd (none_among f c)
  late_at before n d (x ∷ ms) c =
      let e = entry_of_member h before n x in
      let ps = one_if (is_late d (entry_default e)) (name_of_member x).place in
      let qs = late_places (defaulted_after d (entry_default e))
      (entries_of_members h ((name_of_member x).text ∷ before) (number_after n x) ms) in
      either (at_code E08 ps) (at_code E08 qs) f (subst (λ (fs : List Finding). Contains fs f) (at_both E08 ps qs) c)
      (λ a. let r = at_one (is_late d (entry_default e)) (name_of_member x).place f a in
      let p = late_plain d (member_binds h before x) x r.0 in
      let l = late_field d (member_binds h before x) x r.0 in record {
        at = 0;
        field = p.field;
        here = ap Some p.is;
        binds = subst (λ y. member_binds h before y ≡ true) p.is l.1;
        none = p.none;
        behind = l.0;
        is = subst (λ (y : Member). f ≡ finding (name_of_member y).place E08) p.is r.1;
      })
      (λ a. let r = late_at ((name_of_member x).text ∷ before) (number_after n x) (defaulted_after d (entry_default e))
      ms a in record {
        at = suc r.at;
        field = r.field;
        here = r.here;
        binds = r.binds;
        none = r.none;
        behind = r.behind;
        is = r.is;
      })

  to_late : (before : List (List ℕ)) (n : ℕ) (d : Bool) (ms : List Member) (at : ℕ) (field : Field)
      → slice_get ms at ≡ Some (field_member field) → member_binds h (names_after before (take at ms))
      (field_member field) ≡ true → is_some field.default ≡ false
      → defaulted_in d (entries_of_members h before n (take at ms)) ≡ true → f ≡ finding field.name.place E08
      → Contains (at_code E08 (late_places d (entries_of_members h before n ms))) f
  to_late before n d [] at field here binds none behind is = absurd (grind (arith, here))
  to_late before n d (x ∷ ms) zero field here binds none behind is =
      let e = entry_of_member h before n (field_member field) in
      let ps = one_if (is_late d (entry_default e)) field.name.place in
      let qs = late_places (defaulted_after d (entry_default e)) (entries_of_members h (field.name.text ∷ before) n ms) in
      let late : is_late d (entry_default e) ≡ true =
      ap (λ b. is_late d (if b then Some (is_some field.default) else None)) binds ∙ ap (λ b. d && not b) none
      ∙ ap (λ b. b && true) behind in
      subst (λ (y : Member). Contains (at_code E08 (late_places d (entries_of_members h before n (y ∷ ms)))) f)
      (sym (same_Some _ _ here))
      (subst (λ (fs : List Finding). Contains fs f) (sym (at_both E08 ps qs))
      (Contains-append_left (at_code E08 ps) (at_code E08 qs) f
      (subst (Contains (at_code E08 ps)) (sym is) (to_one (is_late d (entry_default e)) field.name.place late))))
  to_late before n d (x ∷ ms) (suc at) field here binds none behind is =
      let e = entry_of_member h before n x in
      let ps = one_if (is_late d (entry_default e)) (name_of_member x).place in
      let qs = late_places (defaulted_after d (entry_default e))
      (entries_of_members h ((name_of_member x).text ∷ before) (number_after n x) ms) in
      subst (λ (fs : List Finding). Contains fs f) (sym (at_both E08 ps qs))
      (Contains-append_right (at_code E08 ps) (at_code E08 qs) f
      (to_late ((name_of_member x).text ∷ before) (number_after n x) (defaulted_after d (entry_default e)) ms at field
      here binds none behind is))

-- ---- by the rule

module _ (m : Module) (base : ClassFacts) where
  -- a default before a member, by entries
  default_before : (ms : List Member) → defaulted_in (list_any (λ (p : TypedParameter). p.has_default) base.fields)
      (entries_of_members (inherited_by base) [] 0 ms) ≡ has_default_before m base ms
  default_before ms = defaults_are m (list_any (λ (p : TypedParameter). p.has_default) base.fields)
      (entries_of_members (inherited_by base) [] 0 ms)
      ∙ ap (λ (ps : List TypedParameter). list_any (λ (p : TypedParameter). p.has_default) base.fields
      || list_any (λ (p : TypedParameter). p.has_default) ps) (sym (fields_are m base [] 0 ms))

  -- names in text order
  binds_in_order : (ms : List Member) (x : Member) → member_binds (inherited_by base) (names_after [] ms) x
      ≡ member_binds (inherited_by base) (member_texts ms) x
  binds_in_order ms x = same_binds (inherited_by base) (names_after [] ms) (member_texts ms) (λ t. after_same t [] ms
      ∙ or_none (is_one_of t (member_texts ms))) x

-- the fields that are found late are those of the rule
pub late_found : (m : Module) (c : ℕ) (class : ClassDef) (f : Finding)
    → Contains
    (at_code E08 (late_places (list_any (λ (p : TypedParameter). p.has_default) (base_class m c class).fields)
    (class_entries (inherited_by (base_class m c class)) class))) f ↔ IsFieldBehind m class c f
late_found m c class f = (
  λ h. let r = late_at (inherited_by base) f [] 0 (list_any (λ (p : TypedParameter). p.has_default) base.fields)
      class.members h in record {
        at = r.at;
        field = r.field;
        here = r.here;
        binds = sym (binds_in_order m base (take r.at class.members) (field_member r.field)) ∙ r.binds;
        none = r.none;
        behind = sym (default_before m base (take r.at class.members)) ∙ r.behind;
        is = r.is;
      },
  λ r. to_late (inherited_by base) f [] 0 (list_any (λ (p : TypedParameter). p.has_default) base.fields) class.members
      r.at r.field r.here (binds_in_order m base (take r.at class.members) (field_member r.field) ∙ r.binds) r.none
      (default_before m base (take r.at class.members) ∙ r.behind) r.is,
)
  where
    base : ClassFacts
    base = base_class m c class
