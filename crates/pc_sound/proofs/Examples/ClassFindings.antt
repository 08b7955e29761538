-- The findings of the classes of a module as a list, from those of its overrides; and a list of findings told once.
use Rattle.std.proofs.Common.{◌≡◌, ℕ, zero, suc, ◌+◌, List, [], ◌∷◌, ◌++◌, All, Contains, refl, sym, ap, subst, inl}
use Rattle.std.proofs.Common.{inr, arith}
use Rattle.std.specs.Prelude.{◌⊎◌, Bool as Test, true, false, ◌&&◌, not, take, Option, Some, None, is_some, slice_get}
use Rattle.std.specs.List.{AllByRecursion}
use Rattle.std.proofs.lemmas.List.Elements.{All-contains, All-from_recursion, Contains-append_left}
use Rattle.std.proofs.lemmas.List.Elements.{Contains-append_right}
use Rattle.std.proofs.lemmas.Option.{same_Some}
use Rattle.pc_tree.specs.declared.code.Code.{Code}
use Rattle.pc_tree.specs.declared.code.Code.TheVariants.{A8, E06, E07, E08}
use Rattle.pc_tree.specs.declared.code.Finding.{Finding}
use Rattle.pc_tree.specs.Code.{finding}
use Rattle.pc_tree.specs.Stopping.{is_runnable}
use Rattle.pc_tree.specs.Tree.{Name, ClassDef, Member, field_member, method_member, Module}
use Rattle.pc_scope.specs.Bindings.{classes_in}
use Rattle.pc_types.specs.Below.{Bases}
use Rattle.pc_class.specs.Bases.{base_named}
use Rattle.pc_class.specs.Facts.{Method, binds_field}
use Rattle.pc_class.specs.Overrides.{Judges, IsGood, IsStatic, dynamic, wrong}
use Rattle.pc_class.specs.Findings.{HasNoBase, IsFieldBehind, IsOverride, ClassFinds, base_class, member_texts}
use Rattle.pc_class.specs.Findings.{has_default_before}
use Rattle.pc_class.specs.Findings as class
use Rattle.pc_types.proofs.Consistent.{static_assignable}
use Rattle.pc_sound.specs.Examples.{FindsJust}
use Rattle.pc_tree.proofs.Among.{none_among}
use Rattle.pc_sound.proofs.Examples.FindingLists.{Listing, equal_into}
use Rattle.pc_sound.proofs.Examples.ExampleFindings.{none_stops}

-- ---- findings of the elements of a list, by their numbers

abbrev pub each_from : {A : Type 0} → (ℕ → A → List Finding) → ℕ → List A → List Finding
each_from g n [] = []
each_from g n (x ∷ xs) = g n x ++ each_from g (suc n) xs

among_each : {A : Type 0} (g : ℕ → A → List Finding) (n : ℕ) (xs : List A) (i : ℕ) (x : A) (f : Finding)
    → slice_get xs i ≡ Some x → Contains (g (n + i) x) f → Contains (each_from g n xs) f
among_each g n [] i x f e c = absurd (grind (arith, e))
among_each g n (y ∷ ys) zero x f e c = Contains-append_left (g n y) (each_from g (suc n) ys) f
    (subst (λ k. Contains (g k y) f) none_more (subst (λ z. Contains (g (n + 0) z) f) (sym (same_Some _ _ e)) c))
  where
    none_more : n + 0 ≡ n
    none_more = omega arith
among_each g n (y ∷ ys) (suc i) x f e c = Contains-append_right (g n y) (each_from g (suc n) ys) f
    (among_each g (suc n) ys i x f e (subst (λ k. Contains (g k x) f) one_more c))
  where
    one_more : n + suc i ≡ suc n + i
    one_more = omega arith

in_each : {A : Type 0} (g : ℕ → A → List Finding) (xs : List A) (i : ℕ) (x : A) (f : Finding) → slice_get xs i ≡ Some x
    → Contains (g i x) f → Contains (each_from g 0 xs) f
in_each g xs i x f e c = among_each g 0 xs i x f e (subst (λ k. Contains (g k x) f) from_none c)
  where
    from_none : i ≡ 0 + i
    from_none = omega arith

-- a finding where a test is true
abbrev pub if_true : Test → Finding → List Finding
if_true true x = x ∷ []
if_true false x = []

true_listed : (b : Test) (x f : Finding) → b ≡ true → f ≡ x → Contains (if_true b x) f
true_listed b x f e is = subst (λ t. Contains (if_true t x) f) (sym e) (equal_into x f is)

-- ---- classes

module _ (m : Module) where
  abbrev pub without_base : ℕ → Option Name → List Finding
  without_base c None = []
  without_base c (Some n) = if_true (not (is_some (base_named m c (Some n)))) (finding n.place E07)

  abbrev pub base_of : ℕ → ClassDef → List Finding
  base_of c d = without_base c d.base

  -- a field without default after one with default
  abbrev pub behind_default : (c : ℕ) → ClassDef → ℕ → Member → List Finding
  behind_default c d at (field_member f) =
      if_true (binds_field (base_class m c d) (member_texts (take at d.members)) f.name.text
      && (not (is_some f.default) && has_default_before m (base_class m c d) (take at d.members)))
      (finding f.name.place E08)
  behind_default c d at (method_member f) = []

  abbrev pub order_of : ℕ → ClassDef → List Finding
  order_of c d = each_from (behind_default c d) 0 d.members

  -- all but those of overrides, where no code stops the module
  abbrev pub of_classes : List Finding
  of_classes = each_from base_of 0 (classes_in m.items) ++ each_from order_of 0 (classes_in m.items)

  base_listed : (c : ℕ) (d : ClassDef) (f : Finding) → HasNoBase m d c f → Contains (base_of c d) f
  base_listed c d f h =
      subst (λ o. Contains (without_base c o) f) (sym h.base) (true_listed
      (not (is_some (base_named m c (Some h.named)))) _ f (ap (λ o. not (is_some o)) h.none) h.is)

  all_three : (a b c : Test) → a ≡ true → b ≡ false → c ≡ true → (a && (not b && c)) ≡ true
  all_three true false true x y z = refl
  all_three true false false x y z = z
  all_three true true c x y z = absurd (grind (arith, y))
  all_three false b c x y z = x

  order_listed : (c : ℕ) (d : ClassDef) (f : Finding) → IsFieldBehind m d c f → Contains (order_of c d) f
  order_listed c d f h =
      in_each (behind_default c d) d.members h.at (field_member h.field) f h.here
      (true_listed _ _ f
      (all_three (binds_field (base_class m c d) (member_texts (take h.at d.members)) h.field.name.text)
      (is_some h.field.default) (has_default_before m (base_class m c d) (take h.at d.members)) h.binds h.none
      h.behind)
      h.is)

  -- an override that is found, of some class
  pub record Overrides (f : Finding) : Type 0 where
    pub number : ℕ
    pub class : ClassDef
    pub is : slice_get (classes_in m.items) number ≡ Some class
    pub override : IsOverride m class number f

  module _ (runs : is_runnable m ≡ true) where
    class_found : (f : Finding) → ClassFinds m f → Overrides f ⊎ Contains of_classes f
    class_found f (class.base c d numbered h) = inr (Contains-append_left (each_from base_of 0 (classes_in m.items)) _ f
        (in_each base_of (classes_in m.items) c d f numbered.is (base_listed c d f h)))
    class_found f (class.member h) = absurd (none_stops m runs f.place E06 h.stops)
    class_found f (class.order c d numbered h) =
        inr (Contains-append_right (each_from base_of 0 (classes_in m.items))
        (each_from order_of 0 (classes_in m.items)) f (in_each order_of (classes_in m.items) c d f numbered.is
        (order_listed c d f h)))
    class_found f (class.override c d numbered h) =
        inl (record { number = c; class = d; is = numbered.is; override = h })

    pub only_overrides : of_classes ≡ [] → (f : Finding) → ClassFinds m f → Overrides f
    only_overrides none f h = elim (class_found f h) [
      | inl o ↦ o
      | inr c ↦
          absurd (none_among f (subst (λ fs. Contains fs f) none c))
    ]

    pub override_found : (f : Finding) → Overrides f → ClassFinds m f
    override_found f h = class.override h.number h.class (record { is = h.is }) h.override

    -- where nothing else is found of classes, the findings of classes are those of overrides
    abbrev pub classes_listed : of_classes ≡ [] → (fs : List Finding) → ((f : Finding) → Overrides f → Contains fs f)
        → AllByRecursion Overrides fs → Listing (ClassFinds m)
    classes_listed none fs into each = record {
      all = fs;
      into = λ f h. into f (only_overrides none f h);
      from = λ f c. override_found f (All-contains Overrides fs f (All-from_recursion Overrides fs each) c);
    }

-- ---- overrides

statics_good : (bases : Bases) (new : Method) (olds : List Method) → All (IsStatic bases new) olds
    → All (IsGood bases new) olds
statics_good bases new olds h = λ k d b. let x = h k d b in record {
  shape = x.shape;
  flows =
      λ j e l. static_assignable bases _ _ (x.flows j e l);
}

-- a method that is static to each that it overrides has no code
pub judged_static : {bases : Bases} {olds : List Method} {new : Method} {code : Code} → All (IsStatic bases new) olds
    → ¬ (Judges bases olds new (Some code))
judged_static statics (dynamic goods not_static) = not_static statics
judged_static {bases} {olds} {new} statics (wrong not_good) = not_good (statics_good bases new olds statics)

-- one that is good against each has no other code than A8
pub judged_dynamic : {bases : Bases} {olds : List Method} {new : Method} {code : Code} → All (IsGood bases new) olds
    → Judges bases olds new (Some code) → code ≡ A8
judged_dynamic goods (dynamic g n) = refl
judged_dynamic goods (wrong n) = absurd (n goods)

-- ---- findings told once

-- the findings of a module told once, where a list has some more than once
pub just_these : (m : Module) (all fs : List Finding) → FindsJust m all → AllByRecursion (Contains fs) all
    → AllByRecursion (Contains all) fs → FindsJust m fs
just_these m all fs just within back f = (
  λ h. All-contains (Contains fs) all f (All-from_recursion (Contains fs) all within) ((just f).0 h),
  λ c. (just f).1 (All-contains (Contains all) fs f (All-from_recursion (Contains all) fs back) c),
)
