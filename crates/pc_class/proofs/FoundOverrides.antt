-- The list of findings about overriding has exactly those of the rule.
use Rattle.std.proofs.Common.{◌≡◌, ◌↔◌, ◌+◌, ℕ, zero, suc, List, [], ◌∷◌, ◌++◌, take, length, refl, sym, ap, ◌∙◌, subst}
use Rattle.std.proofs.Common.{inl, inr, arith, Contains}
use Rattle.std.specs.Prelude.{Bool, true, false, ◌&&◌, if◌then◌else◌, IsTrue, All, Option, Some, None, slice_get}
use Rattle.std.specs.Prelude.{bytes_eq}
use Rattle.std.specs.List.{list_all}
use Rattle.std.proofs.lemmas.Bool.{and_parts, and_from}
use Rattle.std.proofs.lemmas.List.Elements.{All-cons, All-nil, Contains-append_left, Contains-append_right}
use Rattle.std.proofs.lemmas.List.Elements.{Contains-append_cases}
use Rattle.std.proofs.lemmas.Option.{same_Some}
use Rattle.pc_source.specs.declared.place.Place.{Place}
use Rattle.pc_tree.specs.declared.code.Code.{Code}
use Rattle.pc_tree.specs.declared.code.Finding.{Finding}
use Rattle.pc_tree.specs.Code.{finding}
use Rattle.pc_tree.specs.Tree.{FuncDef, Member, field_member, method_member, ClassDef, Module}
use Rattle.pc_scope.specs.Bindings.{classes_in, methods_in}
use Rattle.pc_scope.specs.Resolution.{is_one_of}
use Rattle.pc_tree.proofs.Among.{none_among, first_among, among_first}
use Rattle.pc_types.specs.Below.{Bases, AreSmaller, Static}
use Rattle.pc_types.specs.Assignable.{Assignable}
use Rattle.pc_annotations.specs.Bases.{bases_of}
use Rattle.pc_types.proofs.Truth.{yes_is, is_no}
use Rattle.pc_types.proofs.DecidedSubtyping.{static_decided, assignable_decided}
use Rattle.pc_annotations.proofs.Earlier.{smaller}
use Rattle.pc_class.specs.Facts.{Method, ClassFacts, binds_method, method_made, own_methods}
use Rattle.pc_class.specs.Overrides.{has_shape_of, TypeFlow, override_flows, IsGood, IsStatic, Judges, static, dynamic}
use Rattle.pc_class.specs.Overrides.{wrong, overridden}
use Rattle.pc_class.specs.Findings.{ClassNumbered, IsOverride, base_class, member_texts}
use Rattle.pc_class.specs.WellFormed.{MethodWellFormed, MethodsWellFormed}
use Rattle.pc_class.specs.Entries.{inherited_by}
use Rattle.pc_class.specs.OverrideFindings.{flow_is_static, flow_is_good, is_static_to, is_good_to, code_where}
use Rattle.pc_class.specs.OverrideFindings.{override_code, override_finding, found_at_method, found_at_methods}
use Rattle.pc_class.specs.OverrideFindings.{class_overrides, overrides_from, override_findings, FindsOverride}
use Rattle.pc_class.proofs.EntryWalk.{same_binds}
use Rattle.pc_class.proofs.FoundLate.{names_after, after_same, or_none}
use Rattle.pc_class.proofs.ItemsBuilt.{AreAhead}
use Rattle.pc_class.proofs.Judged.{all_first, all_rest, AreNormalFlows, flows_normal, judges_one}
use Rattle.pc_class.proofs.WellFormed.{filter_well_formed, made_well_formed, base_well_formed}

-- ---- the tests tell the relations

-- a test of the first and one of the others, as a test of all
cons_are : {A : Type 0} (P : A → Type 0) (x : A) (xs : List A) (a b : Bool) → IsTrue a ↔ P x → IsTrue b ↔ All P xs
    → IsTrue (a && b) ↔ All P (x ∷ xs)
cons_are P x xs a b f g = (
  λ e. All-cons P x xs (f.0 (and_parts a b e).0) (g.0 (and_parts a b e).1),
  λ h. and_from a b (f.1 (all_first P x xs h)) (g.1 (all_rest P x xs h)),
)

module _ (bases : Bases) (o : AreSmaller bases) where
  static_flows_are : (fs : List TypeFlow) → AreNormalFlows fs → IsTrue (list_all (flow_is_static bases) fs)
      ↔ All (λ f. Static bases f.from f.into) fs
  static_flows_are [] h = yes_is (All-nil (λ f. Static bases f.from f.into))
  static_flows_are (f ∷ fs) h = cons_are (λ f. Static bases f.from f.into) f fs (flow_is_static bases f)
      (list_all (flow_is_static bases) fs) (static_decided bases f.from f.into o h.0.0 h.0.1) (static_flows_are fs h.1)

  good_flows_are : (fs : List TypeFlow) → AreNormalFlows fs → IsTrue (list_all (flow_is_good bases) fs)
      ↔ All (λ f. Assignable bases f.from f.into) fs
  good_flows_are [] h = yes_is (All-nil (λ f. Assignable bases f.from f.into))
  good_flows_are (f ∷ fs) h = cons_are (λ f. Assignable bases f.from f.into) f fs (flow_is_good bases f)
      (list_all (flow_is_good bases) fs) (assignable_decided bases f.from f.into o h.0.0 h.0.1) (good_flows_are fs h.1)

  module _ (new : Method) (k : MethodWellFormed bases new) where
    pub static_is : (old : Method) → MethodWellFormed bases old → IsTrue (is_static_to bases new old)
        ↔ IsStatic bases new old
    static_is old h =
        let i = static_flows_are (override_flows old new) (flows_normal bases old new h k) in
        let a = has_shape_of old.parameters new.parameters in
        let b = list_all (flow_is_static bases) (override_flows old new) in (
          λ e. record { shape = (and_parts a b e).0; flows = i.0 (and_parts a b e).1 },
          λ x. and_from a b x.shape (i.1 x.flows),
        )

    good_is : (old : Method) → MethodWellFormed bases old → IsTrue (is_good_to bases new old) ↔ IsGood bases new old
    good_is old h =
        let i = good_flows_are (override_flows old new) (flows_normal bases old new h k) in
        let a = has_shape_of old.parameters new.parameters in
        let b = list_all (flow_is_good bases) (override_flows old new) in (
          λ e. record { shape = (and_parts a b e).0; flows = i.0 (and_parts a b e).1 },
          λ x. and_from a b x.shape (i.1 x.flows),
        )

    pub statics_are : (olds : List Method) → MethodsWellFormed bases olds
        → IsTrue (list_all (is_static_to bases new) olds) ↔ All (IsStatic bases new) olds
    statics_are [] h = yes_is (All-nil (IsStatic bases new))
    statics_are (old ∷ olds) h = cons_are (IsStatic bases new) old olds (is_static_to bases new old)
        (list_all (is_static_to bases new) olds) (static_is old h.0) (statics_are olds h.1)

    goods_are : (olds : List Method) → MethodsWellFormed bases olds → IsTrue (list_all (is_good_to bases new) olds)
        ↔ All (IsGood bases new) olds
    goods_are [] h = yes_is (All-nil (IsGood bases new))
    goods_are (old ∷ olds) h = cons_are (IsGood bases new) old olds (is_good_to bases new old)
        (list_all (is_good_to bases new) olds) (good_is old h.0) (goods_are olds h.1)

    -- the code that is computed is the one by which the method is judged
    pub code_judges : (olds : List Method) → MethodsWellFormed bases olds
        → Judges bases olds new (override_code bases olds new)
    code_judges olds h = go (list_all (is_good_to bases new) olds) refl (list_all (is_static_to bases new) olds) refl
      where
        go : (a : Bool) → list_all (is_good_to bases new) olds ≡ a → (b : Bool) → list_all (is_static_to bases new) olds
            ≡ b → Judges bases olds new (code_where a b)
        go false e b f = wrong (is_no e (goods_are olds h))
        go true e false f = dynamic ((goods_are olds h).0 e) (is_no f (statics_are olds h))
        go true e true f = static ((statics_are olds h).0 f)

-- ---- at one method

-- a code at a place
record CodeAt (o : Option Code) (p : Place) (f : Finding) : Type 0 where
  code : Code
  some : o ≡ Some code
  is : f ≡ finding p code

in_code_at : (o : Option Code) (p : Place) (f : Finding) → Contains (override_finding o p) f → CodeAt o p f
in_code_at None p f h = absurd (none_among f h)
in_code_at (Some code) p f h = record {
  code = code;
  some = refl;
  is = elim (among_first (finding p code) [] f h)
      [ inl e ↦ sym e | inr x ↦ absurd (none_among f x) ];
}

to_code_at : (o : Option Code) (p : Place) (code : Code) (f : Finding) → o ≡ Some code → f ≡ finding p code
    → Contains (override_finding o p) f
to_code_at None p code f e is = absurd (grind (arith, e))
to_code_at (Some d) p code f e is = subst (Contains (finding p d ∷ [])) (ap (finding p) (same_Some _ _ e) ∙ sym is)
    (first_among (finding p d) [])

-- ---- at the members of a class

module _ (m : Module) (base : ClassFacts) (c : ℕ) (f : Finding) where
  abbrev found : ℕ → FuncDef → List Finding
  found n method = found_at_method (bases_of m) base.methods (method_made m c n method)

  abbrev all_found : List Method → List Finding
  all_found xs = found_at_methods (bases_of m) base.methods xs

  -- a method at a number among members, after these names and so many methods
  record OverrideAt (before : List (List ℕ)) (n : ℕ) (ms : List Member) : Type 0 where
    at : ℕ
    method : FuncDef
    here : slice_get ms at ≡ Some (method_member method)
    binds : binds_method base (names_after before (take at ms)) method.name.text ≡ true
    held : Contains (found (n + length (methods_in (take at ms))) method) f

  override_at : (before : List (List ℕ)) (n : ℕ) (ms : List Member)
      → Contains (all_found (own_methods m base c n before ms)) f → OverrideAt before n ms
  override_at before n [] h = absurd (none_among f h)
  override_at before n (field_member x ∷ ms) h =
      let r = override_at (x.name.text ∷ before) n ms h in
      record { at = suc r.at; method = r.method; here = r.here; binds = r.binds; held = r.held }
  override_at before n (method_member x ∷ ms) h = go (λ a. override_at (x.name.text ∷ before) (suc n) ms a)
      (binds_method base before x.name.text) refl h
    where
      later : OverrideAt (x.name.text ∷ before) (suc n) ms → OverrideAt before n (method_member x ∷ ms)
      later r = record {
        at = suc r.at;
        method = r.method;
        here = r.here;
        binds = r.binds;
        held =
            subst (λ k. Contains (found k r.method) f) (let i : suc n + length (methods_in (take r.at ms))
            ≡ n + suc (length (methods_in (take r.at ms))) = omega arith in i) r.held;
      }

      go : (Contains (all_found (own_methods m base c (suc n) (x.name.text ∷ before) ms)) f
          → OverrideAt (x.name.text ∷ before) (suc n) ms) → (b : Bool) → binds_method base before x.name.text ≡ b
          → Contains (all_found ((if b then method_made m c n x ∷ [] else []) ++ own_methods m base c (suc n)
          (x.name.text ∷ before) ms)) f → OverrideAt before n (method_member x ∷ ms)
      go on true e h =
          elim (Contains-append_cases (found n x) (all_found (own_methods m base c (suc n) (x.name.text ∷ before) ms)) f
          h) [
            | inl a ↦ record {
              at = 0;
              method = x;
              here = refl;
              binds = e;
              held = subst (λ k. Contains (found k x) f)
                  (let i : n ≡ n + 0 = omega arith in i) a;
            }
            | inr a ↦ later (on a)
          ]
      go on false e h = later (on h)

  to_override : (before : List (List ℕ)) (n : ℕ) (ms : List Member) (at : ℕ) (method : FuncDef)
      → slice_get ms at ≡ Some (method_member method) → binds_method base (names_after before (take at ms))
      method.name.text ≡ true
      → Contains (found (n + length (methods_in (take at ms))) method) f
      → Contains (all_found (own_methods m base c n before ms)) f
  to_override before n [] at method here binds held = absurd (grind (arith, here))
  to_override before n (x ∷ ms) zero method here binds held =
      let rest = own_methods m base c (suc n) (method.name.text ∷ before) ms in
      let first : Contains (found n method) f = subst (λ k. Contains (found k method) f)
      (let e : n + 0 ≡ n = omega arith in e) held in
      subst (λ (y : Member). Contains (all_found (own_methods m base c n before (y ∷ ms))) f) (sym (same_Some _ _ here))
      (subst (λ b. Contains (all_found ((if b then method_made m c n method ∷ [] else []) ++ rest)) f) (sym binds)
      (Contains-append_left (found n method) (all_found rest) f first))
  to_override before n (field_member x ∷ ms) (suc at) method here binds held = to_override (x.name.text ∷ before) n ms
      at method here binds held
  to_override before n (method_member x ∷ ms) (suc at) method here binds held =
      go (binds_method base before x.name.text) (to_override (x.name.text ∷ before) (suc n) ms at method here binds
      (subst (λ k. Contains (found k method) f) (let e : n + suc (length (methods_in (take at ms))) ≡ suc n + length
      (methods_in (take at ms)) = omega arith in e) held))
    where
      go : (b : Bool) → Contains (all_found (own_methods m base c (suc n) (x.name.text ∷ before) ms)) f
          → Contains (all_found ((if b then method_made m c n x ∷ [] else []) ++ own_methods m base c (suc n)
          (x.name.text ∷ before) ms)) f
      go true h = Contains-append_right (found n x) (all_found (own_methods m base c (suc n) (x.name.text ∷ before) ms))
          f h
      go false h = h

  -- names in text order
  binds_in_order : (ms : List Member) (x : FuncDef) → binds_method base (names_after [] ms) x.name.text ≡ binds_method
      base (member_texts ms) x.name.text
  binds_in_order ms x = same_binds (inherited_by base) (names_after [] ms) (member_texts ms) (λ t. after_same t [] ms
      ∙ or_none (is_one_of t (member_texts ms))) (method_member x)

-- ---- by the rule

module _ (m : Module) (f : Finding) where
  class_found : (c : ℕ) (class : ClassDef) → Contains (class_overrides m c class) f ↔ IsOverride m class c f
  class_found c class = (there, back)
    where
      base : ClassFacts
      base = base_class m c class

      judged : (n : ℕ) (x : FuncDef) → Judges (bases_of m) (overridden base.methods x.name.text) (method_made m c n x)
          (override_code (bases_of m) (overridden base.methods x.name.text) (method_made m c n x))
      judged n x = code_judges (bases_of m) (smaller m) (method_made m c n x) (made_well_formed m c n x)
          (overridden base.methods x.name.text) (filter_well_formed (bases_of m) (λ g. bytes_eq x.name.text g.name)
          base.methods (base_well_formed m c class).methods)

      there : Contains (class_overrides m c class) f → IsOverride m class c f
      there h =
          let r = override_at m base c f [] 0 class.members h in
          let n = length (methods_in (take r.at class.members)) in
          let held : Contains (found m base c f n r.method) f = r.held in
          let k = in_code_at (override_code (bases_of m) (overridden base.methods r.method.name.text)
          (method_made m c n r.method)) r.method.name.place f held in record {
            at = r.at;
            method = r.method;
            code = k.code;
            here = r.here;
            binds = sym (binds_in_order m base c f (take r.at class.members) r.method) ∙ r.binds;
            judged = subst (λ code. Judges (bases_of m) (overridden base.methods r.method.name.text)
                (method_made m c n r.method) code) k.some (judged n r.method);
            is = k.is;
          }

      back : IsOverride m class c f → Contains (class_overrides m c class) f
      back r =
          let n = length (methods_in (take r.at class.members)) in
          to_override m base c f [] 0 class.members r.at r.method r.here
          (binds_in_order m base c f (take r.at class.members) r.method ∙ r.binds)
          (to_code_at (override_code (bases_of m) (overridden base.methods r.method.name.text)
          (method_made m c n r.method)) r.method.name.place r.code f (judges_one (judged n r.method) r.judged) r.is)

  found_there : (c : ℕ) (classes : List ClassDef) → AreAhead (classes_in m.items) c classes
      → Contains (overrides_from m c classes) f → FindsOverride m f
  found_there c [] a h = absurd (none_among f h)
  found_there c (class ∷ rest) a h =
      let numbered : ClassNumbered m c class = record {
        is = ap (slice_get (classes_in m.items)) (omega arith)
            ∙ a 0;
      } in
      elim (Contains-append_cases (class_overrides m c class) (overrides_from m (suc c) rest) f h) [
        | inl x ↦ record { c = c; class = class; numbered = numbered; override = (class_found c class).0 x }
        | inr x ↦ found_there (suc c) rest (λ j. ap (slice_get (classes_in m.items)) (omega arith) ∙ a (suc j)) x
      ]

  to_there : (c : ℕ) (classes : List ClassDef) (i : ℕ) (class : ClassDef) → slice_get classes i ≡ Some class
      → Contains (class_overrides m (c + i) class) f → Contains (overrides_from m c classes) f
  to_there c [] i class e h = absurd (grind (arith, e))
  to_there c (x ∷ rest) zero class e h =
      Contains-append_left (class_overrides m c x) (overrides_from m (suc c) rest) f
      (subst (λ (y : ClassDef). Contains (class_overrides m c y) f) (sym (same_Some _ _ e))
      (subst (λ n. Contains (class_overrides m n class) f) (omega arith) h))
  to_there c (x ∷ rest) (suc i) class e h =
      Contains-append_right (class_overrides m c x) (overrides_from m (suc c) rest) f
      (to_there (suc c) rest i class e (subst (λ n. Contains (class_overrides m n class) f) (omega arith) h))

  pub overrides_found : Contains (override_findings m) f ↔ FindsOverride m f
  unfolding override_findings
  overrides_found = (
    found_there 0 (classes_in m.items) (λ j. ap (slice_get (classes_in m.items)) (omega arith)),
    λ r. to_there 0 (classes_in m.items) r.c r.class r.numbered.is
        (subst (λ n. Contains (class_overrides m n r.class) f) (omega arith) ((class_found r.c r.class).1 r.override)),
  )
