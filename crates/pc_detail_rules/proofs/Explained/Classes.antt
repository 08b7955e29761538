-- Each finding of a base and of an override has a detail: E07, and E11 and A8 where no two functions have a name at one
-- place.
use Rattle.std.proofs.Common.{◌≡◌, ◌≤◌, ℕ, zero, suc, List, [], ◌∷◌, length, Bool as Test, true, false, refl, sym, ap}
use Rattle.std.proofs.Common.{◌∙◌, subst, inl, inr, arith, length-append, map, Contains}
use Rattle.std.proofs.lemmas.List.Elements.{filter-append}
use Rattle.std.proofs.lemmas.Option.{none-some, same_Some}
use Rattle.std.specs.List.{cons_option, list_all}
use Rattle.std.specs.Option.{option_map, option_and_then}
use Rattle.std.specs.Prelude.{◌⊎◌, filter, filter_map, find, if◌then◌else◌, is_none, bytes_eq, take, slice_get, Option}
use Rattle.std.specs.Prelude.{Some, None}
use Rattle.pc_tree.proofs.Among.{none_among, first_among, later_among, among_first}
use Rattle.pc_tree.specs.declared.code.Code.{Code}
use Rattle.pc_tree.specs.declared.code.Code.TheVariants.{A8, E11}
use Rattle.pc_tree.specs.declared.code.Finding.{Finding}
use Rattle.pc_tree.specs.Tree.{Name, FuncDef, Member, field_member, method_member, ClassDef, Module}
use Rattle.pc_scope.specs.declared.resolution.Owner.TheVariants as owners
use Rattle.pc_scope.specs.Bindings.{classes_in, methods_in, Body, bodies}
use Rattle.pc_scope.specs.Resolution.{function_of, method_at}
use Rattle.pc_types.specs.Below.{Bases}
use Rattle.pc_annotations.specs.Bases.{bases_of}
use Rattle.pc_annotations.proofs.Earlier.{smaller}
use Rattle.pc_class.specs.Facts.{Method, method_made}
use Rattle.pc_class.specs.Findings.{HasNoBase, IsOverride, base_class}
use Rattle.pc_class.specs.Overrides.{Judges, static, dynamic, wrong, overridden}
use Rattle.pc_class.specs.OverrideFindings.{is_good_to, is_static_to, code_where, override_code}
use Rattle.pc_class.proofs.FoundOverrides.{code_judges}
use Rattle.pc_class.proofs.Judged.{judges_one}
use Rattle.pc_class.proofs.WellFormed.{filter_well_formed, made_well_formed, base_well_formed}
use Rattle.pc_notes.specs.Notes.{is_same_place}
use Rattle.pc_module_rules.proofs.Functions.{is_body}
use Rattle.pc_detail_texts.specs.Details as detail
use Rattle.pc_detail_rules.specs.Facts.{Known}
use Rattle.pc_detail_rules.specs.Laws.{HasOwnNames, IsFit}
use Rattle.pc_detail_rules.specs.Names.{first_named, name_at, place_of_name}
use Rattle.pc_detail_rules.specs.Overrides.{first_against, override_in, override_detail}
use Rattle.pc_detail_rules.proofs.OverrideFaults.{overrides_explained}
use Rattle.pc_detail_rules.proofs.Explained.Lists.{IsThere, there_mapped, find_there}
use Rattle.pc_detail_rules.proofs.Explained.Stopping.{at_place}
use Rattle.pc_detail_rules.proofs.Explained.Told.{IsTold}

-- ---- lists

pub numbered_among : {A : Type 0} (xs : List A) (i : ℕ) (x : A) → slice_get xs i ≡ Some x → Contains xs x
numbered_among [] i x e = absurd (none-some x e)
numbered_among (y ∷ ys) zero x e = subst (Contains (y ∷ ys)) (same_Some y x e) (first_among y ys)
numbered_among (y ∷ ys) (suc i) x e = later_among y ys x (numbered_among ys i x e)

among_given : {A B : Type 0} (h : A → Option B) (xs : List A) (x : A) (y : B) → Contains xs x → h x ≡ Some y
    → Contains (filter_map h xs) y
among_given h [] x y c e = absurd (none_among x c)
among_given h (z ∷ zs) x y c e = elim (among_first z zs x c) [
  | inl same ↦ subst (λ o. Contains (cons_option o (filter_map h zs)) y) (sym (ap h same ∙ e))
      (first_among y (filter_map h zs))
  | inr r ↦ behind (h z) (among_given h zs x y r e)
]
  where
    behind : (o : Option _) → Contains (filter_map h zs) y → Contains (cons_option o (filter_map h zs)) y
    behind None k = k
    behind (Some w) k = later_among w (filter_map h zs) y k

-- ---- E07

pub base_told : (m : Module) (known : Known) (c : ℕ) (class : ClassDef) (f : Finding)
    → slice_get (classes_in m.items) c ≡ Some class → HasNoBase m class c f → IsTold m known f.place f.code
base_told m known c class f is h =
    let names = filter_map (λ (x : ClassDef). x.base) (classes_in m.items) in
    let among = among_given (λ (x : ClassDef). x.base) (classes_in m.items) class h.named
    (numbered_among (classes_in m.items) c class is) h.base in
    subst (λ (g : Finding). IsTold m known g.place g.code) (sym h.is)
    (there_mapped (λ (n : Name). detail.base n.text
    (option_map place_of_name (first_named n.text (map (λ (x : ClassDef). x.name) (classes_in m.items)))))
    (name_at h.named.place names) (find_there (λ (n : Name). is_same_place h.named.place n.place) names h.named among
    (at_place h.named.place h.named.place refl)))

-- ---- the only function whose name is at a place

module _ {A : Type 0} (test : A → Test) where
  one_kept : (x : A) → test x ≡ true → length (filter test (x ∷ [])) ≡ 1
  one_kept x e = ap (λ (b : Test). length (if b then x ∷ [] else [])) e

  some_kept : (xs : List A) (x : A) → Contains xs x → test x ≡ true → 1 ≤ length (filter test xs)
  some_kept [] x c e = absurd (none_among x c)
  some_kept (y ∷ ys) x c e =
      let a = ap length (filter-append test (y ∷ []) ys) ∙ length-append (filter test (y ∷ [])) (filter test ys) in
      elim (among_first y ys x c) [
        | inl same ↦ let b = one_kept y (subst (λ z. test z ≡ true) (sym same) e) in omega (arith, a, b)
        | inr r ↦ let b = some_kept ys x r e in omega (arith, a, b)
      ]

  -- where at most one passes a test, it is the first
  pub only_one : (xs : List A) (x : A) → Contains xs x → test x ≡ true → length (filter test xs) ≤ 1
      → find test xs ≡ Some x
  only_one [] x c e one = absurd (none_among x c)
  only_one (y ∷ ys) x c e one = go (test y) refl (among_first y ys x c) (λ r k. only_one ys x r e k)
    where
      go : (b : Test) → test y ≡ b → (y ≡ x) ⊎ Contains ys x
          → (Contains ys x → length (filter test ys) ≤ 1 → find test ys ≡ Some x)
          → (if b then Some y else find test ys) ≡ Some x
      go true i h next =
          let a = ap length (filter-append test (y ∷ []) ys) ∙ length-append (filter test (y ∷ [])) (filter test ys) in
          elim h [
            | inl same ↦ ap Some same
            | inr r ↦ let b = one_kept y i in let d = some_kept ys x r e in absurd (omega (arith, a, b, d, one))
          ]
      go false i h next =
          let a = ap length (filter-append test (y ∷ []) ys) ∙ length-append (filter test (y ∷ [])) (filter test ys) in
          elim h [
            | inl same ↦ absurd (differ (subst (λ z. test z ≡ true) (sym same) e) i)
            | inr r ↦ next r (omega (arith, a, one))
          ]
        where
          differ : {b : Test} → b ≡ true → b ≡ false → ⊥
          differ u v = cc (sym u ∙ v)

-- ---- E11, A8

-- a method has as its number the number of methods before it
method_numbered : (ms : List Member) (at : ℕ) (d : FuncDef) → slice_get ms at ≡ Some (method_member d)
    → slice_get (methods_in ms) (length (methods_in (take at ms))) ≡ Some d
method_numbered [] at d e = absurd (none-some (method_member d) e)
method_numbered (x ∷ ms) zero d e = subst (λ (y : Member). slice_get (methods_in (y ∷ ms)) 0 ≡ Some d)
    (sym (same_Some x (method_member d) e)) refl
method_numbered (field_member x ∷ ms) (suc at) d e = method_numbered ms at d e
method_numbered (method_member x ∷ ms) (suc at) d e = method_numbered ms at d e

not_none : {A : Type 0} (o : Option A) → false ≡ is_none o → IsThere o
not_none None e = absurd (cc e)
not_none (Some x) e = refl

module _ (m : Module) (here : Method) (olds : List Method) where
  -- a method that is not good to each above has a detail of E11, one that is not static to each one of A8
  against_there : (good all_static : Test) → list_all (is_good_to (bases_of m) here) olds ≡ good
      → list_all (is_static_to (bases_of m) here) olds ≡ all_static → (code : Code)
      → code_where good all_static ≡ Some code → IsThere (first_against m code here olds)
  against_there false s g t code e = subst (λ (c : Code). IsThere (first_against m c here olds)) (same_Some E11 code e)
      (not_none (first_against m E11 here olds) (sym g ∙ overrides_explained.good m here olds))
  against_there true false g t code e = subst (λ (c : Code). IsThere (first_against m c here olds))
      (same_Some A8 code e)
      (not_none (first_against m A8 here olds) (sym t ∙ overrides_explained.static m here olds))
  against_there true true g t code e = absurd (none-some code e)

  -- the code of a judged method has a detail
  judged_there : (code : Code) → override_code (bases_of m) olds here ≡ Some code
      → IsThere (first_against m code here olds)
  judged_there code e = against_there (list_all (is_good_to (bases_of m) here) olds)
      (list_all (is_static_to (bases_of m) here) olds) refl refl code e

-- the code of an override is one of two
judged_code : {bases : Bases} {olds : List Method} {new : Method} {o : Option Code} → Judges bases olds new o → (c : Code)
    → o ≡ Some c → (P : Code → Type 0) → P E11 → P A8 → P c
judged_code (static a) c e P x y = absurd (none-some c e)
judged_code (dynamic a b) c e P x y = subst P (same_Some A8 c e) y
judged_code (wrong a) c e P x y = subst P (same_Some E11 c e) x

pub override_told : (m : Module) (known : Known) (c : ℕ) (class : ClassDef) (f : Finding)
    → slice_get (classes_in m.items) c ≡ Some class → IsFit m f.code → IsOverride m class c f
    → IsTold m known f.place f.code
override_told m known c class f is fit h =
    let n = length (methods_in (take h.at class.members)) in
    let olds = overridden (base_class m c class).methods h.method.name.text in
    let here = method_made m c n h.method in
    let judges = code_judges (bases_of m) (smaller m) here (made_well_formed m c n h.method) olds
    (filter_well_formed (bases_of m) (λ g. bytes_eq h.method.name.text g.name) (base_class m c class).methods
    (base_well_formed m c class).methods) in
    let code : override_code (bases_of m) olds here ≡ Some h.code = judges_one judges h.judged in
    let there = judged_there m here olds h.code code in
    let owner : function_of m (owners.Method c n) ≡ Some h.method = ap (λ o. method_at o n) is
    ∙ method_numbered class.members h.at h.method h.here in
    let b : Body = record { owner = owners.Method c n; function = h.method } in
    let of = is_body m (owners.Method c n) h.method owner in
    let p = h.method.name.place in
    let Told : Code → Type 0 = λ (x : Code). IsFit m x → IsThere (first_against m x here olds) → IsTold m known p x in
    let found : HasOwnNames m → find (λ (x : Body). is_same_place p x.function.name.place) (bodies m) ≡ Some b =
    λ own. only_one (λ (x : Body). is_same_place p x.function.name.place) (bodies m) b of (at_place p p refl) (own p) in
    let in_class : (x : Code) → IsThere (first_against m x here olds)
    → IsThere (override_in m x c n h.method (slice_get (classes_in m.items) c)) = λ x k.
    subst (λ (o : Option ClassDef). IsThere (override_in m x c n h.method o)) (sym is) k in
    subst (λ (g : Finding). IsFit m g.code → IsTold m known g.place g.code) (sym h.is)
    (λ k. judged_code h.judged h.code refl Told
    (λ own t. subst (λ (o : Option Body). IsThere (option_and_then (override_detail m E11) o)) (sym (found own))
    (in_class E11 t))
    (λ own t. subst (λ (o : Option Body). IsThere (option_and_then (override_detail m A8) o)) (sym (found own))
    (in_class A8 t)) k there) fit
