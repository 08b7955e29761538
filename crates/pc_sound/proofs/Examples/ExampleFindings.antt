-- The findings of a module with a given lawful labelling, as a list: what the examples compute.
use Rattle.std.proofs.Common.{◌≡◌, ℕ, zero, suc, ◌+◌, ◌<◌, ◌≤◌, List, [], ◌∷◌, ◌++◌, length, refl, sym, ap, ◌∙◌, subst}
use Rattle.std.proofs.Common.{inl, inr, arith, true≢false, Contains, eq-or-lt_of_le}
use Rattle.std.specs.Prelude.{◌⊎◌, Bool as Test, true, false, nat_le, take, filter_map, flat_map, Option, Some, None}
use Rattle.std.specs.Prelude.{slice_get}
use Rattle.std.proofs.lemmas.List.Elements.{Contains-append_left, Contains-append_right, Contains-append_cases}
use Rattle.std.proofs.lemmas.Bool.Decides.{nat_tests}
use Rattle.std.proofs.lemmas.Option.{slice_get_within}
use Rattle.pc_source.specs.declared.place.Place.{Place}
use Rattle.pc_tree.specs.declared.code.Code.{Code}
use Rattle.pc_tree.specs.declared.code.Code.TheVariants.{E01, E02, E03, E05, E06, E28, E29, E30, E31}
use Rattle.pc_tree.specs.declared.code.Finding.{Finding}
use Rattle.pc_tree.specs.Code.{finding}
use Rattle.pc_tree.specs.Stopping.{has_none, twice, outside_loop, clashing_members, no_main, reserved_bound}
use Rattle.pc_tree.specs.Stopping.{default_order, IsStopping, is_runnable}
use Rattle.pc_tree.specs.Tree.{Expr, ClassDef, Item, constant_item, class_item, def_item, Module}
use Rattle.pc_tree.specs.NamesAlone.{name_of_tree}
use Rattle.pc_scope.specs.declared.resolution.Owner.{Owner}
use Rattle.pc_scope.specs.declared.resolution.Owner.TheVariants as owners
use Rattle.pc_scope.specs.declared.resolution.NameMeaning.{NameMeaning}
use Rattle.pc_scope.specs.declared.resolution.NameMeaning.TheVariants as meaning
use Rattle.pc_scope.specs.Bindings.{constants_in, classes_in, bodies}
use Rattle.pc_scope.specs.Resolution.{resolve, resolve_in_module}
use Rattle.pc_scope.specs.Expressions.{parts_in, other_callee, exprs_in_all}
use Rattle.pc_scope_findings.specs.Unreached.{unreached_places}
use Rattle.pc_scope_findings.specs.Findings as scope
use Rattle.pc_scope_findings.specs.Findings.{IsUnknownIn, IsUnknown, IsEarlyMeaning, IsEarlyName, IsEarlyCallee}
use Rattle.pc_scope_findings.specs.Findings.{IsEarly, IsUnreachable, ScopeFinds}
use Rattle.pc_types.specs.Tree.{Tree}
use Rattle.pc_types.specs.Below.{Bases}
use Rattle.pc_class.specs.Findings as class
use Rattle.pc_class.specs.Findings.{ClassFinds}
use Rattle.pc_rules.specs.Operations.{Label, FlowLabel}
use Rattle.pc_rules.specs.Context.{FlowUnless, FlowAt, is_early}
use Rattle.pc_module_rules.specs.Modules.{Labelling, IsLawful, LabelsSay, LabelsFind, IsFinding, constant_types}
use Rattle.pc_module_rules.specs.Modules.{nothing_before}
use Rattle.pc_module_rules.proofs.Scopes.{said_is_found}
use Rattle.pc_module_rules.proofs.OneModule.{one_labelling}
use Rattle.pc_sound.specs.Examples.{FindsJust}
use Rattle.pc_tree.proofs.Among.{among_first, first_among, later_among, none_among}
use Rattle.pc_sound.proofs.Examples.FindingLists.{Listing, none_listed, nothing_listed, equal_listed, both_listed, like}
use Rattle.pc_sound.proofs.Examples.FindingLists.{all_items_listed}

-- ---- flows in labels

-- a flow in which nothing is found
abbrev pub quiet_flow : Tree → Tree → FlowLabel
quiet_flow s t = record { from = s; into = t; code = None }

-- the label of a flow with its types
pub with_types : {bases : Bases} {m : Label} {t : Tree} {code : Option Code}
    → FlowUnless (is_early m.codes) bases m.type t code → FlowAt bases m t
    (record { from = m.type; into = t; code = code })
with_types h = record { from = refl; into = refl; code = h }

-- ---- of each element of a list

pub among_into : {A : Type 0} {P : A → Finding → Type 0} (xs : List A) (each : (x : A) → Listing (P x)) (f : Finding)
    (x : A) → Contains xs x → P x f → Contains (flat_map (λ y. (each y).all) xs) f
among_into [] each f x c h = absurd (none_among x c)
among_into {A} {P} (y ∷ ys) each f x c h = elim (among_first y ys x c) [
  | inl a ↦ Contains-append_left (each y).all (flat_map (λ z. (each z).all) ys) f
      ((each y).into f (subst (λ z. P z f) (sym a) h))
  | inr b ↦ Contains-append_right (each y).all (flat_map (λ z. (each z).all) ys) f (among_into ys each f x b h)
]

-- an element, and what is found of it
pub record OfElement {A : Type 0} (xs : List A) (P : A → Finding → Type 0) (f : Finding) : Type 0 where
  pub element : A
  pub among : Contains xs element
  pub found : P element f

pub among_from : {A : Type 0} {P : A → Finding → Type 0} (xs : List A) (each : (x : A) → Listing (P x)) (f : Finding)
    → Contains (flat_map (λ y. (each y).all) xs) f → OfElement xs P f
among_from [] each f c = absurd (none_among f c)
among_from (y ∷ ys) each f c = elim (Contains-append_cases (each y).all (flat_map (λ z. (each z).all) ys) f c) [
  | inl a ↦ record { element = y; among = first_among y ys; found = (each y).from f a }
  | inr b ↦ let r = among_from ys each f b in record {
    element = r.element;
    among = later_among y ys r.element r.among;
    found = r.found;
  }
]

abbrev pub among_listed : {A : Type 0} {P : A → Finding → Type 0} (xs : List A) → ((x : A) → Listing (P x))
    → Listing (OfElement xs P)
among_listed xs each = record {
  all = flat_map (λ y. (each y).all) xs;
  into = λ f h. among_into xs each f h.element
      h.among h.found;
  from = λ f c. among_from xs each f c;
}

-- the numbers below another one
abbrev pub numbers_behind : ℕ → ℕ → List ℕ
numbers_behind first zero = []
numbers_behind first (suc n) = first ∷ numbers_behind (suc first) n

abbrev pub numbers_below : ℕ → List ℕ
numbers_below n = numbers_behind 0 n

numbered_behind : (first n k : ℕ) → first ≤ k → k < first + n → Contains (numbers_behind first n) k
numbered_behind first zero k above below = absurd (omega (arith, above, below))
numbered_behind first (suc n) k above below = elim (eq-or-lt_of_le above) [
  | inl is ↦ subst (λ x. Contains (first ∷ numbers_behind (suc first) n) x) is
      (first_among first (numbers_behind (suc first) n))
  | inr is ↦ later_among first (numbers_behind (suc first) n) k
      (numbered_behind (suc first) n k (omega (arith, above, is)) (omega (arith, below)))
]

pub numbered : (n k : ℕ) → k < n → Contains (numbers_below n) k
numbered n k below = numbered_behind 0 n k (omega arith) (omega (arith, below))

pub none_of : {A : Type 0} (xs : List A) {x : A} → Contains xs x → has_none xs ≡ true → ⊥
none_of [] {x} c e = none_among x c
none_of (y ∷ ys) c e = true≢false (sym e)

pub front_none : {A : Type 0} (xs ys : List A) → has_none (xs ++ ys) ≡ true → has_none xs ≡ true
front_none [] ys e = refl
front_none (x ∷ xs) ys e = e

pub rest_none : {A : Type 0} (xs ys : List A) → has_none (xs ++ ys) ≡ true → has_none ys ≡ true
rest_none [] ys e = e
rest_none (x ∷ xs) ys e = absurd (true≢false (sym e))

pub no_class : (c : ℕ) (of : ClassDef) → slice_get [] c ≡ Some of → ⊥
no_class c of e = grind (arith, e)

-- ---- names that mean nothing

abbrev pub is_unknown : NameMeaning → Test
is_unknown meaning.None = true
is_unknown _ = false

pub known : (r : NameMeaning) → is_unknown r ≡ false → r ≡ meaning.None → ⊥
known r e is = true≢false (sym (ap is_unknown is) ∙ e)

-- it means nothing, and stands there
abbrev pub IsNothing : Finding → NameMeaning → Finding → Type 0
IsNothing g r f = (r ≡ meaning.None) × (f ≡ g)

abbrev pub nothing_meant : (r : NameMeaning) (g : Finding) → Listing (IsNothing g r)
nothing_meant meaning.None g = like (equal_listed g) (λ f h. (refl, h)) (λ f h. h.1)
nothing_meant (meaning.Local x) g = none_listed (λ f h. known (meaning.Local x) refl h.0)
nothing_meant (meaning.Const i) g = none_listed (λ f h. known (meaning.Const i) refl h.0)
nothing_meant (meaning.Func i) g = none_listed (λ f h. known (meaning.Func i) refl h.0)
nothing_meant (meaning.Class c) g = none_listed (λ f h. known (meaning.Class c) refl h.0)
nothing_meant (meaning.Builtin b) g = none_listed (λ f h. known (meaning.Builtin b) refl h.0)

module _ (m : Module) where
  abbrev pub unknown_in : (owner : Owner) (e : Expr) → Listing (IsUnknownIn m owner e)
  unknown_in owner e = like (among_listed (filter_map name_of_tree (parts_in true e))
      (λ n. nothing_meant (resolve m owner n.text) (finding n.place E02)))
      (λ f h. record { n = h.element; named = h.among; unknown = h.found.0; is = h.found.1 })
      (λ f h. record { element = h.n; among = h.named; found = (h.unknown, h.is) })

  -- a decorator without its header
  abbrev pub IsBare : Test → Finding → Type 0
  IsBare imported f = (imported ≡ false) × OfElement (classes_in m.items) (λ c g. g ≡ finding c.decorator E02) f

  abbrev pub bare_listed : (imported : Test) → Listing (IsBare imported)
  bare_listed true = none_listed (λ f h. true≢false h.0)
  bare_listed false = like (among_listed (classes_in m.items) (λ c. equal_listed (finding c.decorator E02)))
      (λ f h. (refl, h)) (λ f h. h.1)

  abbrev pub UnknownCases : Finding → Type 0
  UnknownCases f =
      OfElement (constants_in m.items) (λ c. IsUnknownIn m owners.Module c.value) f
      ⊎ (OfElement (bodies m) (λ b. OfElement (exprs_in_all true b.function.body) (λ e. IsUnknownIn m b.owner e)) f
      ⊎ IsBare m.imports_dataclass f)

  pub unknown_to : (f : Finding) → UnknownCases f → IsUnknown m f
  unknown_to f (inl h) = scope.in_constant h.element h.among h.found
  unknown_to f (inr (inl h)) = scope.in_body h.element h.found.element h.among h.found.among h.found.found
  unknown_to f (inr (inr h)) = scope.decorator h.1.element h.0 h.1.among h.1.found

  pub unknown_back : (f : Finding) → IsUnknown m f → UnknownCases f
  unknown_back f (scope.in_constant c among h) = inl (record { element = c; among = among; found = h })
  unknown_back f (scope.in_body b e body among h) =
      inr (inl (record { element = b; among = body; found = record { element = e; among = among; found = h } }))
  unknown_back f (scope.decorator c header among is) =
      inr (inr (header, record { element = c; among = among; found = is }))

  abbrev pub unknown_listed : Listing (IsUnknown m)
  unknown_listed = like
      (both_listed (among_listed (constants_in m.items) (λ c. unknown_in owners.Module c.value))
      (both_listed (among_listed (bodies m) (λ b. among_listed (exprs_in_all true b.function.body)
      (λ e. unknown_in b.owner e))) (bare_listed m.imports_dataclass)))
      unknown_to unknown_back

  -- ---- names too early for an initializer

  pub is_within : (k i : ℕ) → nat_le k i ≡ true → k ≤ i
  is_within k i e = grind (arith, nat_tests)

  pub is_past : (k i : ℕ) → nat_le k i ≡ false → k ≤ i → ⊥
  is_past k i e l = grind (arith, nat_tests)

  -- it is early, and stands there
  abbrev pub EarlyMeaningAt : (constants classes : ℕ) → Finding → NameMeaning → Finding → Type 0
  EarlyMeaningAt k c g r f = IsEarlyMeaning k c r × (f ≡ g)

  abbrev pub early_from : (k i : ℕ) (g : Finding) (early : Test) → nat_le k i ≡ early → Listing (λ f. (k ≤ i) × (f ≡ g))
  early_from k i g true e = like (equal_listed g) (λ f h. (is_within k i e, h)) (λ f h. h.1)
  early_from k i g false e = none_listed (λ f h. is_past k i e h.0)

  abbrev pub early_meaning_at : (k c : ℕ) (g : Finding) (r : NameMeaning) → Listing (EarlyMeaningAt k c g r)
  early_meaning_at k c g (meaning.Func i) = like (equal_listed g) (λ f h. (tt, h)) (λ f h. h.1)
  early_meaning_at k c g (meaning.Const i) = early_from k i g (nat_le k i) refl
  early_meaning_at k c g (meaning.Class i) = early_from c i g (nat_le c i) refl
  early_meaning_at k c g (meaning.Local x) = none_listed (λ f h. h.0)
  early_meaning_at k c g (meaning.Builtin b) = none_listed (λ f h. h.0)
  early_meaning_at k c g meaning.None = none_listed (λ f h. h.0)

  abbrev pub early_names : (k c : ℕ) (e : Expr) → Listing (IsEarlyName m k c e)
  early_names k c e = like (among_listed (filter_map name_of_tree (parts_in false e))
      (λ n. early_meaning_at k c (finding n.place E03) (resolve_in_module m n.text)))
      (λ f h. record { n = h.element; named = h.among; early = h.found.0; is = h.found.1 })
      (λ f h. record { element = h.n; among = h.named; found = (h.early, h.is) })

  abbrev pub early_callees : (e : Expr) → Listing (IsEarlyCallee e)
  early_callees e = like (among_listed (filter_map other_callee (parts_in false e)) (λ p. equal_listed (finding p E03)))
      (λ f h. record { place = h.element; callee = h.among; is = h.found })
      (λ f h. record { element = h.place; among = h.callee; found = h.is })

  -- a finding of an early name at an item
  abbrev pub EarlyAt : ℕ → Option Item → Finding → Type 0
  EarlyAt at None f = ⊥
  EarlyAt at (Some (constant_item p c)) f = IsEarlyName m (length (constants_in (take at m.items)))
      (length (classes_in (take at m.items))) c.value f ⊎ IsEarlyCallee c.value f
  EarlyAt at (Some (class_item p c)) f = ⊥
  EarlyAt at (Some (def_item p d)) f = ⊥

  abbrev pub early_at : (at : ℕ) (i : Option Item) → Listing (EarlyAt at i)
  early_at at None = nothing_listed
  early_at at (Some (constant_item p c)) = both_listed (early_names (length (constants_in (take at m.items)))
      (length (classes_in (take at m.items))) c.value) (early_callees c.value)
  early_at at (Some (class_item p c)) = nothing_listed
  early_at at (Some (def_item p d)) = nothing_listed

  pub early_to : (f : Finding) → OfElement (numbers_below (length m.items)) (λ at. EarlyAt at (slice_get m.items at)) f
      → IsEarly m f
  early_to f h = go h.element (slice_get m.items h.element) refl h.found
    where
      go : (at : ℕ) (i : Option Item) → slice_get m.items at ≡ i → EarlyAt at i f → IsEarly m f
      go at None e found = absurd found
      go at (Some (constant_item p c)) e found = record { at = at; first = p; constant = c; item = e; found = found }
      go at (Some (class_item p c)) e found = absurd found
      go at (Some (def_item p d)) e found = absurd found

  pub early_back : (f : Finding) → IsEarly m f → OfElement (numbers_below (length m.items))
      (λ at. EarlyAt at (slice_get m.items at)) f
  early_back f h = record {
    element = h.at;
    among = numbered (length m.items) h.at
        (slice_get_within m.items h.at (constant_item h.first h.constant) h.item);
    found = subst (λ i. EarlyAt h.at i f)
        (sym h.item) h.found;
  }

  abbrev pub early_listed : Listing (IsEarly m)
  early_listed = like (among_listed (numbers_below (length m.items)) (λ at. early_at at (slice_get m.items at)))
      early_to early_back

  -- ---- unreachable statements

  abbrev pub unreachable_listed : Listing (IsUnreachable m)
  unreachable_listed = like (among_listed (bodies m) (λ b. among_listed (unreached_places b.function.body)
      (λ p. equal_listed (finding p E30))))
      (λ f h. record {
        body = h.element;
        of = h.among;
        place = h.found.element;
        first = h.found.among;
        is =
            h.found.found;
      })
      (λ f h. record {
        element = h.body;
        among = h.of;
        found = record {
          element = h.place;
          among = h.first;
          found =
              h.is;
        };
      })

  -- ---- a module that no code stops

  module _ (runs : is_runnable m ≡ true) where
    pub none_stops : (p : Place) (code : Code) → IsStopping m p code → ⊥
    none_stops p E01 c = none_of (twice m) c (front_none (twice m) _ runs)
    none_stops p E05 c = none_of (outside_loop m) c (front_none (outside_loop m) _ (rest_none (twice m) _ runs))
    none_stops p E06 c = none_of (clashing_members m) c (front_none (clashing_members m) _
        (rest_none (outside_loop m) _ (rest_none (twice m) _ runs)))
    none_stops p E28 c = none_of (no_main m) c (front_none (no_main m) _
        (rest_none (clashing_members m) _ (rest_none (outside_loop m) _ (rest_none (twice m) _ runs))))
    none_stops p E29 c = none_of (reserved_bound m) c (front_none (reserved_bound m) _
        (rest_none (no_main m) _ (rest_none (clashing_members m) _
        (rest_none (outside_loop m) _ (rest_none (twice m) _ runs)))))
    none_stops p E31 c = none_of (default_order m) c (rest_none (reserved_bound m) _
        (rest_none (no_main m) _ (rest_none (clashing_members m) _
        (rest_none (outside_loop m) _ (rest_none (twice m) _ runs)))))
    none_stops p _ c = none_among p c

    abbrev pub ScopeCases : Finding → Type 0
    ScopeCases f = IsUnknown m f ⊎ (IsEarly m f ⊎ IsUnreachable m f)

    pub scope_to : (f : Finding) → ScopeCases f → ScopeFinds m f
    scope_to f (inl h) = scope.unknown h
    scope_to f (inr (inl h)) = scope.early h
    scope_to f (inr (inr h)) = scope.unreachable h

    pub scope_back : (f : Finding) → ScopeFinds m f → ScopeCases f
    scope_back f (scope.stopping code stops) = absurd (none_stops f.place f.code stops)
    scope_back f (scope.unknown h) = inl h
    scope_back f (scope.early h) = inr (inl h)
    scope_back f (scope.unreachable h) = inr (inr h)

    abbrev pub scope_listed : Listing (ScopeFinds m)
    scope_listed = like (both_listed unknown_listed (both_listed early_listed unreachable_listed)) scope_to scope_back

    -- no finding of classes is in a module without classes
    pub no_class_finds : classes_in m.items ≡ [] → (f : Finding) → ClassFinds m f → ⊥
    no_class_finds none f (class.base c of is h) = no_class c of (subst (λ cs. slice_get cs c ≡ Some of) none is.is)
    no_class_finds none f (class.member h) = none_stops f.place E06 h.stops
    no_class_finds none f (class.order c of is h) = no_class c of (subst (λ cs. slice_get cs c ≡ Some of) none is.is)
    no_class_finds none f (class.override c of is h) = no_class c of (subst (λ cs. slice_get cs c ≡ Some of) none is.is)

    abbrev pub no_classes_listed : classes_in m.items ≡ [] → Listing (ClassFinds m)
    no_classes_listed none = none_listed (no_class_finds none)

    -- ---- all of a module

    module _ (labels : Labelling m) (classes : Listing (ClassFinds m)) where
      abbrev pub Found : Finding → Type 0
      Found f = ScopeFinds m f ⊎ (ClassFinds m f ⊎ LabelsSay m labels f)

      abbrev pub module_listed : Listing Found
      module_listed = both_listed scope_listed (both_listed classes
          (all_items_listed m (constant_types m m.items labels) nothing_before m.items labels))

      -- a finding under one lawful labelling is a finding of the module
      pub found_of_one : IsLawful m labels → (f : Finding) → Found f → IsFinding m f
      found_of_one lawful f (inl h) = record { labels = labels; lawful = lawful; found = inl h }
      found_of_one lawful f (inr (inl h)) = record { labels = labels; lawful = lawful; found = inr (inl h) }
      found_of_one lawful f (inr (inr h)) = said_is_found m labels lawful f h

      -- and nothing else, since there is no other lawful labelling
      pub found_under_one : IsLawful m labels → (f : Finding) → IsFinding m f → Found f
      found_under_one lawful f h = elim (subst (λ ms. ScopeFinds m f ⊎ (ClassFinds m f ⊎ LabelsFind m ms f))
          (one_labelling m h.labels labels h.lawful lawful) h.found) [
            | inl a ↦ inl a
            | inr b ↦ elim b [ inl c ↦ inr (inl c) | inr d ↦ inr (inr d.said) ]
          ]

      -- the findings of a module with this lawful labelling are just those of the list
      pub finds_just : IsLawful m labels → FindsJust m module_listed.all
      finds_just lawful f = (
        (λ h. module_listed.into f (found_under_one lawful f h)),
        (λ c. found_of_one lawful f (module_listed.from f c)),
      )
