-- The demands of a method that another satisfies at each part; to satisfy all of them is to override the method.
use Rattle.std.proofs.Common.{◌≡◌, ◌==◌, ◌<◌, ◌≤◌, ◌⊎◌, ◌+◌, ℕ, zero, suc, List, [], ◌∷◌, length, get_or, refl, sym, ap}
use Rattle.std.proofs.Common.{◌∙◌, subst, inl, inr, arith}
use Rattle.std.specs.Prelude.{Bool, true, false, ◌&&◌, ◌||◌, not, IsTrue, Some, slice_get, bytes_eq}
use Rattle.std.specs.List.{list_all}
use Rattle.std.specs.Option.{option_map}
use Rattle.std.proofs.lemmas.Bool.{and_parts, and_from, false≢true, eqb-true, eq-eqb, cases_lt}
use Rattle.std.proofs.lemmas.List.{length-map}
use Rattle.std.proofs.lemmas.Option.{slice_get-map, slice_get_read}
use Rattle.pc_types.specs.Tree.{Tree}
use Rattle.pc_types.specs.Below.{Bases}
use Rattle.pc_types.proofs.Truth.{same_test}
use Rattle.pc_class.specs.declared.table.Method.{Method as RustMethod}
use Rattle.pc_class.specs.declared.table.Parameter.{Parameter as RustParameter}
use Rattle.pc_class.specs.Facts.{TypedParameter, Method}
use Rattle.pc_class.specs.Overrides.{has_shape_of, TypeFlow, parameter_flows, override_flows}
use Rattle.pc_class.specs.Tables.{parameter_with, parameters_with, method_with}
use Rattle.pc_overrides.specs.declared.overriding.Relation.{Relation}
use Rattle.pc_overrides.specs.Internal.OverrideTests.{flow_fits, overrides_by, parameter_suits, parameter_meets}
use Rattle.pc_overrides.specs.Internal.OverrideTests.{part_meets, meets}
use Rattle.pc_overrides.specs.Internal.Representing.{TypeSubsumes, ParameterSubsumes, PartSubsumes}

-- ---- two parameters

module _ (relation : Relation) (bases : Bases) where
  abbrev flow : TypedParameter → TypedParameter → TypeFlow
  flow p q = record { from = p.type; into = q.type }

  -- lists in shape are of one length
  pub one_length : (ps qs : List TypedParameter) → IsTrue (has_shape_of ps qs) → length ps ≡ length qs
  one_length [] [] h = refl
  one_length [] (q ∷ qs) h = absurd (false≢true h)
  one_length (p ∷ ps) [] h = absurd (false≢true h)
  one_length (p ∷ ps) (q ∷ qs) h =
      let rest = (and_parts (bytes_eq p.name q.name) ((not p.has_default || q.has_default) && has_shape_of ps qs)
      h).1 in
      ap suc (one_length ps qs (and_parts (not p.has_default || q.has_default) (has_shape_of ps qs) rest).1)

  -- each parameter meets its own where they are in shape and flow
  met_at : (ps qs : List TypedParameter) → IsTrue (has_shape_of ps qs)
      → IsTrue (list_all (flow_fits relation bases) (parameter_flows ps qs)) → (k : ℕ)
      → IsTrue (parameter_meets relation bases (slice_get qs k) (slice_get ps k))
  met_at [] [] h f k = refl
  met_at [] (q ∷ qs) h f k = absurd (false≢true h)
  met_at (p ∷ ps) [] h f k = absurd (false≢true h)
  met_at (p ∷ ps) (q ∷ qs) h f zero =
      let named = and_parts (bytes_eq p.name q.name) ((not p.has_default || q.has_default) && has_shape_of ps qs) h in
      let rest = and_parts (not p.has_default || q.has_default) (has_shape_of ps qs) named.1 in
      let flows = and_parts (flow_fits relation bases (flow p q)) (list_all (flow_fits relation bases)
      (parameter_flows ps qs)) f in
      and_from (parameter_suits p q) (flow_fits relation bases (flow p q))
      (and_from (bytes_eq p.name q.name) (not p.has_default || q.has_default) named.0 rest.0) flows.0
  met_at (p ∷ ps) (q ∷ qs) h f (suc k) =
      let named = and_parts (bytes_eq p.name q.name) ((not p.has_default || q.has_default) && has_shape_of ps qs) h in
      let rest = and_parts (not p.has_default || q.has_default) (has_shape_of ps qs) named.1 in
      let flows = and_parts (flow_fits relation bases (flow p q)) (list_all (flow_fits relation bases)
      (parameter_flows ps qs)) f in
      met_at ps qs rest.1 flows.1 k

  -- they are in shape and flow where each meets its own
  all_met : (ps qs : List TypedParameter) → length ps ≡ length qs
      → ((k : ℕ) → k < length ps → IsTrue (parameter_meets relation bases (slice_get qs k) (slice_get ps k)))
      → IsTrue (has_shape_of ps qs) × IsTrue (list_all (flow_fits relation bases) (parameter_flows ps qs))
  all_met [] [] e each = (refl, refl)
  all_met [] (q ∷ qs) e each = absurd (omega (arith, e))
  all_met (p ∷ ps) [] e each = absurd (omega (arith, e))
  all_met (p ∷ ps) (q ∷ qs) e each =
      let here = and_parts (parameter_suits p q) (flow_fits relation bases (flow p q)) (each 0 (omega arith)) in
      let suits = and_parts (bytes_eq p.name q.name) (not p.has_default || q.has_default) here.0 in
      let rest = all_met ps qs (omega (arith, e)) (λ k l. each (suc k) (omega arith)) in (
        and_from (bytes_eq p.name q.name) ((not p.has_default || q.has_default) && has_shape_of ps qs) suits.0
            (and_from (not p.has_default || q.has_default) (has_shape_of ps qs) suits.1 rest.0),
        and_from (flow_fits relation bases (flow p q)) (list_all (flow_fits relation bases) (parameter_flows ps qs))
            here.1 rest.1,
      )

  -- ---- two methods

  module _ (new old : Method) where
    -- whether a method meets what another asks at the first so many of its parts
    abbrev pub meets_first : ℕ → Bool
    meets_first zero = true
    meets_first (suc n) = meets_first n && meets relation bases new old n

    first_at : (n k : ℕ) → k < n → IsTrue (meets_first n) → IsTrue (meets relation bases new old k)
    first_at zero k l h = absurd (omega arith)
    first_at (suc n) k l h =
        let both = and_parts (meets_first n) (meets relation bases new old n) h in
        elim (cases_lt k n) [
          | inl less ↦ first_at n k less both.0
          | inr past ↦ subst (λ j. IsTrue (meets relation bases new old j)) (let e : n ≡ k = omega arith in e) both.1
        ]

    first_all : (n : ℕ) → ((k : ℕ) → k < n → IsTrue (meets relation bases new old k)) → IsTrue (meets_first n)
    first_all zero each = refl
    first_all (suc n) each = and_from (meets_first n) (meets relation bases new old n)
        (first_all n (λ k l. each k (omega arith))) (each n (omega arith))

    abbrev as_many : Bool
    as_many = length old.parameters == length new.parameters

    abbrev returned : TypeFlow
    returned = record { from = new.returns; into = old.returns }

    whole : IsTrue (meets_first (suc (length old.parameters))) → IsTrue (overrides_by relation bases new old)
    whole h =
        let count = suc (length old.parameters) in
        let at : (k : ℕ) → k < count → IsTrue as_many × IsTrue (part_meets relation bases new old k) =
        λ k l. and_parts as_many (part_meets relation bases new old k) (first_at count k l h) in
        let first = at 0 (omega arith) in
        let params = all_met old.parameters new.parameters
        (eqb-true (length old.parameters) (length new.parameters) first.0)
        (λ k l. (at (suc k) (omega arith)).1) in
        and_from (has_shape_of old.parameters new.parameters) (list_all (flow_fits relation bases)
        (override_flows old new)) params.0 (and_from (flow_fits relation bases returned)
        (list_all (flow_fits relation bases) (parameter_flows old.parameters new.parameters)) first.1 params.1)

    parts : IsTrue (overrides_by relation bases new old) → IsTrue (meets_first (suc (length old.parameters)))
    parts h =
        let both = and_parts (has_shape_of old.parameters new.parameters) (list_all (flow_fits relation bases)
        (override_flows old new)) h in
        let flows = and_parts (flow_fits relation bases returned) (list_all (flow_fits relation bases)
        (parameter_flows old.parameters new.parameters)) both.1 in
        let many = eq-eqb (length old.parameters) (length new.parameters)
        (one_length old.parameters new.parameters both.0) in
        let at : (k : ℕ) → IsTrue (part_meets relation bases new old k) = λ k. go flows.0 both.0 flows.1 k in
        first_all (suc (length old.parameters)) (λ k l. and_from as_many (part_meets relation bases new old k) many
        (at k))
      where
        go : IsTrue (flow_fits relation bases returned) → IsTrue (has_shape_of old.parameters new.parameters)
            → IsTrue (list_all (flow_fits relation bases) (parameter_flows old.parameters new.parameters)) → (k : ℕ)
            → IsTrue (part_meets relation bases new old k)
        go r s f zero = r
        go r s f (suc k) = met_at old.parameters new.parameters s f k

    -- meeting what it asks at all of its parts is overriding it
    pub all_parts : meets_first (suc (length old.parameters)) ≡ overrides_by relation bases new old
    all_parts = same_test (meets_first (suc (length old.parameters))) (overrides_by relation bases new old)
        (whole, parts) (λ h. h, λ h. h)

    -- a part that is not met, among the first so many
    pub one_unmet : (n k : ℕ) → k < n → meets relation bases new old k ≡ false → meets_first n ≡ false
    one_unmet zero k l e = absurd (omega arith)
    one_unmet (suc n) k l e = go (meets_first n) (meets relation bases new old n)
        (elim (cases_lt k n) [
          | inl less ↦ inl (one_unmet n k less e)
          | inr past ↦ inr (subst (λ j. meets relation bases new old j ≡ false) (let f : k ≡ n = omega arith in f) e)
        ])
      where
        go : (a b : Bool) → (a ≡ false) ⊎ (b ≡ false) → (a && b) ≡ false
        go false b h = refl
        go true b (inr f) = f
        go true b (inl f) = absurd (false≢true (sym f))

    -- one part more
    pub one_part_more : (n : ℕ) → meets_first (n + 1) ≡ (meets_first n && meets relation bases new old n)
    one_part_more n = ap meets_first (let e : n + 1 ≡ suc n = omega arith in e)

-- ---- methods of the program

module _ {Ty : Type 0} (tree : Ty → Tree) where
  there : (xs : List (RustParameter Ty)) (k : ℕ) (x : RustParameter Ty) → k < length xs → x ≡ get_or xs k x
      → slice_get (parameters_with tree xs) k ≡ Some (parameter_with tree x)
  there xs k x less is = slice_get-map (parameter_with tree) xs k
      ∙ ap (option_map (parameter_with tree)) (slice_get_read xs (length xs) k x refl less is)

  -- where the type of a parameter subsumes that of another, the methods do so at their part
  pub subsumes_there : (new old : RustMethod Ty) (number : ℕ) (x y : RustParameter Ty) → number < length old.params
      → number < length new.params → x ≡ get_or old.params number x → y ≡ get_or new.params number y
      → TypeSubsumes (tree y.ty) (tree x.ty) → PartSubsumes (method_with tree new) (method_with tree old) (suc number)
  subsumes_there new old number x y less less_new f g s =
      subst (λ o. ParameterSubsumes o (slice_get (parameters_with tree old.params) number))
      (sym (there new.params number y less_new g))
      (subst (ParameterSubsumes (Some (parameter_with tree y))) (sym (there old.params number x less f)) s)

  module _ (relation : Relation) (bases : Bases) (new : Method) (old : RustMethod Ty) where
    -- meeting what it asks at as many parts as it has is overriding it
    pub all_given : (n : ℕ) → length old.params + 1 ≤ n → n ≤ length old.params + 1
        → meets_first relation bases new (method_with tree old) n
        ≡ overrides_by relation bases new (method_with tree old)
    all_given n past within =
        let many = length-map old.params (parameter_with tree) in
        ap (meets_first relation bases new (method_with tree old))
        (let e : n ≡ suc (length (parameters_with tree old.params)) = omega (arith, many) in e)
        ∙ all_parts relation bases new (method_with tree old)

    -- a part that is not met is none of its parts
    pub not_given : (k : ℕ) → k < length old.params + 1
        → meets relation bases new (method_with tree old) k ≡ false
        → overrides_by relation bases new (method_with tree old) ≡ false
    not_given k less e =
        let many = length-map old.params (parameter_with tree) in
        let count = suc (length (parameters_with tree old.params)) in
        sym (all_parts relation bases new (method_with tree old))
        ∙ one_unmet relation bases new (method_with tree old) count k
        (let l : k < count = omega (arith, many) in l) e

  module _ (relation : Relation) (bases : Bases) (new old : RustMethod Ty) where
    -- where the numbers of parameters agree, what is met at a part is told by the part alone
    pub by_part : (part : ℕ) → length old.params ≡ length new.params
        → part_meets relation bases (method_with tree new) (method_with tree old) part
        ≡ meets relation bases (method_with tree new) (method_with tree old) part
    by_part part e = ap (λ b. b && part_meets relation bases (method_with tree new) (method_with tree old) part)
        (sym (eq-eqb (length (parameters_with tree old.params)) (length (parameters_with tree new.params))
        (length-map old.params (parameter_with tree) ∙ e ∙ sym (length-map new.params (parameter_with tree)))))

    -- a parameter that both methods have meets the demand there as the rules say
    pub meets_there : (number : ℕ) (x y : RustParameter Ty) → length old.params ≡ length new.params
        → number < length old.params → x ≡ get_or old.params number x → y ≡ get_or new.params number y
        → (parameter_suits (parameter_with tree x) (parameter_with tree y)
        && flow_fits relation bases (record { from = tree x.ty; into = tree y.ty }))
        ≡ meets relation bases (method_with tree new) (method_with tree old) (suc number)
    meets_there number x y e less f g =
        sym (ap (λ o. parameter_meets relation bases o (slice_get (parameters_with tree old.params) number))
        (there new.params number y (omega arith) g)
        ∙ ap (λ o. parameter_meets relation bases (Some (parameter_with tree y)) o) (there old.params number x less f))
        ∙ by_part (suc number) e
