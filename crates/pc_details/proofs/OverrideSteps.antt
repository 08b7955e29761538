-- The first fault among the parameters of two methods, one parameter after another.
use Rattle.std.proofs.Common.{◌≡◌, ◌∙◌, ◌<◌, ◌+◌, ◌⊎◌, inl, inr, ℕ, List, [], ◌∷◌, Bool, true, false, Option, Some, None, refl, ap, ap₂}
use Rattle.std.proofs.Common.{drop, length, get_or, suc, arith}
use Rattle.std.proofs.lemmas.Bool.{cases_lt, false≢true, true≢false}
use Rattle.std.proofs.lemmas.List.{drop_all}
use Rattle.std.specs.Prelude.{is_some, if◌then◌else◌, not, ◌&&◌, bytes_eq, string_bytes}
use Rattle.std.specs.Option.{option_map}
use Rattle.pc_types.specs.Boxed.{tree_of}
use Rattle.pc_types.specs.Tree.{Tree}
use Rattle.pc_types.specs.declared.boxed.BoxType.{BoxType}
use Rattle.pc_class.specs.Facts.{TypedParameter}
use Rattle.pc_class.specs.Tables.{parameter_with, parameters_with}
use Rattle.pc_class.specs.declared.table.Parameter.{Parameter as RustParameter}
use Rattle.pc_detail_texts.specs.Details as detail
use Rattle.pc_detail_texts.specs.Details.{OverrideFault}
use Rattle.pc_detail_texts.specs.Sentences.{Words}
use Rattle.pc_detail_texts.specs.Shown.{override_of_value}
use Rattle.pc_detail_texts.specs.declared.details.OverrideFault.{OverrideFault as RustFault}
use Rattle.pc_detail_rules.specs.Overrides.{fault_or, parameter_fault, shape_fault}
use Rattle.pc_details.specs.OverridesHeld.{parameter_fault_at, shape_fault_at}
use Rattle.pc_detail_facts.proofs.Held.{drop_next}

module _ (shown : OverrideFault Tree → OverrideFault Words) (here rest : Option (OverrideFault Tree)) where
  -- a fault that is found here is the first
  pub found_here : (made : Option RustFault) → is_some made ≡ true
      → option_map override_of_value made ≡ option_map shown here
      → option_map override_of_value made ≡ option_map shown (fault_or here rest)
  found_here None h e = absurd (false≢true h)
  found_here (Some f) h e = go here e
    where
      go : (o : Option (OverrideFault Tree)) → Some (override_of_value f) ≡ option_map shown o
          → Some (override_of_value f) ≡ option_map shown (fault_or o rest)
      go None e = let never : ⊥ = cc in absurd never
      go (Some x) e = e

  -- where none is found here, the first is a later one
  pub none_here : (made : Option RustFault) → is_some made ≡ false
      → option_map override_of_value made ≡ option_map shown here → fault_or here rest ≡ rest
  none_here (Some f) h e = absurd (true≢false h)
  none_here None h e = go here e
    where
      go : (o : Option (OverrideFault Tree)) → None ≡ option_map shown o → fault_or o rest ≡ rest
      go None e = refl
      go (Some x) e = let never : ⊥ = cc in absurd never

shape_step : (a b : Bool) (x y : OverrideFault Tree) (rest : Option (OverrideFault Tree))
    → (if a then Some x else (if b then Some y else rest))
    ≡ fault_or (if a then Some x else (if b then Some y else None)) rest
shape_step true b x y rest = refl
shape_step false true x y rest = refl
shape_step false false x y rest = refl

parameter_step : (a : Bool) (x : OverrideFault Tree) (rest : Option (OverrideFault Tree))
    → (if a then rest else Some x) ≡ fault_or (if a then None else Some x) rest
parameter_step true x rest = refl
parameter_step false x rest = refl

module _ (ps qs : List (RustParameter BoxType)) (i : ℕ) (p q : RustParameter BoxType) (h : i < length ps)
    (g : i < length qs) (e : p ≡ get_or ps i p) (f : q ≡ get_or qs i q) where
  next : suc (i + 1) ≡ i + 1 + 1
  next = omega arith

  -- the shapes from this position on
  pub shapes_next : shape_fault (i + 1) (parameters_with tree_of (drop i ps)) (parameters_with tree_of (drop i qs))
      ≡ fault_or (shape_fault_at (i + 1) (parameter_with tree_of p) (parameter_with tree_of q))
      (shape_fault (i + 1 + 1) (parameters_with tree_of (drop (i + 1) ps)) (parameters_with tree_of (drop (i + 1) qs)))
  shapes_next = ap₂ (λ (l m : List (RustParameter BoxType)). shape_fault (i + 1) (parameters_with tree_of l)
      (parameters_with tree_of m)) (drop_next ps i p h e) (drop_next qs i q g f)
      ∙ shape_step (not (bytes_eq (string_bytes p.name) (string_bytes q.name))) (p.has_default && not q.has_default)
      (detail.other_name (i + 1) (string_bytes p.name) (string_bytes q.name)) (detail.no_default (string_bytes p.name))
      (shape_fault (suc (i + 1)) (parameters_with tree_of (drop (i + 1) ps)) (parameters_with tree_of (drop (i + 1) qs)))
      ∙ ap (λ k. fault_or (shape_fault_at (i + 1) (parameter_with tree_of p) (parameter_with tree_of q))
      (shape_fault k (parameters_with tree_of (drop (i + 1) ps)) (parameters_with tree_of (drop (i + 1) qs)))) next

  -- the types from this position on
  pub types_next : (fits : Tree → Tree → Bool) → parameter_fault fits (parameters_with tree_of (drop i ps))
      (parameters_with tree_of (drop i qs))
      ≡ fault_or (parameter_fault_at fits (parameter_with tree_of p) (parameter_with tree_of q))
      (parameter_fault fits (parameters_with tree_of (drop (i + 1) ps)) (parameters_with tree_of (drop (i + 1) qs)))
  types_next fits = ap₂ (λ (l m : List (RustParameter BoxType)). parameter_fault fits (parameters_with tree_of l)
      (parameters_with tree_of m)) (drop_next ps i p h e) (drop_next qs i q g f) ∙ parameter_step (fits (tree_of p.ty) (tree_of q.ty))
      (detail.other_parameter (string_bytes q.name) (tree_of p.ty) (tree_of q.ty))
      (parameter_fault fits (parameters_with tree_of (drop (i + 1) ps)) (parameters_with tree_of (drop (i + 1) qs)))

-- ---- the end

shapes_none : (k : ℕ) (ps qs : List TypedParameter) → (ps ≡ []) ⊎ (qs ≡ [])
    → ◌≡◌ {A = Option (OverrideFault Tree)} None (shape_fault k ps qs)
shapes_none k [] qs h = refl
shapes_none k (p ∷ ps) [] h = refl
shapes_none k (p ∷ ps) (q ∷ qs) (inl e) = let never : ⊥ = cc in absurd never
shapes_none k (p ∷ ps) (q ∷ qs) (inr e) = let never : ⊥ = cc in absurd never

types_none : (fits : Tree → Tree → Bool) (ps qs : List TypedParameter) → (ps ≡ []) ⊎ (qs ≡ [])
    → ◌≡◌ {A = Option (OverrideFault Tree)} None (parameter_fault fits ps qs)
types_none fits [] qs h = refl
types_none fits (p ∷ ps) [] h = refl
types_none fits (p ∷ ps) (q ∷ qs) (inl e) = let never : ⊥ = cc in absurd never
types_none fits (p ∷ ps) (q ∷ qs) (inr e) = let never : ⊥ = cc in absurd never

-- nothing is left of one of two lists
left_none : (ps qs : List (RustParameter BoxType)) (i : ℕ) → (i < length ps → i < length qs → ⊥)
    → (parameters_with tree_of (drop i ps) ≡ []) ⊎ (parameters_with tree_of (drop i qs) ≡ [])
left_none ps qs i h = elim (cases_lt i (length ps)) [
  | inl less ↦ inr (ap (parameters_with tree_of) (drop_all i qs (elim (cases_lt i (length qs)) [
    | inl within ↦ absurd (h less within)
    | inr past ↦ past
  ])))
  | inr past ↦ inl (ap (parameters_with tree_of) (drop_all i ps past))
]

pub shapes_ended : (k : ℕ) (ps qs : List (RustParameter BoxType)) (i : ℕ) → (i < length ps → i < length qs → ⊥)
    → ◌≡◌ {A = Option (OverrideFault Tree)} None
    (shape_fault k (parameters_with tree_of (drop i ps)) (parameters_with tree_of (drop i qs)))
shapes_ended k ps qs i h = shapes_none k _ _ (left_none ps qs i h)

pub types_ended : (fits : Tree → Tree → Bool) (ps qs : List (RustParameter BoxType)) (i : ℕ)
    → (i < length ps → i < length qs → ⊥) → ◌≡◌ {A = Option (OverrideFault Tree)} None
    (parameter_fault fits (parameters_with tree_of (drop i ps)) (parameters_with tree_of (drop i qs)))
types_ended fits ps qs i h = types_none fits _ _ (left_none ps qs i h)
