-- The demand of a method at a part implies that of another if it satisfies that one statically and subsumes its type.
use Rattle.std.proofs.Common.{◌==◌, ℕ, zero, suc, List, [], ◌∷◌, length, refl, ◌∙◌}
use Rattle.std.specs.Prelude.{Bool, true, false, ◌||◌, not, IsTrue, Option, Some, None, slice_get, bytes_eq}
use Rattle.std.proofs.lemmas.Bool.{and_parts, and_from, false≢true, eqb-true, eq-eqb}
use Rattle.std.proofs.lemmas.Slice.Eq.{bytes_eq-Decides}
use Rattle.pc_types.specs.Below.{Bases, AreSmaller}
use Rattle.pc_types.specs.Normal.{IsNormal}
use Rattle.pc_class.specs.Facts.{TypedParameter, Method}
use Rattle.pc_class.specs.WellFormed.{ParametersWellFormed, MethodWellFormed}
use Rattle.pc_overrides.specs.declared.overriding.Relation.{Relation}
use Rattle.pc_overrides.specs.declared.overriding.Relation.TheVariants as relations
use Rattle.pc_overrides.specs.Internal.OverrideTests.{flow_fits, parameter_suits, parameter_meets, part_meets, meets}
use Rattle.pc_overrides.specs.Internal.Representing.{ParameterSubsumes, PartSubsumes, Implies}
use Rattle.pc_overrides.proofs.SubsumedTypes.{flows_from, flows_into}

default_through : (p q r : Bool) → IsTrue (not p || q) → IsTrue (not q || r) → IsTrue (not p || r)
default_through false q r a b = refl
default_through true true r a b = b
default_through true false r a b = absurd (false≢true a)

suits_through : (p q r : TypedParameter) → IsTrue (parameter_suits p q) → IsTrue (parameter_suits q r)
    → IsTrue (parameter_suits p r)
suits_through p q r a b =
    let first = and_parts (bytes_eq p.name q.name) (not p.has_default || q.has_default) a in
    let second = and_parts (bytes_eq q.name r.name) (not q.has_default || r.has_default) b in
    let named = (bytes_eq-Decides p.name q.name).0 first.0 ∙ (bytes_eq-Decides q.name r.name).0 second.0 in
    and_from (bytes_eq p.name r.name) (not p.has_default || r.has_default)
    ((bytes_eq-Decides p.name r.name).1 named)
    (default_through p.has_default q.has_default r.has_default first.1 second.1)

many_through : (a b c : ℕ) → IsTrue (a == b) → IsTrue (b == c) → IsTrue (a == c)
many_through a b c e f = eq-eqb a c (eqb-true a b e ∙ eqb-true b c f)

-- the type of a parameter is in normal form, if it is there
abbrev IsNormalThere : Option TypedParameter → Type 0
IsNormalThere None = Unit {0}
IsNormalThere (Some p) = IsNormal p.type

normal_there : (bases : Bases) (ps : List TypedParameter) → ParametersWellFormed bases ps → (k : ℕ)
    → IsNormalThere (slice_get ps k)
normal_there bases [] h k = tt
normal_there bases (p ∷ ps) h zero = h.0.0
normal_there bases (p ∷ ps) h (suc k) = normal_there bases ps h.1 k

module _ (bases : Bases) (o : AreSmaller bases) where
  parameter_stands : (relation : Relation) (z new old : Option TypedParameter) → IsNormalThere z → IsNormalThere new
      → IsNormalThere old → IsTrue (parameter_meets relations.Static bases new old) → ParameterSubsumes new old
      → IsTrue (parameter_meets relation bases z new) → IsTrue (parameter_meets relation bases z old)
  parameter_stands relation None new old n m l e s h = refl
  parameter_stands relation (Some z) None old n m l e s h = absurd s
  parameter_stands relation (Some z) (Some new) None n m l e s h = absurd s
  parameter_stands relation (Some z) (Some new) (Some old) n m l e s h =
      let first = and_parts (parameter_suits old new) (flow_fits relations.Static bases (record {
        from = old.type;
        into = new.type;
      })) e in
      let second = and_parts (parameter_suits new z) (flow_fits relation bases (record {
        from = new.type;
        into = z.type;
      })) h in
      and_from (parameter_suits old z) (flow_fits relation bases (record { from = old.type; into = z.type }))
      (suits_through old new z first.0 second.0)
      (flows_into bases o z.type new.type old.type n m l relation s first.1 second.1)

  module _ (new old : Method) (k : MethodWellFormed bases new) (h : MethodWellFormed bases old) where
    part_stands : (relation : Relation) (z : Method) → MethodWellFormed bases z → (part : ℕ)
        → IsTrue (part_meets relations.Static bases new old part) → PartSubsumes new old part
        → IsTrue (part_meets relation bases z new part) → IsTrue (part_meets relation bases z old part)
    part_stands relation z w zero e s f =
        flows_from bases o z.returns new.returns old.returns w.returns.0 k.returns.0 h.returns.0 relation s e f
    part_stands relation z w (suc n) e s f =
        parameter_stands relation (slice_get z.parameters n) (slice_get new.parameters n) (slice_get old.parameters n)
        (normal_there bases z.parameters w.parameters n) (normal_there bases new.parameters k.parameters n)
        (normal_there bases old.parameters h.parameters n) e s f

    -- the demand of a method at a part that meets another's statically, and subsumes its type, implies the other's
    pub implied : (part : ℕ) → IsTrue (meets relations.Static bases new old part) → PartSubsumes new old part
        → Implies bases new old part
    implied part e s relation z w f =
        let count : Method → ℕ = λ x. length x.parameters in
        let first = and_parts (count old == count new) (part_meets relations.Static bases new old part) e in
        let second = and_parts (count new == count z) (part_meets relation bases z new part) f in
        and_from (count old == count z) (part_meets relation bases z old part)
        (many_through (count old) (count new) (count z) first.0 second.0)
        (part_stands relation z w part first.1 s second.1)
