-- The computed flows of a labelled expression are lawful, and their types are well-formed.
use Rattle.std.proofs.Common.{◌≡◌, ◌↔◌, Bool as Test, true, false, List, [], ◌∷◌, refl, sym, ◌∙◌}
use Rattle.std.proofs.lemmas.Bool.{false≢true}
use Rattle.std.specs.Prelude.{IsTrue}
use Rattle.pc_types.specs.Tree.{Tree}
use Rattle.pc_types.specs.Below.{Bases, AreSmaller, Static}
use Rattle.pc_types.specs.Assignable.{Assignable}
use Rattle.pc_types.specs.Normal.{IsNormal}
use Rattle.pc_types.specs.WellFormed.{IsWellFormed}
use Rattle.pc_types.specs.Computed.{static_test, assignable_test}
use Rattle.pc_types.proofs.DecidedSubtyping.{static_decided, assignable_decided}
use Rattle.pc_flow.specs.WellFormed.{AreWellFormed}
use Rattle.pc_rules.specs.Operations.{Label}
use Rattle.pc_rules.specs.Context.{Flows, static as is_static, dynamic as is_dynamic, wrong as is_wrong, FlowUnless}
use Rattle.pc_rules.specs.Context.{FlowsInto, is_early}
use Rattle.pc_rules.specs.Laws.WellFormed.{FlowsWellFormed}
use Rattle.pc_rules.specs.Computed.Expressions.{code_by, code_unless, flows_into, flows_of}

-- tests of types in normal form: whether one is static to another, and whether it is assignable
pub record AreTests (bases : Bases) (static assignable : Tree → Tree → Test) : Type 0 where
  pub of_static : (s t : Tree) → IsNormal s → IsNormal t → IsTrue (static s t) ↔ Static bases s t
  pub of_assignable : (s t : Tree) → IsNormal s → IsNormal t → IsTrue (assignable s t) ↔ Assignable bases s t

module _ (bases : Bases) (static assignable : Tree → Tree → Test) (tests : AreTests bases static assignable) where
  code_is : (s t : Tree) → IsWellFormed bases s → IsWellFormed bases t → (x y : Test) → static s t ≡ x
      → assignable s t ≡ y → Flows bases s t (code_by x y)
  code_is s t h k true y e f = is_static ((tests.of_static s t h.0 k.0).0 e)
  code_is s t h k false true e f = is_dynamic (λ q. false≢true (sym e ∙ (tests.of_static s t h.0 k.0).1 q))
      ((tests.of_assignable s t h.0 k.0).0 f)
  code_is s t h k false false e f = is_wrong (λ q. false≢true (sym f ∙ (tests.of_assignable s t h.0 k.0).1 q))

  unless_is : (early : Test) (s t : Tree) → IsWellFormed bases s → IsWellFormed bases t
      → FlowUnless early bases s t (code_unless static assignable early s t)
  unless_is true s t h k = refl
  unless_is false s t h k = code_is s t h k (static s t) (assignable s t) refl refl

  pub into_is : (m : Label) (ts : List Tree) → IsWellFormed bases m.type → AreWellFormed bases ts
      → FlowsInto bases m ts (flows_into static assignable m ts)
  into_is m [] h k = tt
  into_is m (t ∷ ts) h k = (
    record { from = refl; into = refl; code = unless_is (is_early m.codes) m.type t h k.0 },
    into_is m ts h k.1,
  )

  pub flows_well_formed : (m : Label) (ts : List Tree) → IsWellFormed bases m.type → AreWellFormed bases ts
      → FlowsWellFormed bases (flows_into static assignable m ts)
  flows_well_formed m [] h k = tt
  flows_well_formed m (t ∷ ts) h k = ((h, k.0), flows_well_formed m ts h k.1)

-- the tests of subtyping are such
pub are_tests : (bases : Bases) → AreSmaller bases → AreTests bases (static_test bases) (assignable_test bases)
are_tests bases o = record {
  of_static = λ s t n m. static_decided bases s t o n m;
  of_assignable =
      λ s t n m. assignable_decided bases s t o n m;
}

-- the computed flows of a labelled expression are lawful
pub flows_are_lawful : (bases : Bases) (m : Label) (ts : List Tree) → AreSmaller bases → IsWellFormed bases m.type
    → AreWellFormed bases ts → FlowsInto bases m ts (flows_of bases m ts)
flows_are_lawful bases m ts o h k = into_is bases (static_test bases) (assignable_test bases) (are_tests bases o) m ts h
    k
