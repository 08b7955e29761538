-- The declared type of a bound name: with the type in a table of declared types, if any, lawful labels declare the
-- known type.
use Rattle.std.proofs.Common.{◌≡◌, ℕ, List, refl, sym, ap, ◌∙◌}
use Rattle.std.specs.Prelude.{Bool as Test, true, false, not, Option, Some, None, unwrap_or}
use Rattle.pc_tree.specs.Tree.{Module}
use Rattle.pc_types.specs.Tree.{Tree}
use Rattle.pc_types.specs.Below.{Bases}
use Rattle.pc_flow.specs.Environment.{declared_type}
use Rattle.pc_flow.specs.WellFormed.{IsWellFormedIfAny}
use Rattle.pc_rules.specs.Context.{Context}
use Rattle.pc_module_rules.specs.Statements.{DeclaredAt, known_type}
use Rattle.pc_module_rules.specs.Computed.Statements.{known_declared}

-- the declared type known for a bound name is well-formed
pub known_well_formed : (bases : Bases) (o a : Option Tree) → IsWellFormedIfAny bases o → IsWellFormedIfAny bases a
    → IsWellFormedIfAny bases (known_declared o a)
known_well_formed bases None a h k = k
known_well_formed bases (Some d) a h k = h

-- a local of a name, with the type that the table has for it, if any
module _ (m : Module) (ctx : Context) (declared : List Tree) (x : ℕ) (o : Option Tree) (b : Test)
    (bound : b ≡ true → o ≡ Some (declared_type declared x)) (unbound : b ≡ false → o ≡ None) where
  pub declared_is : (from : Tree) (b' : Test) → b' ≡ b → DeclaredAt m ctx declared (not b') x None from
      → unwrap_or o from ≡ declared_type declared x
  declared_is from true e d = ap (λ p. unwrap_or p from) (bound (sym e))
  declared_is from false e d = ap (λ p. unwrap_or p from) (unbound (sym e)) ∙ sym d

  pub want_is : (b' : Test) → b' ≡ b → (a a' : Option Tree) → (not b' ≡ true → a ≡ a') → (from : Tree)
      → DeclaredAt m ctx declared (not b') x a from → known_type m ctx declared (not b') x a ≡ known_declared o a'
  want_is true e a a' s from d = ap (λ p. known_declared p a') (sym (bound (sym e)))
  want_is false e None a' s from d = λ i. known_declared (sym (unbound (sym e)) i) (s refl i)
  want_is false e (Some t) a' s from d = ap Some d ∙ (λ i. known_declared (sym (unbound (sym e)) i) (s refl i))

  pub type_is : (b' : Test) → (a : Option Tree) (from : Tree) → DeclaredAt m ctx declared (not b') x a from
      → unwrap_or (known_type m ctx declared (not b') x a) from ≡ declared_type declared x
  type_is true a from d = refl
  type_is false None from d = sym d
  type_is false (Some t) from d = refl
