-- Locals with types in boxes that are well-formed: one more of them, and what declares them; how many there are.
use Rattle.std.proofs.Common.{◌≡◌, ℕ, zero, suc, List, [], ◌∷◌, Option, Some, None, length, refl, ap, sym, subst, arith}
use Rattle.std.specs.Prelude.{slice_set}
use Rattle.pc_types.specs.Below.{Bases}
use Rattle.pc_types.specs.Boxed.{IsGiven, tree_of}
use Rattle.pc_types.specs.WellFormed.{IsWellFormed}
use Rattle.pc_types.specs.declared.boxed.BoxType.{BoxType}
use Rattle.pc_flow.specs.Agreement.{TakesInOutside}
use Rattle.pc_flow.specs.Stored.{HasEach, env_of, declared_of}
use Rattle.pc_flow.specs.WellFormed.{IsWellFormedEnv, AreWellFormed}
use Rattle.pc_flow.proofs.Assigned.{set_given, set_well_formed}

-- there are as many locals after one of them is given another type
pub set_length : (types : List (Option BoxType)) (x : ℕ) (o : Option BoxType)
    → length (slice_set types x o) ≡ length types
set_length [] x o = refl
set_length (t ∷ ts) zero o = refl
set_length (t ∷ ts) (suc x) o = ap suc (set_length ts x o)

module _ (bases : Bases) where
  -- the type of each local that has one is of its store, and well-formed
  abbrev pub AreHeld : List (Option BoxType) → Type 0
  AreHeld types = HasEach IsGiven types × IsWellFormedEnv bases (env_of tree_of types)

  -- one more local that has such a type
  pub set_held : (types now : List (Option BoxType)) (x : ℕ) (ty : BoxType) → IsGiven ty
      → IsWellFormed bases (tree_of ty) → AreHeld types → now ≡ slice_set types x (Some ty) → AreHeld now
  set_held types now x ty g w h e = subst AreHeld (sym e)
      (set_given IsGiven types x ty g h.0, set_well_formed tree_of bases types x ty w h.1)

  -- declared types are well-formed where those that are known are, since the others count as Any
  pub declared_well_formed : (types : List (Option BoxType)) → IsWellFormedEnv bases (env_of tree_of types)
      → AreWellFormed bases (declared_of tree_of types)
  declared_well_formed [] h = tt
  declared_well_formed (None ∷ os) h = ((tt, tt, omega arith), declared_well_formed os h.1)
  declared_well_formed (Some t ∷ os) h = (h.0, declared_well_formed os h.1)

  -- where there are three locals, all others are taken in
  pub all_taken_in : (a b : List (Option BoxType)) → length a ≡ 3
      → TakesInOutside bases (0 ∷ 1 ∷ 2 ∷ []) (env_of tree_of a) (env_of tree_of b)
  all_taken_in a b n zero h = cc
  all_taken_in a b n (suc zero) h = cc
  all_taken_in a b n (suc (suc zero)) h = cc
  all_taken_in [] b n (suc (suc (suc x))) h = tt
  all_taken_in (p ∷ []) b n (suc (suc (suc x))) h = tt
  all_taken_in (p ∷ q ∷ []) b n (suc (suc (suc x))) h = tt
  all_taken_in (p ∷ q ∷ r ∷ []) b n (suc (suc (suc x))) h = tt
  all_taken_in (p ∷ q ∷ r ∷ s ∷ a) b n (suc (suc (suc x))) h = absurd (grind arith)
