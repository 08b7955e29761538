-- Names as values: locals and constants of the program's types.
use Rattle.std.proofs.Common.{◌≡◌, ◌∙◌, ◌<◌, ◌≤◌, ℕ, List, [], ◌∷◌, zero, suc, Option, Some, None, refl, sym, ap}
use Rattle.std.proofs.Common.{length, get_or}
use Rattle.std.specs.Prelude.{map, slice_get, slice_index_or}
use Rattle.std.specs.Option.{option_map}
use Rattle.std.proofs.lemmas.Option.{slice_get-map, slice_get_read, slice_get_past}
use Rattle.pc_types.specs.Tree.{Tree}
use Rattle.pc_tree.specs.declared.code.Code.TheVariants.{E03, E04}
use Rattle.pc_flow.specs.Environment.{current}
use Rattle.pc_flow.specs.Stored.{HasOne, HasEach, env_of}
use Rattle.pc_rules.specs.Operations.{clean, in_error}
use Rattle.pc_rules.specs.Context.{local_label, constant_label}

module _ {Ty : Type 0} (tree : Ty → Tree) where
  pub current_env : (types : List (Option Ty)) (x : ℕ) → current (env_of tree types) x ≡ option_map tree
      (slice_index_or types x None)
  current_env [] x = refl
  current_env (o ∷ os) zero = refl
  current_env (o ∷ os) (suc x) = current_env os x

  pub local_some : (types : List (Option Ty)) (x : ℕ) (ty : Ty) → slice_index_or types x None ≡ Some ty
      → local_label (current (env_of tree types) x) ≡ clean (tree ty)
  local_some types x ty e = ap local_label (current_env types x)
      ∙ ap (λ (o : Option Ty). local_label (option_map tree o)) e

  pub local_none : (types : List (Option Ty)) (x : ℕ) → slice_index_or types x None ≡ None
      → local_label (current (env_of tree types) x) ≡ in_error E04
  local_none types x e = ap local_label (current_env types x) ∙ ap (λ (o : Option Ty). local_label (option_map tree o))
      e

  pub constant_some : (cs : List Ty) (i : ℕ) (x : Ty) → i < length cs → x ≡ get_or cs i x
      → constant_label (slice_get (map tree cs) i) ≡ clean (tree x)
  constant_some cs i x lt e = rw (slice_get-map, slice_get_read cs (length cs) i x refl lt e) refl

  pub constant_none : (cs : List Ty) (i : ℕ) → length cs ≤ i → constant_label (slice_get (map tree cs) i) ≡ in_error E03
  constant_none cs i le = rw (slice_get-map, slice_get_past cs i le) refl

pub ruleset by_name = (slice_get-map)
