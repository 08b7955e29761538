-- The names that are reserved to the tree are those that are reserved to scopes.
use Rattle.std.proofs.Common.{◌≡◌, ℕ, List, [], ◌∷◌, map, refl, sym, ap, ◌∙◌}
use Rattle.std.specs.Prelude.{Bool, true, false, ◌||◌, if◌then◌else◌, Some, is_some, bytes_eq}
use Rattle.std.specs.List.{list_any}
use Rattle.pc_source.specs.ReservedNames as keywords
use Rattle.pc_scope.specs.Reserved.{reserved_builtins, beside, builtin_of, is_builtin_name}
use Rattle.pc_scope.proofs.TextMaps.{turned}

found : {A : Type 0} (table : List (List ℕ × A)) (t : List ℕ) → is_some (beside table t) ≡ list_any (bytes_eq t)
    (map (λ e. e.0) table)
found [] t = refl
found (e ∷ rest) t = go (bytes_eq e.0 t) (found rest t) ∙ ap (λ b. b || list_any (bytes_eq t) (map (λ x. x.0) rest))
    (turned e.0 t)
  where
    go : (b : Bool) → is_some (beside rest t) ≡ list_any (bytes_eq t) (map (λ x. x.0) rest)
        → is_some (if b then Some e.1 else beside rest t) ≡ (b || list_any (bytes_eq t) (map (λ x. x.0) rest))
    go true h = refl
    go false h = h

pub reserved_same : (t : List ℕ) → keywords.is_reserved t ≡ is_builtin_name t
unfolding builtin_of
reserved_same t = sym (found reserved_builtins t)
