-- A map from texts, as the list of its entries.
use Rattle.std.proofs.Common.{◌≡◌, ℕ, List, [], ◌∷◌, map, refl}
use Rattle.std.specs.Prelude.{Bool, true, false, if◌then◌else◌, Some, bytes_eq, cond}
use Rattle.std.specs.Map.{lookup}
pub use Rattle.pc_tree.proofs.Texts.{turned}
use Rattle.pc_scope.specs.Reserved.{beside}
use Rattle.pc_scope.specs.declared.resolution.NameMeaning.{NameMeaning}

-- the value of a map at a text is the value beside that text in the list of its entries
pub beside_entry : {K : Type 0} (f : K → List ℕ) (t : List ℕ) (es : List (K × NameMeaning)) → lookup (λ k. bytes_eq t (f k)) es
    ≡ beside (map (λ e. (f e.0, e.1)) es) t
beside_entry f t [] = refl
beside_entry f t (e ∷ es) = rw (turned t (f e.0)) (go (bytes_eq (f e.0) t) (beside_entry f t es))
  where
    go : (b : Bool) → lookup (λ k. bytes_eq t (f k)) es ≡ beside (map (λ x. (f x.0, x.1)) es) t
        → cond b (Some e.1) (lookup (λ k. bytes_eq t (f k)) es) ≡ (if b then Some e.1
        else beside (map (λ x. (f x.0, x.1)) es) t)
    go true g = refl
    go false g = g
