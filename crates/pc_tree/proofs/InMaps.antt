-- A map from texts, as what it has at each text.
use Rattle.std.proofs.Common.{◌≡◌, ℕ, List, [], ◌∷◌, refl, arith}
use Rattle.std.specs.Prelude.{Bool, true, false, if◌then◌else◌, Option, Some, None, bytes_eq, cond, is_some}
use Rattle.std.specs.Map.{lookup}
use Rattle.indexmap.specs.IndexMap.{insert_entry}
use Rattle.pc_tree.specs.Names.{first_of, bound_as}
use Rattle.pc_tree.proofs.Texts.{turned}

module _ {K V : Type 0} (f : K → List ℕ) where
  -- a new key goes after the others
  pub put_new : (es : List (K × V)) (k : K) (v : V) (t : List ℕ) → lookup (λ x. bytes_eq (f k) (f x)) es ≡ None
      → lookup (λ x. bytes_eq t (f x)) (insert_entry (λ x y. bytes_eq (f x) (f y)) es k v)
      ≡ first_of (lookup (λ x. bytes_eq t (f x)) es) (bound_as (f k) v t)
  put_new [] k v t e = rw (turned t (f k)) refl
  put_new (x ∷ es) k v t e = go (bytes_eq (f k) (f x.0)) e (λ g. put_new es k v t g)
    where
      behind : (b : Bool) (other : Option V) → lookup (λ y. bytes_eq t (f y))
          (insert_entry (λ a y. bytes_eq (f a) (f y)) es k v) ≡ first_of (lookup (λ y. bytes_eq t (f y)) es) other
          → cond b (Some x.1) (lookup (λ y. bytes_eq t (f y)) (insert_entry (λ a y. bytes_eq (f a) (f y)) es k v))
          ≡ first_of (cond b (Some x.1) (lookup (λ y. bytes_eq t (f y)) es)) other
      behind true other g = refl
      behind false other g = g

      go : (b : Bool) → cond b (Some x.1) (lookup (λ y. bytes_eq (f k) (f y)) es) ≡ None
          → (lookup (λ y. bytes_eq (f k) (f y)) es ≡ None → lookup (λ y. bytes_eq t (f y))
          (insert_entry (λ a y. bytes_eq (f a) (f y)) es k v) ≡ first_of (lookup (λ y. bytes_eq t (f y)) es)
          (bound_as (f k) v t))
          → lookup (λ y. bytes_eq t (f y)) (if b then (x.0, v) ∷ es else x ∷ insert_entry (λ a y. bytes_eq (f a) (f y))
          es k v) ≡ first_of (cond (bytes_eq t (f x.0)) (Some x.1) (lookup (λ y. bytes_eq t (f y)) es))
          (bound_as (f k) v t)
      go true e rest = absurd (grind (arith, e))
      go false e rest = behind (bytes_eq t (f x.0)) (bound_as (f k) v t) (rest e)

-- nothing is at a text where a map has none
pub none_at : {V : Type 0} (o : Option V) → is_some o ≡ false → o ≡ None
none_at None e = refl
none_at (Some r) e = absurd (grind (arith, e))
