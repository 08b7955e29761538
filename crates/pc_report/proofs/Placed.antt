-- Rows of a listing of types, as they grow with the entries.
use Rattle.std.proofs.Common.{◌≡◌, ℕ, ◌+◌, ◌<◌, List, [], ◌∷◌, ◌++◌, map, length, take, get_or, sym, ap, ◌∙◌}
use Rattle.std.proofs.lemmas.List.{map-append, take_more}
use Rattle.std.specs.List.{AllByRecursion}
use Rattle.pc_report.specs.declared.listing.TypeEntry.{TypeEntry}
use Rattle.pc_report.specs.TypeListing.{fact_of}

-- the facts of the first i + 1 entries are those of the first i, and then that of the next one
pub taken_more : (xs : List TypeEntry) (i : ℕ) (d x : TypeEntry) → i < length xs → x ≡ get_or xs i d
    → map fact_of (take (i + 1) xs) ≡ map fact_of (take i xs) ++ fact_of x ∷ []
taken_more xs i d x within is = ap (map fact_of) (take_more xs i d within
    ∙ ap (λ (y : TypeEntry). take i xs ++ y ∷ []) (sym is)) ∙ map-append fact_of (take i xs) (x ∷ [])

-- P holds of each element of a list with one appended, if it holds of each element and of the appended one
pub all_and_one : {X : Type 0} (P : X → Type 0) (xs : List X) (x : X) → AllByRecursion P xs → P x
    → AllByRecursion P (xs ++ x ∷ [])
all_and_one P [] x all one = (one, all)
all_and_one P (y ∷ ys) x all one = (all.0, all_and_one P ys x all.1 one)
