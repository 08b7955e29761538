-- Rows of shared chunks that hold the locals of an environment (private to this crate).
use Rattle.std.specs.Prelude.{◌≡◌, ◌≤◌, ◌*◌, ℕ, List, Option, All, length, take, map, flat_map}
use Rattle.std.specs.Option.{option_map}

-- the types of the locals in a chunk, given the value of each shared type
abbrev pub chunk_types : {R Ty : Type 0} → (value : R → Ty) → List (Option R) → List (Option Ty)
chunk_types value types = map (option_map value) types

-- the types of the first locals in a row of chunks
abbrev pub row_types : {C X : Type 0} → (types : C → List X) → (locals : ℕ) → List C → List X
row_types types locals chunks = take locals (flat_map types chunks)

-- a row of chunks, each of the same positive number of locals, that is long enough for these locals
pub record IsRow {C X : Type 0} (types : C → List X) (size locals : ℕ) (chunks : List C) : Type 0 where
  pub full : All (λ c. length (types c) ≡ size) chunks
  pub wide : 1 ≤ size
  pub room : locals ≤ size * length chunks
