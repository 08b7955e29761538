-- Lists of the program against lists of the model.
use Rattle.std.proofs.Common.{◌≡◌, ℕ, zero, suc, ◌-◌, ◌<◌, ◌≤◌, List, [], ◌∷◌, ◌++◌, map, length, get_or, take, refl}
use Rattle.std.proofs.Common.{sym, ap, ◌∙◌, arith}
use Rattle.std.specs.Prelude.{slice_set, slice_get, Option, Some, None, Result, Ok, Err, OnOk, OnErr}
use Rattle.pc_value.specs.declared.value.Value.{Value as RustValue}
use Rattle.pc_value.specs.declared.value.Cell.{Cell as RustCell}
use Rattle.pc_value.specs.Value.{Cell, list_cell, Outside}
use Rattle.pc_value.specs.Actions.{stops}
use Rattle.pc_value.specs.Meaning.{value_of, cell_of}
use Rattle.pc_value.specs.Containers.{last_of}
use Rattle.pc_value.specs.Internal.Changes.{CellChange, change_result, changed_at, heap_changed, pop_result}

pub map_set : {A B : Type 0} (f : A → B) (xs : List A) (i : ℕ) (v : A) → map f (slice_set xs i v) ≡ slice_set (map f xs)
    i (f v)
map_set f [] i v = refl
map_set f (x ∷ xs) zero v = refl
map_set f (x ∷ xs) (suc i) v = ap (λ ys. f x ∷ ys) (map_set f xs i v)

pub set_past : {A : Type 0} (xs : List A) (i : ℕ) (v : A) → length xs ≤ i → slice_set xs i v ≡ xs
set_past [] i v h = refl
set_past (x ∷ xs) zero v h = absurd (omega arith)
set_past (x ∷ xs) (suc i) v h = ap (λ ys. x ∷ ys) (set_past xs i v (omega arith))

pub get_map : {A B : Type 0} (f : A → B) (xs : List A) (i : ℕ) (d : A) → i < length xs
    → slice_get (map f xs) i ≡ Some (f (get_or xs i d))
get_map f [] i d h = absurd (omega arith)
get_map f (x ∷ xs) zero d h = refl
get_map f (x ∷ xs) (suc i) d h = get_map f xs i d (omega arith)

pub get_past : {A B : Type 0} (f : A → B) (xs : List A) (i : ℕ) → length xs ≤ i → slice_get (map f xs) i ≡ None
get_past f [] i h = refl
get_past f (x ∷ xs) zero h = absurd (omega arith)
get_past f (x ∷ xs) (suc i) h = get_past f xs i (omega arith)

pub set_same : {B : Type 0} (ys : List B) (i : ℕ) (b : B) → slice_get ys i ≡ Some b → slice_set ys i b ≡ ys
set_same [] i b h = refl
set_same (y ∷ ys) zero b h = let e : y ≡ b = cc in ap (λ (z : _). z ∷ ys) (sym e)
set_same (y ∷ ys) (suc i) b h = ap (λ zs. y ∷ zs) (set_same ys i b h)

-- the last item, and those before it
last_at : {A B : Type 0} (f : A → B) (xs : List A) (v : A) → slice_get (map f (xs ++ v ∷ [])) (length xs) ≡ Some (f v)
last_at f [] v = refl
last_at f (x ∷ xs) v = last_at f xs v

front_of : {A B : Type 0} (f : A → B) (xs : List A) (v : A) → take (length xs) (map f (xs ++ v ∷ [])) ≡ map f xs
front_of f [] v = refl
front_of f (x ∷ xs) v = ap (λ zs. f x ∷ zs) (front_of f xs v)

count_of : {A B : Type 0} (f : A → B) (xs : List A) (v : A) → length (map f (xs ++ v ∷ [])) ≡ suc (length xs)
count_of f [] v = refl
count_of f (x ∷ xs) v = ap suc (count_of f xs v)

one_less : {A B : Type 0} (f : A → B) (xs : List A) (v : A) → length (map f (xs ++ v ∷ [])) - 1 ≡ length xs
one_less f xs v = let e = count_of f xs v in omega arith

-- the cell of a list after `pop` has all items but the last
pub pop_after : (xs rest : List RustValue) (v : RustValue) → xs ≡ rest ++ v ∷ [] → list_cell (map value_of rest)
    ≡ (pop_result (map value_of xs) (last_of (map value_of xs))).cell
pop_after xs rest v e = rw (
  e,
  one_less value_of rest v,
  last_at value_of rest v,
  one_less value_of rest v,
  front_of value_of rest v,
) refl

-- a change at a location, and none
pub change_there : (cells : List RustCell) (place : ℕ) (old new : RustCell) (change : CellChange) → place < length cells
    → old ≡ get_or cells place old → cell_of new ≡ (change_result change (cell_of old)).cell
    → map cell_of (slice_set cells place new) ≡ (heap_changed (map cell_of cells) place change).heap
change_there cells place old new change lt is e =
    let there : slice_get (map cell_of cells) place ≡ Some (cell_of old) = get_map cell_of cells place old lt
    ∙ ap (λ (c : RustCell). Some (cell_of c)) (sym is) in
    map_set cell_of cells place new ∙ ap (λ (c : Cell). slice_set (map cell_of cells) place c) e
    ∙ ap (λ (o : Option Cell). (changed_at (map cell_of cells) place change o).heap) (sym there)

pub same_there : (cells : List RustCell) (place : ℕ) (old new : RustCell) → place < length cells
    → old ≡ get_or cells place old → cell_of new ≡ cell_of old → map cell_of (slice_set cells place new) ≡ map cell_of
    cells
same_there cells place old new lt is e =
    let there : slice_get (map cell_of cells) place ≡ Some (cell_of old) = get_map cell_of cells place old lt
    ∙ ap (λ (c : RustCell). Some (cell_of c)) (sym is) in
    map_set cell_of cells place new ∙ ap (λ (c : Cell). slice_set (map cell_of cells) place c) e
    ∙ set_same (map cell_of cells) place (cell_of old) there

pub nothing_there : (cells : List RustCell) (place : ℕ) (change : CellChange) → length cells ≤ place
    → stops Outside ≡ (heap_changed (map cell_of cells) place change).outcome
nothing_there cells place change h = ap (λ (o : Option Cell). (changed_at (map cell_of cells) place change o).outcome)
    (sym (get_past cell_of cells place h))

-- a fact of an Ok or an Err gives another one
pub on_ok : {A E P Q : Type 0} (r : Result A E) → (P → Q) → OnOk r P → OnOk r Q
on_ok (Ok a) f h = f h
on_ok (Err e) f h = h

pub on_err : {A E P Q : Type 0} (r : Result A E) → (P → Q) → OnErr r P → OnErr r Q
on_err (Ok a) f h = h
on_err (Err e) f h = f h
