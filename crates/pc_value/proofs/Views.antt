-- A tuple of the program, through its items.
use Rattle.std.proofs.Common.{◌≡◌, ℕ, ◌<◌, ◌≤◌, zero, suc, List, [], ◌∷◌, map, length, get_or, arith, not, nat_eq}
use Rattle.std.proofs.Common.{rules, refl, ap, ◌∙◌}
use Rattle.std.specs.Prelude.{Vec, slice_get, Some, None}
use Rattle.pc_value.specs.declared.value.DictEntry.{DictEntry as RustEntry}
use Rattle.std.specs.Global.{Global}
use Rattle.pc_value.specs.Value.{Value, DictEntry, tuple_of, values_of, list_of, more_values, a_tuple, is_true_seen}
use Rattle.pc_value.specs.Meaning.{value_of, values_in, entry_of}
use Rattle.pc_value.specs.declared.value.Value.{Value as RustValue, Row_of-Value, end_of-Value, more_of-Value}
use Rattle.pc_value.specs.declared.value.Value.{items-the_row-Value, items_hidden-the_row-Value-0}
use Rattle.pc_value.specs.declared.value.Value.TheViews as View
use Rattle.pc_value.specs.declared.value.Value.TheBlock as Block

rows : {n : _} (k : Row_of-Value n) → values_in k ≡ values_of (map value_of (items-the_row-Value n k))
rows end_of-Value = refl
rows (more_of-Value v rest) = ap (λ vs. more_values (value_of v) vs) (rows rest)

pub tuple_value : (v : Vec RustValue Global) → value_of (View.Tuple v) ≡ tuple_of (values_of (map value_of v.items))
tuple_value v = ap tuple_of (rows (Block.hidden-the_row-Value-0 v)
    ∙ ap (λ vs. values_of (map value_of vs)) (items_hidden-the_row-Value-0 v))

-- a tuple is true where it has an item
pub tuple_truth : (items : List RustValue) → not (nat_eq (length items) 0) ≡ is_true_seen
    (a_tuple (values_of (map value_of items)))
tuple_truth [] = refl
tuple_truth (v ∷ rest) = search rules

-- the items of a tuple, as a list and back
pub list_of_values : (vs : List Value) → list_of (values_of vs) ≡ vs
list_of_values [] = refl
list_of_values (v ∷ rest) = ap (λ vs. v ∷ vs) (list_of_values rest)

-- how many items a tuple has
pub tuple_length : (items : List RustValue) → length (list_of (values_of (map value_of items))) ≡ length items
tuple_length [] = refl
tuple_length (v ∷ rest) = ap suc (tuple_length rest)

-- the keys of entries
pub keys_get : (entries : List RustEntry) (i : ℕ) (d : RustEntry) → i < length entries
    → slice_get (map (λ (e : DictEntry). e.key) (map entry_of entries)) i ≡ Some (value_of (get_or entries i d).key)
keys_get [] i d h = absurd (omega arith)
keys_get (e ∷ rest) zero d h = refl
keys_get (e ∷ rest) (suc i) d h = keys_get rest i d (omega arith)

pub keys_past : (entries : List RustEntry) (i : ℕ) → length entries ≤ i
    → slice_get (map (λ (e : DictEntry). e.key) (map entry_of entries)) i ≡ None
keys_past [] i h = refl
keys_past (e ∷ rest) zero h = absurd (omega arith)
keys_past (e ∷ rest) (suc i) h = keys_past rest i (omega arith)
