-- Setting a key of a dict, and a field of an instance, at the place found for it.
use Rattle.std.proofs.Common.{◌≡◌, ℕ, suc, ◌<◌, ◌≤◌, Bool, true, false, List, [], ◌∷◌, ◌++◌, map, length, get_or, refl}
use Rattle.std.proofs.Common.{ap, arith}
use Rattle.std.specs.Prelude.{slice_set, if◌then◌else◌, string_bytes}
use Rattle.pc_value.specs.declared.value.Value.{Value as RustValue}
use Rattle.pc_value.specs.declared.value.DictEntry.{DictEntry as RustEntry}
use Rattle.pc_value.specs.declared.value.Slot.{Slot as RustSlot}
use Rattle.pc_value.specs.Value.{Value, DictEntry, Slot}
use Rattle.pc_value.specs.Meaning.{value_of, entry_of, slot_of}
use Rattle.pc_value.specs.Containers.{same_key, with_entry}
use Rattle.pc_value.specs.Attributes.{with_field}
use Rattle.pc_value.specs.Texts.{same_text}
use Rattle.pc_value.specs.Internal.Changes.{key_place, field_place}

-- the entry of a key that is there
pub set_there : (key : Value) (v : RustValue) (entries : List RustEntry) (d : RustEntry)
    → key_place key (map entry_of entries) < length entries → map entry_of
    (slice_set entries (key_place key (map entry_of entries))
    (record { key = (get_or entries (key_place key (map entry_of entries)) d).key; value = v })) ≡ with_entry key
    (value_of v) (map entry_of entries)
set_there key v [] d h = absurd (omega arith)
set_there key v (e ∷ rest) d h = go (same_key (value_of e.key) key) h (set_there key v rest d)
  where
    p : ℕ
    p = key_place key (map entry_of rest)

    go : (b : Bool) → (if b then 0 else suc p) < suc (length rest)
        → (p < length rest → map entry_of (slice_set rest p (record { key = (get_or rest p d).key; value = v }))
        ≡ with_entry key (value_of v) (map entry_of rest)) → map entry_of
        (slice_set (e ∷ rest) (if b then 0 else suc p)
        (record { key = (get_or (e ∷ rest) (if b then 0 else suc p) d).key; value = v }))
        ≡ (if b then record { key = value_of e.key; value = value_of v } ∷ map entry_of rest else entry_of e
        ∷ with_entry key (value_of v) (map entry_of rest))
    go true k ih = refl
    go false k ih = ap (λ (es : List DictEntry). entry_of e ∷ es) (ih (omega arith))

-- a key that is not there
pub set_new : (k v : RustValue) (entries : List RustEntry) → length entries ≤ key_place (value_of k)
    (map entry_of entries) → map entry_of (entries ++ record { key = k; value = v } ∷ []) ≡ with_entry (value_of k)
    (value_of v) (map entry_of entries)
set_new k v [] h = refl
set_new k v (e ∷ rest) h = go (same_key (value_of e.key) (value_of k)) h (set_new k v rest)
  where
    go : (b : Bool) → suc (length rest) ≤ (if b then 0 else suc (key_place (value_of k) (map entry_of rest)))
        → (length rest ≤ key_place (value_of k) (map entry_of rest)
        → map entry_of (rest ++ record { key = k; value = v } ∷ []) ≡ with_entry (value_of k) (value_of v)
        (map entry_of rest)) → entry_of e ∷ map entry_of (rest ++ record { key = k; value = v } ∷ [])
        ≡ (if b then record { key = value_of e.key; value = value_of v } ∷ map entry_of rest else entry_of e
        ∷ with_entry (value_of k) (value_of v) (map entry_of rest))
    go true h ih = absurd (omega arith)
    go false h ih = ap (λ (es : List DictEntry). entry_of e ∷ es) (ih (omega arith))

-- the field of a name that is there
pub field_there : (name : List ℕ) (v : RustValue) (fields : List RustSlot) (d : RustSlot)
    → field_place name (map slot_of fields) < length fields → map slot_of
    (slice_set fields (field_place name (map slot_of fields))
    (record { name = (get_or fields (field_place name (map slot_of fields)) d).name; value = v })) ≡ with_field name
    (value_of v) (map slot_of fields)
field_there name v [] d h = absurd (omega arith)
field_there name v (s ∷ rest) d h = go (same_text (string_bytes s.name) name) h (field_there name v rest d)
  where
    p : ℕ
    p = field_place name (map slot_of rest)

    go : (b : Bool) → (if b then 0 else suc p) < suc (length rest)
        → (p < length rest → map slot_of (slice_set rest p (record { name = (get_or rest p d).name; value = v }))
        ≡ with_field name (value_of v) (map slot_of rest)) → map slot_of
        (slice_set (s ∷ rest) (if b then 0 else suc p)
        (record { name = (get_or (s ∷ rest) (if b then 0 else suc p) d).name; value = v }))
        ≡ (if b then record { name = string_bytes s.name; value = value_of v } ∷ map slot_of rest else slot_of s
        ∷ with_field name (value_of v) (map slot_of rest))
    go true k ih = refl
    go false k ih = ap (λ (ss : List Slot). slot_of s ∷ ss) (ih (omega arith))

-- a name that is not there changes nothing
pub field_absent : (name : List ℕ) (v : Value) (fields : List RustSlot)
    → length fields ≤ field_place name (map slot_of fields) → map slot_of fields ≡ with_field name v
    (map slot_of fields)
field_absent name v [] h = refl
field_absent name v (s ∷ rest) h = go (same_text (string_bytes s.name) name) h (field_absent name v rest)
  where
    go : (b : Bool) → suc (length rest) ≤ (if b then 0 else suc (field_place name (map slot_of rest)))
        → (length rest ≤ field_place name (map slot_of rest) → map slot_of rest ≡ with_field name v (map slot_of rest))
        → slot_of s ∷ map slot_of rest ≡ (if b then record { name = string_bytes s.name; value = v } ∷ map slot_of rest
        else slot_of s ∷ with_field name v (map slot_of rest))
    go true h ih = absurd (omega arith)
    go false h ih = ap (λ (ss : List Slot). slot_of s ∷ ss) (ih (omega arith))

-- the same, at a place that was found, and what stood there
pub set_at : (key : Value) (v : RustValue) (entries : List RustEntry) (place : ℕ) (d : RustEntry)
    → place ≡ key_place key (map entry_of entries) → place < length entries → d ≡ get_or entries place d
    → map entry_of (slice_set entries place (record { key = d.key; value = v })) ≡ with_entry key (value_of v)
    (map entry_of entries)
set_at key v entries place d e lt is =
    let there = set_there key v entries d (rw (← e) lt) in
    let there' = rw (← e, ← is) at there in
    there'

pub field_at : (name : List ℕ) (v : RustValue) (fields : List RustSlot) (place : ℕ) (d : RustSlot)
    → place ≡ field_place name (map slot_of fields) → place < length fields → d ≡ get_or fields place d
    → map slot_of (slice_set fields place (record { name = d.name; value = v })) ≡ with_field name (value_of v)
    (map slot_of fields)
field_at name v fields place d e lt is =
    let there = field_there name v fields d (rw (← e) lt) in
    let there' = rw (← e, ← is) at there in
    there'
