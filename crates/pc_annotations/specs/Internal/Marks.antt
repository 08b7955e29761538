-- Classes marked by their numbers, as a walk over a union of many members keeps them. Private to this crate.
use Rattle.std.specs.Prelude.{◌≡◌, ℕ, Bool as Test, true, false, nat_lt, if◌then◌else◌, List, [], ◌∷◌, filter, IsTrue}
use Rattle.std.specs.Prelude.{Option, Some, None, slice_index_or, slice_set}
use Rattle.std.specs.Option.{is_none, option_and_then}
use Rattle.pc_types.specs.Below.{Bases}
use Rattle.pc_types.specs.Join.{reaches}
use Rattle.pc_types.specs.declared.head.Head.{Head}
use Rattle.pc_types.specs.declared.head.Head.TheVariants as heads

-- the class of a head, if it is one of the first n
abbrev pub class_among_first : ℕ → Head → Option ℕ
class_among_first n (heads.Class c) = if nat_lt c n then Some c else None
class_among_first n _ = None

-- the heads that are not among the first n classes
abbrev pub other_heads : ℕ → List Head → List Head
other_heads n hs = filter (λ h. is_none (class_among_first n h)) hs

-- the marks with one more, if there is one to add; none if it is marked already (a marking of the walk)
abbrev pub with_mark : List Test → Option ℕ → Option (List Test)
with_mark marks None = Some marks
with_mark marks (Some c) = if slice_index_or marks c false then None else Some (slice_set marks c true)

-- the marks with those of all heads among the first n classes; none if one is marked twice (a marking of the walk: the
-- computed twin of what it says of the heads)
abbrev pub with_marks : ℕ → List Test → List Head → Option (List Test)
with_marks n marks [] = Some marks
with_marks n marks (h ∷ hs) = option_and_then (λ m. with_marks n m hs) (with_mark marks (class_among_first n h))

-- no marked class has another marked class as an ancestor
abbrev pub AreUnrelated : Bases → List Test → Type 0
AreUnrelated bases marks = (c d : ℕ) → IsTrue (slice_index_or marks c false) → IsTrue (slice_index_or marks d false)
    → IsTrue (reaches bases c c d) → c ≡ d
