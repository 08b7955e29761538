-- The methods of a table: the types of each are well-formed, and a method that a class binds is the nearest of its name
-- that the class has.
use Rattle.std.proofs.Common.{◌≡◌, ◌<◌, ℕ, List, [], ◌∷◌, ◌++◌, map, length, get_or, sym}
use Rattle.std.proofs.Common.{subst, inl, inr}
use Rattle.std.specs.Prelude.{Contains, slice_index_or}
use Rattle.std.proofs.lemmas.List.Elements.{Contains-get_or, Contains-append_left, Contains-append_right}
use Rattle.pc_tree.specs.Tree.{Module}
use Rattle.pc_tree.proofs.Among.{none_among, first_among, among_first}
use Rattle.pc_types.specs.Tree.{Tree}
use Rattle.pc_types.specs.Below.{Bases}
use Rattle.pc_annotations.specs.Bases.{bases_of}
use Rattle.pc_class.specs.declared.table.Method.{Method as RustMethod}
use Rattle.pc_class.specs.Facts.{Method, classes_of}
use Rattle.pc_class.specs.Tables.{ClassEntry, empty_entry, class_with, classes_with, method_with, IsMethod}
use Rattle.pc_class.specs.WellFormed.{MethodWellFormed, MethodsWellFormed, ClassWellFormed, ClassesWellFormed}
use Rattle.pc_class.proofs.TableFields.{entry_listed}
use Rattle.pc_class.proofs.WellFormed.{all_classes_well_formed}

module _ {Ty : Type 0} (tree : Ty → Tree) where
  method_among : (bases : Bases) (xs : List (RustMethod Ty)) (x : RustMethod Ty)
      → MethodsWellFormed bases (map (method_with tree) xs) → Contains xs x
      → MethodWellFormed bases (method_with tree x)
  method_among bases [] x h among = absurd (none_among x among)
  method_among bases (y ∷ ys) x h among = elim (among_first y ys x among) [
    | inl e ↦ subst (λ (z : RustMethod Ty). MethodWellFormed bases (method_with tree z)) e h.0
    | inr later ↦ method_among bases ys x h.1 later
  ]

  class_among : (bases : Bases) (es : List (ClassEntry Ty)) (k : ClassEntry Ty)
      → ClassesWellFormed bases (classes_with tree es) → Contains es k → ClassWellFormed bases (class_with tree k)
  class_among bases [] k h among = absurd (none_among k among)
  class_among bases (y ∷ ys) k h among = elim (among_first y ys k among) [
    | inl e ↦ subst (λ (z : ClassEntry Ty). ClassWellFormed bases (class_with tree z)) e h.0
    | inr later ↦ class_among bases ys k h.1 later
  ]

  -- the types of a method of the table are well-formed
  pub listed_well_formed : (es : List (ClassEntry Ty)) (m : Module) (x : RustMethod Ty)
      → classes_with tree es ≡ classes_of m → IsMethod es x → MethodWellFormed (bases_of m) (method_with tree x)
  listed_well_formed es m x same is = method_among (bases_of m) is.class.methods x
      (class_among (bases_of m) es is.class
      (subst (ClassesWellFormed (bases_of m)) (sym same) (all_classes_well_formed m)) is.listed).methods is.among

-- a method that a class of the table binds is one of the table's
pub own_listed : {Ty : Type 0} (es : List (ClassEntry Ty)) (c : ℕ) (own rest : List (RustMethod Ty)) → c < length es
    → (slice_index_or es c empty_entry).methods ≡ own ++ rest → (i : ℕ) (x : RustMethod Ty) → i < length own
    → x ≡ get_or own i x → IsMethod es x
own_listed es c own rest less over i x within is = record {
  class = slice_index_or es c empty_entry;
  listed = entry_listed es c empty_entry less;
  among = subst (λ xs. Contains xs x) (sym over) (Contains-append_left own rest x
      (subst (Contains own) (sym is) (Contains-get_or own i x within)));
}

map_among : {X Y : Type 0} (f : X → Y) (xs : List X) (x : X) → Contains xs x → Contains (map f xs) (f x)
map_among f [] x among = absurd (none_among x among)
map_among {X} {Y} f (y ∷ ys) x among = elim (among_first y ys x among) [
  | inl e ↦ subst (λ z. Contains (map f (y ∷ ys)) (f z)) e (first_among (f y) (map f ys))
  | inr later ↦ Contains-append_right (f y ∷ []) (map f ys) (f x) (map_among f ys x later)
]

-- a method at a place among those that a class of the table binds is one that the class binds
pub own_among : {Ty : Type 0} (tree : Ty → Tree) (own : List (RustMethod Ty)) (all : List Method)
    → map (method_with tree) own ≡ all → (i : ℕ) (x : RustMethod Ty) → i < length own → x ≡ get_or own i x
    → Contains all (method_with tree x)
own_among tree own all e i x within is = subst (λ xs. Contains xs (method_with tree x)) e
    (map_among (method_with tree) own x (subst (Contains own) (sym is) (Contains-get_or own i x within)))
