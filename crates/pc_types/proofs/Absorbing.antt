-- A member that no type absorbs.
use Rattle.std.proofs.Common.{◌≡◌, ℕ, zero, suc, ◌==◌, ◌&&◌, ◌||◌, Bool as Test, true, false, not, List, [], ◌∷◌, Option}
use Rattle.std.proofs.Common.{Some, None, refl, ap, ◌∙◌}
use Rattle.std.specs.List.{list_any}
use Rattle.std.specs.Option.{option_map_or}
use Rattle.pc_types.specs.Tree.{Tree, Any, Object, Never, Int, Bool, Str, NoneType, Class, ListOf, DictOf, TupleOf, Union}
use Rattle.pc_types.specs.Below.{Bases, base_of}
use Rattle.pc_types.specs.Shape.{members}
use Rattle.pc_types.specs.Join.{reaches, absorbs, is_absorbed}
use Rattle.pc_types.specs.Internal.Absorbing.{may_be_absorbed}

-- where none fits, none of a list does
none_of : (f : Tree → Test) → ((n : Tree) → f n ≡ false) → (ns : List Tree) → list_any f ns ≡ false
none_of f h [] = refl
none_of f h (n ∷ ns) = rw (h n) (none_of f h ns)

not_both : (x : Test) → not x && x ≡ false
not_both true = refl
not_both false = refl

not_either : (x : Test) → not x && (x || false) ≡ false
not_either true = refl
not_either false = refl

-- a class without base is within no other one
no_other : (bases : Bases) (n c d : ℕ) → base_of bases c ≡ None → not (c == d) && reaches bases n c d ≡ false
no_other bases zero c d e = not_both (c == d)
no_other bases (suc n) c d e =
    ap (λ o. not (c == d) && ((c == d) || option_map_or (λ b. reaches bases n b d) o false)) e ∙ not_either (c == d)

rootless : (bases : Bases) (c : ℕ) → base_of bases c ≡ None → (n : Tree) → absorbs bases n (Class c) ≡ false
rootless bases c e (Class d) = no_other bases c c d e
rootless bases c e _ = refl

class_of : (bases : Bases) (c : ℕ) (t : Tree) (o : Option ℕ) → base_of bases c ≡ o → is_absorbed bases (Class c) t
    ≡ option_map_or (λ b. true) o false && is_absorbed bases (Class c) t
class_of bases c t None e = none_of (λ n. absorbs bases n (Class c)) (rootless bases c e) (members t)
class_of bases c t (Some b) e = refl

-- neither bool nor a class
abbrev IsOther : Tree → Type 0
IsOther Bool = ⊥
IsOther (Class c) = ⊥
IsOther m = Unit {0}

unabsorbed : (bases : Bases) (n m : Tree) → IsOther m → absorbs bases n m ≡ false
unabsorbed bases n Bool h = absurd h
unabsorbed bases n (Class c) h = absurd h
unabsorbed bases Int m h = refl
unabsorbed bases (Class d) m h = refl
unabsorbed bases n m h = refl

-- a member that may be absorbed by none is not
pub absorbed_where_may : (bases : Bases) (m t : Tree) → is_absorbed bases m t
    ≡ may_be_absorbed bases m && is_absorbed bases m t
absorbed_where_may bases Bool t = refl
absorbed_where_may bases (Class c) t = class_of bases c t (base_of bases c) refl
absorbed_where_may bases Any t = none_of (λ n. absorbs bases n Any) (λ n. unabsorbed bases n Any tt) (members t)
absorbed_where_may bases Object t = none_of (λ n. absorbs bases n Object) (λ n. unabsorbed bases n Object tt) (members t)
absorbed_where_may bases Never t = none_of (λ n. absorbs bases n Never) (λ n. unabsorbed bases n Never tt) (members t)
absorbed_where_may bases Int t = none_of (λ n. absorbs bases n Int) (λ n. unabsorbed bases n Int tt) (members t)
absorbed_where_may bases Str t = none_of (λ n. absorbs bases n Str) (λ n. unabsorbed bases n Str tt) (members t)
absorbed_where_may bases NoneType t = none_of (λ n. absorbs bases n NoneType) (λ n. unabsorbed bases n NoneType tt) (members t)
absorbed_where_may bases (ListOf s) t = none_of (λ n. absorbs bases n (ListOf s)) (λ n. unabsorbed bases n (ListOf s) tt) (members t)
absorbed_where_may bases (DictOf k v) t = none_of (λ n. absorbs bases n (DictOf k v)) (λ n. unabsorbed bases n (DictOf k v) tt) (members t)
absorbed_where_may bases (TupleOf ts) t = none_of (λ n. absorbs bases n (TupleOf ts)) (λ n. unabsorbed bases n (TupleOf ts) tt) (members t)
absorbed_where_may bases (Union a b) t = none_of (λ n. absorbs bases n (Union a b)) (λ n. unabsorbed bases n (Union a b) tt) (members t)
