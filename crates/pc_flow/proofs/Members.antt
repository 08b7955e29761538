-- The parts of a member that pass and fail a test, by its relation to the tested type; each member of a type is a
-- single one.
use Rattle.std.proofs.Common.{◌≡◌, ◌==◌, ◌<◌, ℕ, zero, suc, length, get_or, drop, Bool as Truth, true, false, Some}
use Rattle.std.proofs.Common.{None, List, [], ◌∷◌, refl, sym, ap, ◌∙◌, subst}
use Rattle.std.proofs.lemmas.Bool.{true≢false, eqb-true}
use Rattle.std.specs.Prelude.{if◌then◌else◌, map}
use Rattle.pc_types.specs.Tree.{Tree, Any, Object, Never, Int, Bool, Class, Union}
use Rattle.pc_types.specs.Below.{Bases}
use Rattle.pc_types.specs.Shape.{members}
use Rattle.pc_types.specs.Normal.{IsMember, IsNormal}
use Rattle.pc_types.specs.Join.{reaches}
use Rattle.pc_types.specs.Head.{head_of}
use Rattle.pc_types.specs.declared.head.Head.{Head}
use Rattle.pc_types.proofs.Ancestors.{reaches_itself}
use Rattle.pc_flow.specs.Narrowing.{member_passing, member_failing}
use Rattle.pc_flow.specs.WellFormed.{IsTestable}
use Rattle.pc_flow.specs.declared.testing.Test.{Test}
use Rattle.pc_flow.specs.declared.testing.Test.TheVariants as tests
use Rattle.pc_flow.specs.declared.testing.TestRelation.{TestRelation}
use Rattle.pc_flow.specs.declared.testing.TestRelation.TheVariants.{Within, Above, Beside}
use Rattle.pc_flow.specs.Tests.{tested_of, type_for, how_stands, IsOne}
use Rattle.pc_flow.proofs.Rest.{mapped_rest}

-- the parts left of a member with this relation to the tested type
abbrev pub Leaves : Bases → Test → Tree → TestRelation → Type 0
Leaves bases test m Within = (member_passing bases (tested_of test) m ≡ Some m)
    × (member_failing bases (tested_of test) m ≡ None)
Leaves bases test m Above = (member_passing bases (tested_of test) m ≡ Some (type_for test))
    × (member_failing bases (tested_of test) m ≡ Some m)
Leaves bases test m Beside = (member_passing bases (tested_of test) m ≡ None)
    × (member_failing bases (tested_of test) m ≡ Some m)

-- of a class, by the two walks up from it and from the class tested for
class_leaves : (bases : Bases) (c d : ℕ) (x y : Truth) → reaches bases d d c ≡ x → reaches bases c c d ≡ y
    → Leaves bases (tests.Class c) (Class d) (if x then Within else (if y then Above else Beside))
class_leaves bases c d x y f g = go (d == c) (c == d) x y refl refl f g
  where
    go : (q p x y : Truth) → (d == c) ≡ q → (c == d) ≡ p → reaches bases d d c ≡ x → reaches bases c c d ≡ y
        → Leaves bases (tests.Class c) (Class d) (if x then Within else (if y then Above else Beside))
    go true p true y e k f g = rw e (refl, refl)
    go true p false y e k f g = absurd (true≢false (sym (reaches_itself bases d c (eqb-true d c e)) ∙ f))
    go false p true y e k f g = rw (e, f) (refl, refl)
    go false true false y e k f g = absurd (true≢false (sym (reaches_itself bases d c (sym (eqb-true c d k))) ∙ f))
    go false false false true e k f g = rw (e, f, k, g) (refl, refl)
    go false false false false e k f g = rw (e, f, k, g) (refl, refl)

any_leaves : (bases : Bases) (test : Test) → Leaves bases test Any Above
any_leaves bases tests.None = (refl, refl)
any_leaves bases tests.List = (refl, refl)
any_leaves bases _ = (refl, refl)

object_leaves : (bases : Bases) (test : Test) → Leaves bases test Object Above
object_leaves bases tests.None = (refl, refl)
object_leaves bases tests.List = (refl, refl)
object_leaves bases _ = (refl, refl)

leaves : (bases : Bases) (test : Test) (m : Tree) → IsOne m → Leaves bases test m (how_stands bases test (head_of m))
leaves bases test Never h = absurd h
leaves bases test (Union a b) h = absurd h
leaves bases test Any h = any_leaves bases test
leaves bases test Object h = object_leaves bases test
leaves bases (tests.Class c) (Class d) h = class_leaves bases c d _ _ refl refl
leaves bases tests.None Int h = (refl, refl)
leaves bases tests.List Int h = (refl, refl)
leaves bases tests.Int Int h = (refl, refl)
leaves bases tests.Bool Int h = (refl, refl)
leaves bases tests.Str Int h = (refl, refl)
leaves bases (tests.Class c) Int h = (refl, refl)
leaves bases tests.None Bool h = (refl, refl)
leaves bases tests.List Bool h = (refl, refl)
leaves bases tests.Int Bool h = (refl, refl)
leaves bases tests.Bool Bool h = (refl, refl)
leaves bases tests.Str Bool h = (refl, refl)
leaves bases (tests.Class c) Bool h = (refl, refl)
leaves bases tests.None _ h = (refl, refl)
leaves bases tests.List _ h = (refl, refl)
leaves bases tests.Int _ h = (refl, refl)
leaves bases tests.Bool _ h = (refl, refl)
leaves bases tests.Str _ h = (refl, refl)
leaves bases (tests.Class c) _ h = (refl, refl)

-- the parts left of a member, by the relation that was found
pub leaves_at : (bases : Bases) (test : Test) (m : Tree) (head : Head) (r s : TestRelation) → IsOne m → head ≡ head_of m
    → r ≡ how_stands bases test head → r ≡ s → Leaves bases test m s
leaves_at bases test m head r s h e f g = subst (Leaves bases test m) (ap (how_stands bases test) (sym e) ∙ sym f ∙ g)
    (leaves bases test m h)

-- each test of the program is for a type that can be tested for
pub is_testable : (test : Test) → IsTestable (tested_of test)
is_testable tests.None = tt
is_testable tests.List = tt
is_testable tests.Int = tt
is_testable tests.Bool = tt
is_testable tests.Str = tt
is_testable (tests.Class c) = tt

-- each member of a type is one
member_one : (m : Tree) → IsMember m → IsOne m
member_one Never h = absurd h
member_one (Union a b) h = absurd h
member_one _ h = tt

-- each of several types is one
abbrev pub AreOne : List Tree → Type 0
AreOne [] = Unit {0}
AreOne (m ∷ ms) = IsOne m × AreOne ms

members_one : (t : Tree) → IsNormal t → AreOne (members t)
members_one Never n = tt
members_one (Union a b) n = (member_one a n.0, members_one b n.2)
members_one _ n = (tt, tt)

rest_one : (ms : List Tree) (i : ℕ) (m : Tree) (rest : List Tree) → AreOne ms → drop i ms ≡ m ∷ rest → IsOne m
rest_one [] zero m rest h e = cc
rest_one [] (suc i) m rest h e = cc
rest_one (n ∷ ns) zero m rest h e = let p : n ≡ m = cc in subst IsOne p h.0
rest_one (n ∷ ns) (suc i) m rest h e = rest_one ns i m rest h.1 e

pub item_one : {Ty : Type 0} (tree : Ty → Tree) (t : Tree) (xs : List Ty) (i : ℕ) (x : Ty) → IsNormal t
    → map tree xs ≡ members t → i < length xs → x ≡ get_or xs i x → IsOne (tree x)
item_one tree t xs i x n e h f = rest_one (members t) i (tree x) _ (members_one t n)
    (ap (drop i) (sym e) ∙ mapped_rest tree xs i x h f)
