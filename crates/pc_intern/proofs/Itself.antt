-- A type beside itself: it is static and assignable to itself.
use Rattle.std.proofs.Common.{◌≡◌, ◌↔◌, true, IsTrue, refl, sym, subst}
use Rattle.pc_types.specs.Tree.{Tree}
use Rattle.pc_types.specs.Below.{Bases, AreSmaller, Static, same}
use Rattle.pc_types.specs.Assignable.{Assignable}
use Rattle.pc_types.specs.Computed.{static_test, assignable_test}
use Rattle.pc_types.specs.Normal.{IsNormal}
use Rattle.pc_types.proofs.Consistent.{static_assignable}
use Rattle.pc_types.proofs.DecidedSubtyping.{static_decided, assignable_decided}
use Rattle.pc_types.proofs.Truth.{yes_is}

pub static_itself : (bases : Bases) (s t : Tree) → s ≡ t → IsTrue true ↔ Static bases s t
static_itself bases s t e = yes_is (subst (λ u. Static bases s u) e same)

pub assignable_itself : (bases : Bases) (s t : Tree) → s ≡ t → IsTrue true ↔ Assignable bases s t
assignable_itself bases s t e = yes_is (static_assignable bases s t ((static_itself bases s t e).0 refl))

pub static_test_itself : (bases : Bases) (s t : Tree) → AreSmaller bases → IsNormal s → IsNormal t → s ≡ t
    → true ≡ static_test bases s t
static_test_itself bases s t o n m e = sym ((static_decided bases s t o n m).1 ((static_itself bases s t e).0 refl))

pub assignable_test_itself : (bases : Bases) (s t : Tree) → AreSmaller bases → IsNormal s → IsNormal t → s ≡ t
    → true ≡ assignable_test bases s t
assignable_test_itself bases s t o n m e = sym ((assignable_decided bases s t o n m).1
    ((assignable_itself bases s t e).0 refl))
