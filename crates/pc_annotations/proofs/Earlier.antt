-- The base of a class has a smaller number than the class.
use Rattle.std.proofs.Common.{◌≡◌, ℕ, zero, suc, ◌+◌, ◌<◌, List, [], ◌∷◌, refl, arith}
use Rattle.std.specs.Prelude.{Bool, true, false, nat_lt, if◌then◌else◌, Option, Some, None, slice_index_or}
use Rattle.std.proofs.lemmas.Bool.Decides.{nat_tests}
use Rattle.pc_tree.specs.Tree.{Name, ClassDef, Module}
use Rattle.pc_scope.specs.declared.resolution.NameMeaning.{NameMeaning}
use Rattle.pc_scope.specs.declared.resolution.NameMeaning.TheVariants as meaning
use Rattle.pc_scope.specs.Bindings.{classes_in}
use Rattle.pc_scope.specs.Resolution.{resolve_in_module}
use Rattle.pc_types.specs.Below.{AreSmaller}
use Rattle.pc_annotations.specs.Bases.{earlier_class, base_named, bases_from, bases_of}

tested : (c b b' : ℕ) (t : Bool) → nat_lt b c ≡ t → (if t then Some b else None) ≡ Some b' → b' < c
tested c b b' true e is = grind (arith, nat_tests)
tested c b b' false e is = absurd (grind arith)

earlier : (c b : ℕ) (r : NameMeaning) → earlier_class c r ≡ Some b → b < c
earlier c b (meaning.Class d) is = tested c d b (nat_lt d c) refl is
earlier c b (meaning.Local n) is = absurd (grind arith)
earlier c b (meaning.Const n) is = absurd (grind arith)
earlier c b (meaning.Func n) is = absurd (grind arith)
earlier c b (meaning.Builtin x) is = absurd (grind arith)
earlier c b meaning.None is = absurd (grind arith)

named : (m : Module) (c b : ℕ) (n : Option Name) → base_named m c n ≡ Some b → b < c
named m c b None is = absurd (grind arith)
named m c b (Some n) is = earlier c b (resolve_in_module m n.text) is

from : (m : Module) (n : ℕ) (cs : List ClassDef) (i b : ℕ) → slice_index_or (bases_from m n cs) i None ≡ Some b
    → b < n + i
from m n [] i b is = absurd (grind arith)
from m n (c ∷ cs) zero b is = let h = named m n b c.base is in omega arith
from m n (c ∷ cs) (suc i) b is = let h = from m (suc n) cs i b is in omega arith

pub smaller : (m : Module) → AreSmaller (bases_of m)
unfolding bases_of
smaller m c b is = let h = from m 0 (classes_in m.items) c b is in omega arith
