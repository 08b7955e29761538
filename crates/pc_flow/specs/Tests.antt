-- The tests of the program, and the relation of a member of a type to the tested type; the proofs tie them to
-- narrowing.
use Rattle.std.specs.Prelude.{ℕ, Option, Some, None, if◌then◌else◌}
use Rattle.pc_types.specs.Tree.{Tree, Any, Never, Int, Bool, Str, NoneType, Class, ListOf, Union}
use Rattle.pc_types.specs.Below.{Bases}
use Rattle.pc_types.specs.Join.{reaches}
use Rattle.pc_types.specs.Store.{Means}
use Rattle.pc_types.specs.declared.head.Head.{Head}
use Rattle.pc_types.specs.declared.head.Head.TheVariants as heads
use Rattle.pc_flow.specs.Narrowing.{Tested, for_none, for_type, for_list}
use Rattle.pc_flow.specs.Stored.{GivesOne}
use Rattle.pc_flow.specs.declared.testing.Left.{Left}
use Rattle.pc_flow.specs.declared.testing.Split.{Split}
use Rattle.pc_flow.specs.declared.testing.Test.{Test}
use Rattle.pc_flow.specs.declared.testing.Test.TheVariants as tests
use Rattle.pc_flow.specs.declared.testing.TestRelation.{TestRelation}
use Rattle.pc_flow.specs.declared.testing.TestRelation.TheVariants.{Within, Above, Beside}

-- a test of the program as a test of the definitions
abbrev pub tested_of : Test → Tested
tested_of tests.None = for_none
tested_of tests.List = for_list
tested_of tests.Int = for_type Int
tested_of tests.Bool = for_type Bool
tested_of tests.Str = for_type Str
tested_of (tests.Class c) = for_type (Class c)

-- an optional test of the program as one of the definitions
abbrev pub option_tested : Option Test → Option Tested
option_tested None = None
option_tested (Some test) = Some (tested_of test)

-- the part of Any that passes a test
abbrev pub type_for : Test → Tree
type_for tests.None = NoneType
type_for tests.List = ListOf Any
type_for tests.Int = Int
type_for tests.Bool = Bool
type_for tests.Str = Str
type_for (tests.Class c) = Class c

-- the relation of a class to the tested class
abbrev pub class_standing : Bases → (tested class : ℕ) → TestRelation
class_standing bases c d = if reaches bases d d c then Within else (if reaches bases c c d then Above else Beside)

-- the relation of a type with this head to the tested type
abbrev pub how_stands : Bases → Test → Head → TestRelation
how_stands bases test heads.Any = Above
how_stands bases test heads.Object = Above
how_stands bases tests.None heads.None = Within
how_stands bases tests.List heads.List = Within
how_stands bases tests.Int heads.Int = Within
how_stands bases tests.Int heads.Bool = Within
how_stands bases tests.Bool heads.Bool = Within
how_stands bases tests.Bool heads.Int = Above
how_stands bases tests.Str heads.Str = Within
how_stands bases (tests.Class c) (heads.Class d) = class_standing bases c d
how_stands bases test _ = Beside

-- a type that is one member: neither Never nor a union
abbrev pub IsOne : Tree → Type 0
IsOne Never = ⊥
IsOne (Union a b) = ⊥
IsOne _ = Unit {0}

module _ {Store Ty : Type 0} (has : Store → Ty → Type 0) (tree : Ty → Tree) (store : Store) where
  -- the parts of a member that pass and fail a test are stored types that mean these, if any
  pub record GivesLeft (l : Left Ty) (p f : Option Tree) : Type 0 where
    pub passing : GivesOne has tree store l.passing p
    pub failing : GivesOne has tree store l.failing f

  -- stored types that mean these: one where a test is true, one where it is false
  pub record MeansSplit (s : Split Ty) (p f : Tree) : Type 0 where
    pub passing : Means has tree store s.passing p
    pub failing : Means has tree store s.failing f
