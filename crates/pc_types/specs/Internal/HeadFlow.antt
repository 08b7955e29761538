-- The relations on two types that the code decides head by head: private to this crate; proofs/ tie them to the
-- definitions.
use Rattle.std.specs.Prelude.{◌≡◌, ℕ, Bool as Test, true, false, cond}
use Rattle.pc_types.specs.Tree.{Tree, Trees, Any, Object, Never, Int, Bool, Str, NoneType, Class, ListOf, DictOf}
use Rattle.pc_types.specs.Tree.{TupleOf, Union, end, more}
use Rattle.pc_types.specs.Below.{Bases, Below}
use Rattle.pc_types.specs.Shape.{count}

-- each member of the first type has a counterpart in the second: a member with its head, an atom or class above it, Any
-- or object; parts are ignored
pub data Covers (bases : Bases) : Tree → Tree → Type 0 where
  c_from_any : {t : Tree} → Covers bases Any t
  c_to_any : {s : Tree} → Covers bases s Any
  c_never : {t : Tree} → Covers bases Never t
  c_object : {s : Tree} → Covers bases s Object
  c_int : Covers bases Int Int
  c_bool : Covers bases Bool Bool
  c_bool_int : Covers bases Bool Int
  c_str : Covers bases Str Str
  c_none : Covers bases NoneType NoneType
  c_class : {c d : ℕ} → Below bases (Class c) (Class d) → Covers bases (Class c) (Class d)
  c_list : {s t : Tree} → Covers bases (ListOf s) (ListOf t)
  c_dict : {j k v w : Tree} → Covers bases (DictOf j v) (DictOf k w)
  c_tuple : {ss ts : Trees} → count ss ≡ count ts → Covers bases (TupleOf ss) (TupleOf ts)
  c_both : {a b u : Tree} → Covers bases a u → Covers bases b u → Covers bases (Union a b) u
  c_left : {s a b : Tree} → Covers bases s a → Covers bases s (Union a b)
  c_right : {s a b : Tree} → Covers bases s b → Covers bases s (Union a b)

-- if both directions are wanted, the second is covered by the first
abbrev pub CoversBack : Bases → Test → Tree → Tree → Type 0
CoversBack bases true s t = Covers bases t s
CoversBack bases false s t = Unit {0}

-- flow of types, and of the parts of tuples
mutual
  -- the first flows into the second; if both directions are wanted, each part of a tuple in the second must also be
  -- covered by its counterpart in the first
  pub data HeadFlow (bases : Bases) : Test → Tree → Tree → Type 0 where
    w_from_any : {both : Test} {t : Tree} → HeadFlow bases both Any t
    w_to_any : {both : Test} {s : Tree} → HeadFlow bases both s Any
    w_never : {both : Test} {t : Tree} → HeadFlow bases both Never t
    w_object : {both : Test} {s : Tree} → HeadFlow bases both s Object
    w_int : {both : Test} → HeadFlow bases both Int Int
    w_bool : {both : Test} → HeadFlow bases both Bool Bool
    w_bool_int : {both : Test} → HeadFlow bases both Bool Int
    w_str : {both : Test} → HeadFlow bases both Str Str
    w_none : {both : Test} → HeadFlow bases both NoneType NoneType
    w_class : {both : Test} {c d : ℕ} → Below bases (Class c) (Class d) → HeadFlow bases both (Class c) (Class d)
    w_list : {both : Test} {s t : Tree} → HeadFlow bases true s t → Covers bases t s
        → HeadFlow bases both (ListOf s) (ListOf t)
    w_dict : {both : Test} {j k v w : Tree} → HeadFlow bases true j k → Covers bases k j → HeadFlow bases true v w
        → Covers bases w v → HeadFlow bases both (DictOf j v) (DictOf k w)
    w_tuple : {both : Test} {ss ts : Trees} → EachFlow bases both ss ts → HeadFlow bases both (TupleOf ss) (TupleOf ts)
    w_both : {both : Test} {a b u : Tree} → HeadFlow bases both a u → HeadFlow bases both b u
        → HeadFlow bases both (Union a b) u
    w_left : {both : Test} {s a b : Tree} → HeadFlow bases both s a → HeadFlow bases both s (Union a b)
    w_right : {both : Test} {s a b : Tree} → HeadFlow bases both s b → HeadFlow bases both s (Union a b)

  -- each part of the first tuple flows into the same part of the second; both have the same length
  pub data EachFlow (bases : Bases) : Test → Trees → Trees → Type 0 where
    w_end : {both : Test} → EachFlow bases both end end
    w_more : {both : Test} {s t : Tree} {ss ts : Trees} → HeadFlow bases both s t → CoversBack bases both s t
        → EachFlow bases both ss ts → EachFlow bases both (more s ss) (more t ts)

-- the first flows into the second and, if both directions are wanted, the second is covered by the first
abbrev pub FlowsBack : Bases → Test → Tree → Tree → Type 0
FlowsBack bases both s t = HeadFlow bases both s t × CoversBack bases both s t

-- a type as a test reads it: with each Any as it is if the test is gradual, else as object
abbrev mutual
  pub as_tested : Test → Tree → Tree
  as_tested gradual Any = cond gradual Any Object
  as_tested gradual Object = Object
  as_tested gradual Never = Never
  as_tested gradual Int = Int
  as_tested gradual Bool = Bool
  as_tested gradual Str = Str
  as_tested gradual NoneType = NoneType
  as_tested gradual (Class c) = Class c
  as_tested gradual (ListOf t) = ListOf (as_tested gradual t)
  as_tested gradual (DictOf k v) = DictOf (as_tested gradual k) (as_tested gradual v)
  as_tested gradual (TupleOf ts) = TupleOf (seen_each gradual ts)
  as_tested gradual (Union a b) = Union (as_tested gradual a) (as_tested gradual b)

  -- the parts of a tuple as a test reads them
  pub seen_each : Test → Trees → Trees
  seen_each gradual end = end
  seen_each gradual (more t ts) = more (as_tested gradual t) (seen_each gradual ts)

-- the heads of two types other than unions fit
abbrev pub HeadFits : Bases → Tree → Tree → Type 0
HeadFits bases Int Int = Unit {0}
HeadFits bases Bool Bool = Unit {0}
HeadFits bases Bool Int = Unit {0}
HeadFits bases Str Str = Unit {0}
HeadFits bases NoneType NoneType = Unit {0}
HeadFits bases (Class c) (Class d) = Below bases (Class c) (Class d)
HeadFits bases (ListOf s) (ListOf t) = Unit {0}
HeadFits bases (DictOf j v) (DictOf k w) = Unit {0}
HeadFits bases (TupleOf ss) (TupleOf ts) = count ss ≡ count ts
HeadFits bases _ _ = ⊥

-- the heads of two types other than unions fit, and so do their parts
abbrev pub FlowFits : Bases → Test → Tree → Tree → Type 0
FlowFits bases both Int Int = Unit {0}
FlowFits bases both Bool Bool = Unit {0}
FlowFits bases both Bool Int = Unit {0}
FlowFits bases both Str Str = Unit {0}
FlowFits bases both NoneType NoneType = Unit {0}
FlowFits bases both (Class c) (Class d) = Below bases (Class c) (Class d)
FlowFits bases both (ListOf s) (ListOf t) = HeadFlow bases true s t × Covers bases t s
FlowFits bases both (DictOf j v) (DictOf k w) = HeadFlow bases true j k × Covers bases k j × HeadFlow bases true v w
    × Covers bases w v
FlowFits bases both (TupleOf ss) (TupleOf ts) = EachFlow bases both ss ts
FlowFits bases both _ _ = ⊥
