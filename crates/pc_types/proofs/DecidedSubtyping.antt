-- On types in normal form, the tests of static and of consistent subtyping are true exactly if these hold.
use Rattle.std.proofs.Common.{◌≡◌, ◌↔◌, ◌⊎◌, ℕ, Bool as Test, IsTrue, true, false, ◌&&◌, ◌||◌, sym, subst, arith, inl}
use Rattle.std.proofs.Common.{inr, ⊎_elim}
use Rattle.std.proofs.lemmas.Bool.{and_parts, and_from, cases_Bool, or_cases, or_left, or_right}
use Rattle.std.proofs.lemmas.Bool.Decides.{nat_tests}
use Rattle.pc_types.specs.Tree.{Tree, Trees, Any, Object, Never, Int, Bool, Str, NoneType, Class, ListOf, DictOf}
use Rattle.pc_types.specs.Tree.{TupleOf, Union, end, more, erase}
use Rattle.pc_types.specs.Below.{Bases, AreSmaller, Static}
use Rattle.pc_types.specs.Assignable.{Assignable}
use Rattle.pc_types.specs.Normal.{IsNormal}
use Rattle.pc_types.specs.Computed.{fits_some, heads_fit, is_covered, is_covered_back, list_fits, dict_fits, tuple_fits}
use Rattle.pc_types.specs.Computed.{flows, each_flows, static_test, assignable_test, StaticIsDecided}
use Rattle.pc_types.specs.Computed.{AssignableIsDecided}
use Rattle.pc_types.specs.Internal.HeadFlow.{Covers, c_from_any, c_to_any, c_never, c_object, c_both, c_left, c_right}
use Rattle.pc_types.specs.Internal.HeadFlow.{CoversBack, HeadFlow, EachFlow, w_from_any, w_to_any, w_never, w_object}
use Rattle.pc_types.specs.Internal.HeadFlow.{w_both, w_left, w_right, w_end, w_more, HeadFits, FlowFits}
use Rattle.pc_types.proofs.Truth.{yes_is, no_is, is_no, through_is}
use Rattle.pc_types.proofs.Heads.{IsLeft, covers_is_fits, covers_parts, covers_member, flow_is_fits, flow_parts}
use Rattle.pc_types.proofs.Heads.{flow_member}
use Rattle.pc_types.proofs.Descent.{reaches_below, below_reaches}
use Rattle.pc_types.proofs.Deciding.{seen_static, seen_gradual, static_is_flow, assignable_is_flow}

-- tests of two facts, as a test of both
both_are : (a b : Test) {X Y : Type 0} → IsTrue a ↔ X → IsTrue b ↔ Y → IsTrue (a && b) ↔ (X × Y)
both_are a b f g = (λ e. (f.0 (and_parts a b e).0, g.0 (and_parts a b e).1), λ p. and_from a b (f.1 p.0) (g.1 p.1))

-- tests of two facts, as a test of what holds where either does
either_is : (a b : Test) {X Y Z : Type 0} → (X → Z) → (Y → Z) → (Z → X ⊎ Y) → IsTrue a ↔ X → IsTrue b ↔ Y
    → IsTrue (a || b) ↔ Z
either_is a b i j k f g = (
  λ e. ⊎_elim (λ p. i (f.0 p)) (λ p. j (g.0 p)) (or_cases a b e),
  λ z. ⊎_elim (λ x. or_left a b (f.1 x)) (λ y. or_right a b (g.1 y)) (k z),
)

module _ (bases : Bases) (o : AreSmaller bases) where
  heads_are : (s t : Tree) → IsTrue (heads_fit bases s t) ↔ HeadFits bases s t
  heads_are Int Int = yes_is tt
  heads_are Bool Bool = yes_is tt
  heads_are Bool Int = yes_is tt
  heads_are Str Str = yes_is tt
  heads_are NoneType NoneType = yes_is tt
  heads_are (Class c) (Class d) = (λ e. reaches_below bases c c d e, λ h. below_reaches o h)
  heads_are (ListOf s) (ListOf t) = yes_is tt
  heads_are (DictOf j v) (DictOf k w) = yes_is tt
  heads_are (TupleOf ss) (TupleOf ts) = (λ e. grind (arith, nat_tests, e), λ h. grind (arith, nat_tests, h))
  heads_are _ _ = no_is (λ h. h)

  module _ (s : Tree) (l : IsLeft s) where
    covers_against : (t : Tree) → IsTrue (fits_some (heads_fit bases s) t) ↔ Covers bases s t
    covers_against Any = yes_is c_to_any
    covers_against Object = yes_is c_object
    covers_against (Union a b) = either_is _ _ c_left c_right (λ h. covers_member h l) (covers_against a)
        (covers_against b)
    covers_against t = through_is (heads_are s t) (covers_is_fits bases s t l tt)

    flow_against : (fits : Tree → Test) (both : Test) → ((t : Tree) → IsTrue (fits t) ↔ FlowFits bases both s t)
        → (t : Tree) → IsTrue (fits_some fits t) ↔ HeadFlow bases both s t
    flow_against fits both f Any = yes_is w_to_any
    flow_against fits both f Object = yes_is w_object
    flow_against fits both f (Union a b) = either_is _ _ w_left w_right (λ h. flow_member h l)
        (flow_against fits both f a) (flow_against fits both f b)
    flow_against fits both f t = through_is (f t) (flow_is_fits bases both s t l tt)

  covering : (s t : Tree) → IsTrue (is_covered bases s t) ↔ Covers bases s t
  covering Any t = yes_is c_from_any
  covering Never t = yes_is c_never
  covering (Union a b) t = through_is (both_are (is_covered bases a t) (is_covered bases b t) (covering a t)
      (covering b t)) (λ p. c_both p.0 p.1, covers_parts)
  covering s t = covers_against s tt t

  covering_back : (both : Test) (s t : Tree) → IsTrue (is_covered_back bases both s t) ↔ CoversBack bases both s t
  covering_back true s t = covering t s
  covering_back false s t = yes_is tt

  no_more : {both : Test} {t : Tree} {ts : Trees} → EachFlow bases both end (more t ts) → ⊥
  no_more h = elim h [ ]

  no_end : {both : Test} {s : Tree} {ss : Trees} → EachFlow bases both (more s ss) end → ⊥
  no_end h = elim h [ ]

  each_parts : {both : Test} {s t : Tree} {ss ts : Trees} → EachFlow bases both (more s ss) (more t ts)
      → (HeadFlow bases both s t × CoversBack bases both s t) × EachFlow bases both ss ts
  each_parts (w_more f c fs) = ((f, c), fs)

  list_flows : (both : Test) (s : Tree) (into : Tree → Test) → ((t : Tree) → IsTrue (into t) ↔ HeadFlow bases true s t)
      → (t : Tree) → IsTrue (list_fits bases into s t) ↔ FlowFits bases both (ListOf s) t
  list_flows both s into f (ListOf t) = both_are (into t) (is_covered bases t s) (f t) (covering t s)
  list_flows both s into f _ = no_is (λ h. h)

  dict_flows : (both : Test) (j v : Tree) (key value : Tree → Test)
      → ((t : Tree) → IsTrue (key t) ↔ HeadFlow bases true j t) → ((t : Tree) → IsTrue (value t)
      ↔ HeadFlow bases true v t) → (t : Tree) → IsTrue (dict_fits bases key value j v t)
      ↔ FlowFits bases both (DictOf j v) t
  dict_flows both j v key value f g (DictOf k w) =
      through_is (both_are (key k && is_covered bases k j) (value w && is_covered bases w v)
      (both_are (key k) (is_covered bases k j) (f k) (covering k j))
      (both_are (value w) (is_covered bases w v) (g w) (covering w v))) (
        λ p. (p.0.0, p.0.1, p.1.0, p.1.1),
        λ p. ((p.0, p.1), (p.2, p.3)),
      )
  dict_flows both j v key value f g _ = no_is (λ h. h)

  tuple_flows : (both : Test) (ss : Trees) (into : Trees → Test)
      → ((ts : Trees) → IsTrue (into ts) ↔ EachFlow bases both ss ts) → (t : Tree) → IsTrue (tuple_fits into t)
      ↔ FlowFits bases both (TupleOf ss) t
  tuple_flows both ss into f (TupleOf ts) = f ts
  tuple_flows both ss into f _ = no_is (λ h. h)

  object_flows : (both : Test) (t : Tree) → IsTrue (heads_fit bases Object t) ↔ FlowFits bases both Object t
  object_flows both _ = no_is (λ h. h)

  int_flows : (both : Test) (t : Tree) → IsTrue (heads_fit bases Int t) ↔ FlowFits bases both Int t
  int_flows both Int = yes_is tt
  int_flows both _ = no_is (λ h. h)

  bool_flows : (both : Test) (t : Tree) → IsTrue (heads_fit bases Bool t) ↔ FlowFits bases both Bool t
  bool_flows both Int = yes_is tt
  bool_flows both Bool = yes_is tt
  bool_flows both _ = no_is (λ h. h)

  str_flows : (both : Test) (t : Tree) → IsTrue (heads_fit bases Str t) ↔ FlowFits bases both Str t
  str_flows both Str = yes_is tt
  str_flows both _ = no_is (λ h. h)

  none_flows : (both : Test) (t : Tree) → IsTrue (heads_fit bases NoneType t) ↔ FlowFits bases both NoneType t
  none_flows both NoneType = yes_is tt
  none_flows both _ = no_is (λ h. h)

  class_flows : (both : Test) (c : ℕ) (t : Tree) → IsTrue (heads_fit bases (Class c) t)
      ↔ FlowFits bases both (Class c) t
  class_flows both c (Class d) = heads_are (Class c) (Class d)
  class_flows both c _ = no_is (λ h. h)

  mutual
    flow_is_decided : (s : Tree) (both : Test) (t : Tree) → IsTrue (flows bases s both t) ↔ HeadFlow bases both s t
    flow_is_decided Any both t = yes_is w_from_any
    flow_is_decided Never both t = yes_is w_never
    flow_is_decided (Union a b) both t = through_is (both_are (flows bases a both t) (flows bases b both t)
        (flow_is_decided a both t) (flow_is_decided b both t)) (λ p. w_both p.0 p.1, flow_parts)
    flow_is_decided (ListOf s) both t = flow_against (ListOf s) tt (list_fits bases (flows bases s true) s) both
        (list_flows both s (flows bases s true) (λ u. flow_is_decided s true u)) t
    flow_is_decided (DictOf j v) both t = flow_against (DictOf j v) tt
        (dict_fits bases (flows bases j true) (flows bases v true) j v) both
        (dict_flows both j v (flows bases j true) (flows bases v true) (λ u. flow_is_decided j true u)
        (λ u. flow_is_decided v true u)) t
    flow_is_decided (TupleOf ss) both t = flow_against (TupleOf ss) tt (tuple_fits (each_flows bases ss both)) both
        (tuple_flows both ss (each_flows bases ss both) (λ ts. each_is_decided ss both ts)) t
    flow_is_decided Object both t = flow_against Object tt (heads_fit bases Object) both (object_flows both) t
    flow_is_decided Int both t = flow_against Int tt (heads_fit bases Int) both (int_flows both) t
    flow_is_decided Bool both t = flow_against Bool tt (heads_fit bases Bool) both (bool_flows both) t
    flow_is_decided Str both t = flow_against Str tt (heads_fit bases Str) both (str_flows both) t
    flow_is_decided NoneType both t = flow_against NoneType tt (heads_fit bases NoneType) both (none_flows both) t
    flow_is_decided (Class c) both t = flow_against (Class c) tt (heads_fit bases (Class c)) both (class_flows both c) t

    each_is_decided : (ss : Trees) (both : Test) (ts : Trees) → IsTrue (each_flows bases ss both ts)
        ↔ EachFlow bases both ss ts
    each_is_decided end both end = yes_is w_end
    each_is_decided end both (more t ts) = no_is no_more
    each_is_decided (more s ss) both end = no_is no_end
    each_is_decided (more s ss) both (more t ts) =
        through_is (both_are (flows bases s both t && is_covered_back bases both s t) (each_flows bases ss both ts)
        (both_are (flows bases s both t) (is_covered_back bases both s t) (flow_is_decided s both t)
        (covering_back both s t)) (each_is_decided ss both ts)) (λ p. w_more p.0.0 p.0.1 p.1, each_parts)

  through_seen : (both : Test) (s t x y : Tree) → x ≡ s → y ≡ t → IsTrue (flows bases s both t)
      ↔ HeadFlow bases both x y
  through_seen both s t x y e f = subst (λ z. IsTrue (flows bases s both t) ↔ HeadFlow bases both z y) (sym e)
      (subst (λ z. IsTrue (flows bases s both t) ↔ HeadFlow bases both s z) (sym f) (flow_is_decided s both t))

pub static_decided : StaticIsDecided
static_decided bases s t o n m = through_is (through_seen bases o false (erase s) (erase t) _ _ (seen_static s)
    (seen_static t)) (static_is_flow bases s t n m)

pub assignable_decided : AssignableIsDecided
assignable_decided bases s t o n m = through_is (through_seen bases o false s t _ _ (seen_gradual s) (seen_gradual t))
    (assignable_is_flow bases s t n m)

-- a fact holds, or it does not
abbrev pub Decision : Type 0 → Type 0
Decision X = X ⊎ (X → ⊥)

-- a test tells which
pub tells : {X : Type 0} (b : Test) → IsTrue b ↔ X → Decision X
tells b i = ⊎_elim (λ e. inl (i.0 e)) (λ e. inr (is_no e i)) (cases_Bool b)

-- whether a type in normal form is static to another one
pub decide_static : (bases : Bases) → AreSmaller bases → (s t : Tree) → IsNormal s → IsNormal t
    → Decision (Static bases s t)
decide_static bases o s t n m = tells (static_test bases s t) (static_decided bases s t o n m)

-- whether it is assignable to it
pub decide_assignable : (bases : Bases) → AreSmaller bases → (s t : Tree) → IsNormal s → IsNormal t
    → Decision (Assignable bases s t)
decide_assignable bases o s t n m = tells (assignable_test bases s t) (assignable_decided bases s t o n m)
