-- Static and consistent subtyping as computed on types in normal form: the computed twins of Static and Assignable.
-- Only the law `subtyping_is_decided`, which ties them to those, is a reason to believe them.
-- Own rule of the profile.
use Rattle.std.specs.Prelude.{◌↔◌, Bool as Test, true, false, IsTrue, ◌&&◌, ◌||◌, ◌==◌}
use Rattle.pc_types.specs.Tree.{Tree, Trees, Any, Object, Never, Int, Bool, Str, NoneType, Class, ListOf, DictOf}
use Rattle.pc_types.specs.Tree.{TupleOf, Union, end, more, erase}
use Rattle.pc_types.specs.Below.{Bases, AreSmaller, Static}
use Rattle.pc_types.specs.Assignable.{Assignable}
use Rattle.pc_types.specs.Shape.{count}
use Rattle.pc_types.specs.Normal.{IsNormal}
use Rattle.pc_types.specs.Join.{reaches}

-- whether a type other than a union fits another type: Any, object, or some member of it
abbrev pub fits_some : (fits : Tree → Test) → Tree → Test
fits_some fits Any = true
fits_some fits Object = true
fits_some fits (Union a b) = fits_some fits a || fits_some fits b
fits_some fits t = fits t

-- whether the heads of two types other than unions fit
abbrev pub heads_fit : Bases → Tree → Tree → Test
heads_fit bases Int Int = true
heads_fit bases Bool Bool = true
heads_fit bases Bool Int = true
heads_fit bases Str Str = true
heads_fit bases NoneType NoneType = true
heads_fit bases (Class c) (Class d) = reaches bases c c d
heads_fit bases (ListOf s) (ListOf t) = true
heads_fit bases (DictOf j v) (DictOf k w) = true
heads_fit bases (TupleOf ss) (TupleOf ts) = count ss == count ts
heads_fit bases _ _ = false

-- whether each member of the first type has a head that fits the second; parts are ignored
abbrev pub is_covered : Bases → Tree → Tree → Test
is_covered bases Any t = true
is_covered bases Never t = true
is_covered bases (Union a b) t = is_covered bases a t && is_covered bases b t
is_covered bases s t = fits_some (heads_fit bases s) t

-- if both directions are wanted, whether the second is covered by the first
abbrev pub is_covered_back : Bases → (both : Test) → Tree → Tree → Test
is_covered_back bases true s t = is_covered bases t s
is_covered_back bases false s t = true

-- whether a list of this item type flows into a list type
abbrev pub list_fits : Bases → (into : Tree → Test) → (item : Tree) → Tree → Test
list_fits bases into s (ListOf t) = into t && is_covered bases t s
list_fits bases into s _ = false

-- whether a dict of these key and value types flows into a dict type
abbrev pub dict_fits : Bases → (key_into value_into : Tree → Test) → (key value : Tree) → Tree → Test
dict_fits bases key_into value_into j v (DictOf k w) = (key_into k && is_covered bases k j)
    && (value_into w && is_covered bases w v)
dict_fits bases key_into value_into j v _ = false

-- whether a tuple flows into a tuple type
abbrev pub tuple_fits : (into : Trees → Test) → Tree → Test
tuple_fits into (TupleOf ts) = into ts
tuple_fits into _ = false

-- flow of types, and of the parts of tuples
abbrev mutual
  -- whether the first flows into the second; if both directions are wanted, each part of a tuple in the second must
  -- also be covered by its counterpart in the first
  pub flows : Bases → Tree → (both : Test) → Tree → Test
  flows bases Any both t = true
  flows bases Never both t = true
  flows bases (Union a b) both t = flows bases a both t && flows bases b both t
  flows bases (ListOf s) both t = fits_some (list_fits bases (flows bases s true) s) t
  flows bases (DictOf j v) both t = fits_some (dict_fits bases (flows bases j true) (flows bases v true) j v) t
  flows bases (TupleOf ss) both t = fits_some (tuple_fits (each_flows bases ss both)) t
  flows bases s both t = fits_some (heads_fit bases s) t

  -- whether each part of the first tuple flows into the same part of the second; both must have the same length
  pub each_flows : Bases → Trees → (both : Test) → Trees → Test
  each_flows bases end both end = true
  each_flows bases (more s ss) both (more t ts) = (flows bases s both t && is_covered_back bases both s t)
      && each_flows bases ss both ts
  each_flows bases _ both _ = false

-- whether the first is a static subtype of the second: the computed twin of Static
abbrev pub static_test : Bases → Tree → Tree → Test
static_test bases s t = flows bases (erase s) false (erase t)

-- whether the first is assignable to the second: the computed twin of Assignable
abbrev pub assignable_test : Bases → Tree → Tree → Test
assignable_test bases s t = flows bases s false t

-- on types in normal form, the test of static subtyping is true exactly if static subtyping holds
abbrev pub StaticIsDecided : Type 0
StaticIsDecided = (bases : Bases) (s t : Tree) → AreSmaller bases → IsNormal s → IsNormal t
    → IsTrue (static_test bases s t) ↔ Static bases s t

-- on types in normal form, the test of consistent subtyping is true exactly if consistent subtyping holds
abbrev pub AssignableIsDecided : Type 0
AssignableIsDecided = (bases : Bases) (s t : Tree) → AreSmaller bases → IsNormal s → IsNormal t
    → IsTrue (assignable_test bases s t) ↔ Assignable bases s t
