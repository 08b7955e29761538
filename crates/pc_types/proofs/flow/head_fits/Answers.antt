use Rattle.std.proofs.Common.{◌≡◌, length, Bool as Test, List, ◌∙◌, arith}
use Rattle.std.proofs.lemmas.Bool.Decides.{nat_tests}
use Rattle.pc_types.specs.Shape.{count}
use Rattle.pc_types.specs.Internal.HeadFlow.{seen_each}
use Rattle.pc_types.specs.Boxed.{tree_of, trees_in}
use Rattle.pc_types.specs.declared.boxed.BoxType.{BoxType}
use Rattle.pc_types.proofs.Truth.{yes_is, no_is}
use Rattle.pc_types.proofs.Heads.{int_only, bool_only, bool_fits, str_only, none_only, class_only, list_only, dict_only}
use Rattle.pc_types.proofs.Heads.{tuple_only}
use Rattle.pc_types.proofs.Tuples.{tuple_is, count_seen, count_in}
use Rattle.pc_types.proofs.flow.head_fits.Goals as goal

pub returns-in-Int-matches : goal.returns-in-Int-matches
returns-in-Int-matches c = rw (c.in-Int.is, c.in-Int-matches.is) (yes_is tt)

pub returns-in_default : goal.returns-in_default
returns-in_default c =
    rw c.in-Int.is (no_is (int_only c.args.parents.now c.args.gradual c.args.t.now c.in_default.not-Int))

pub returns-in-Bool-matches : goal.returns-in-Bool-matches
returns-in-Bool-matches c =
    rw c.in-Bool.is (yes_is (bool_fits c.args.parents.now c.args.gradual c.args.t.now c.in-Bool-matches.is))

pub returns-in-Bool-matches-2 : goal.returns-in-Bool-matches-2
returns-in-Bool-matches-2 c =
    rw c.in-Bool.is (yes_is (bool_fits c.args.parents.now c.args.gradual c.args.t.now c.in-Bool-matches.is))

pub returns-in_default-matches : goal.returns-in_default-matches
returns-in_default-matches c =
    rw c.in-Bool.is (no_is (bool_only c.args.parents.now c.args.gradual c.args.t.now c.in_default-matches.not-Bool
    c.in_default-matches.not-Int))

pub returns-in-Str-matches : goal.returns-in-Str-matches
returns-in-Str-matches c = rw (c.in-Str.is, c.in-Str-matches.is) (yes_is tt)

pub returns-in_default-matches-2 : goal.returns-in_default-matches-2
returns-in_default-matches-2 c =
    rw c.in-Str.is (no_is (str_only c.args.parents.now c.args.gradual c.args.t.now c.in_default-matches-2.not-Str))

pub returns-in-NoneType-matches : goal.returns-in-NoneType-matches
returns-in-NoneType-matches c = rw (c.in-NoneType.is, c.in-NoneType-matches.is) (yes_is tt)

pub returns-in_default-matches-3 : goal.returns-in_default-matches-3
returns-in_default-matches-3 c =
    rw c.in-NoneType.is (no_is (none_only c.args.parents.now c.args.gradual c.args.t.now
    c.in_default-matches-3.not-NoneType))

pub returns-in-Class-t : goal.returns-in-Class-t
returns-in-Class-t c = rw (c.in-Class.is, c.in-Class-t.is) c.is_within.ensures.below

pub returns-in_default-t : goal.returns-in_default-t
returns-in_default-t c =
    rw c.in-Class.is (no_is (class_only c.args.parents.now c.args.gradual _ c.args.t.now c.in_default-t.not-Class))

pub returns-in-List-matches : goal.returns-in-List-matches
returns-in-List-matches c = rw (c.in-List.is, c.in-List-matches.is) (yes_is tt)

pub returns-in_default-matches-4 : goal.returns-in_default-matches-4
returns-in_default-matches-4 c =
    rw c.in-List.is (no_is (list_only c.args.parents.now c.args.gradual (tree_of c.in-List.field-0.value) c.args.t.now c.in_default-matches-4.not-List))

pub returns-in-Dict-matches : goal.returns-in-Dict-matches
returns-in-Dict-matches c = rw (c.in-Dict.is, c.in-Dict-matches.is) (yes_is tt)

pub returns-in_default-matches-5 : goal.returns-in_default-matches-5
returns-in_default-matches-5 c =
    rw c.in-Dict.is (no_is (dict_only c.args.parents.now c.args.gradual (tree_of c.in-Dict.field-0.value)
    (tree_of c.in-Dict.field-1.value) c.args.t.now
    c.in_default-matches-5.not-Dict))

counted : (g : Test) (ts : List BoxType) → count (seen_each g (trees_in ts)) ≡ length ts
counted g ts = count_seen g (trees_in ts) ∙ count_in ts

pub returns-in-Tuple-t : goal.returns-in-Tuple-t
returns-in-Tuple-t c =
    let s = counted c.args.gradual c.in-Tuple.ss.items in
    let t = counted c.args.gradual c.in-Tuple-t.ts.items in
    rw (tuple_is _ _ c.in-Tuple.is, tuple_is _ _ c.in-Tuple-t.is, s, t) (grind (arith, nat_tests))

pub returns-in_default-t-2 : goal.returns-in_default-t-2
returns-in_default-t-2 c =
    rw (tuple_is _ _ c.in-Tuple.is) (no_is (tuple_only c.args.parents.now _ _ c.args.t.now c.in_default-t-2.not-Tuple))
