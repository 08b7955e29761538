use Rattle.std.proofs.Common.{rules, sym, length, arith}
use Rattle.std.proofs.lemmas.List.{length-map}
use Rattle.pc_tree.specs.Tree.{expr_of}
use Rattle.pc_tree.specs.declared.tree.Expr.TheFolds.{the_lemmas}
use Rattle.pc_flow.specs.Naming.{meanings}
use Rattle.pc_flow.specs.Stored.{env_of, declared_one, declared_of}
use Rattle.pc_flow.proofs.Given.{each_kept, keeps_both}
use Rattle.pc_flow.proofs.Both.{and_agree, and_gives, or_agree, or_gives, well_formed}
use Rattle.pc_flow.proofs.narrowing.+narrow.Goals as goal

pub narrow-requires-in-And-2 : goal.narrow-requires-in-And-2
narrow-requires-in-And-2 g t c κs within =
    let v = c.in_ok-first-in-And.ensures.value in (
      first_of (search (rules, the_lemmas), grind (the_lemmas, arith)),
      (
        within.0,
        (
          within.1,
          (
            each_kept g.S.TypeStore.has _ _ c.narrow-in-And.ensures.kept
                c.args.declarations.now.declared.now c.requires.declared,
            (v.both.where_true.given, (c.requires.declared_well_formed, v.where_true)),
          ),
        ),
      ),
    )

pub narrow_junction-requires-clause-agree : goal.narrow_junction-requires-clause-agree
narrow_junction-requires-clause-agree g t c =
    let tree = g.S.TypeStore.tree in
    let d = c.args.declarations.now in
    let first = c.in_ok-first-in-And.first in
    let v = rw c.deref-in-And-3.ensures at c.in_ok-first-in-And.ensures.value.both in
    let s = c.in_ok-second-in-And.ensures.value.both in
    rw (c.deref-in-And.ensures, c.deref-in-And-2.ensures)
    (and_agree g.S.TypeStore.has tree d.parents.now (declared_of tree d.declared.now) (meanings d.names.now)
    c.ordered.ensures c.requires.declared_well_formed (expr_of c.in-And.left.value) (expr_of c.in-And.right.value)
    (env_of tree c.args.env) c.requires.env_well_formed _ first.where_true first.where_false
    c.in_ok-second-in-And.second v.where_true.is v.where_false.is (rw c.deref-in-And-4.ensures at s)
    (length d.declared.now) (sym (length-map d.declared.now (declared_one tree))))

pub returns-in_ok-ways-in-And-clause-value : goal.returns-in_ok-ways-in-And-clause-value
returns-in_ok-ways-in-And-clause-value g t c =
    let tree = g.S.TypeStore.tree in
    let d = c.args.declarations.now in
    let first = c.in_ok-first-in-And.first in
    let v = rw c.deref-in-And-3.ensures at c.in_ok-first-in-And.ensures.value.both in
    let s = c.in_ok-second-in-And.ensures.value.both in
    let w = c.in_ok-ways-in-And in
    rw c.in-And.is
    (and_gives g.S.TypeStore.has tree d.parents.now (declared_of tree d.declared.now) (meanings d.names.now)
    c.ordered.ensures c.requires.declared_well_formed (expr_of c.in-And.left.value) (expr_of c.in-And.right.value)
    (env_of tree c.args.env) c.requires.env_well_formed _ first.where_true first.where_false
    c.in_ok-second-in-And.second v.where_true.is v.where_false.is (rw c.deref-in-And-4.ensures at s)
    c.in-And.place _ w.ways w.ensures.kept w.ensures.asked w.ensures.met)

pub narrow-requires-in-Or-2 : goal.narrow-requires-in-Or-2
narrow-requires-in-Or-2 g t c κs within =
    let v = c.in_ok-first-in-Or.ensures.value in (
      first_of (search (rules, the_lemmas), grind (the_lemmas, arith)),
      (
        within.0,
        (
          within.1,
          (
            each_kept g.S.TypeStore.has _ _ c.narrow-in-Or.ensures.kept
                c.args.declarations.now.declared.now c.requires.declared,
            (v.both.where_false.given, (c.requires.declared_well_formed, v.where_false)),
          ),
        ),
      ),
    )

pub narrow_junction-requires-in-Or-clause-agree : goal.narrow_junction-requires-in-Or-clause-agree
narrow_junction-requires-in-Or-clause-agree g t c =
    let tree = g.S.TypeStore.tree in
    let d = c.args.declarations.now in
    let first = c.in_ok-first-in-Or.first in
    let v = rw c.deref-in-Or-3.ensures at c.in_ok-first-in-Or.ensures.value.both in
    let s = c.in_ok-second-in-Or.ensures.value.both in
    rw (c.deref-in-Or.ensures, c.deref-in-Or-2.ensures)
    (or_agree g.S.TypeStore.has tree d.parents.now (declared_of tree d.declared.now) (meanings d.names.now)
    c.ordered.ensures c.requires.declared_well_formed (expr_of c.in-Or.left.value) (expr_of c.in-Or.right.value)
    (env_of tree c.args.env) c.requires.env_well_formed _ first.where_false first.where_true
    c.in_ok-second-in-Or.second v.where_false.is v.where_true.is (rw c.deref-in-Or-4.ensures at s)
    (length d.declared.now) (sym (length-map d.declared.now (declared_one tree))))

pub returns-in_ok-ways-in-Or-clause-value : goal.returns-in_ok-ways-in-Or-clause-value
returns-in_ok-ways-in-Or-clause-value g t c =
    let tree = g.S.TypeStore.tree in
    let d = c.args.declarations.now in
    let first = c.in_ok-first-in-Or.first in
    let v = rw c.deref-in-Or-3.ensures at c.in_ok-first-in-Or.ensures.value.both in
    let s = c.in_ok-second-in-Or.ensures.value.both in
    let w = c.in_ok-ways-in-Or in
    rw c.in-Or.is
    (or_gives g.S.TypeStore.has tree d.parents.now (declared_of tree d.declared.now) (meanings d.names.now)
    c.ordered.ensures c.requires.declared_well_formed (expr_of c.in-Or.left.value) (expr_of c.in-Or.right.value)
    (env_of tree c.args.env) c.requires.env_well_formed _ first.where_false first.where_true
    c.in_ok-second-in-Or.second v.where_false.is v.where_true.is (rw c.deref-in-Or-4.ensures at s) c.in-Or.place _
    w.ways w.ensures.kept w.ensures.asked w.ensures.met)

pub returns-in_ok-ways-in_default-clause-value : goal.returns-in_ok-ways-in_default-clause-value
returns-in_ok-ways-in_default-clause-value g t c =
    let tree = g.S.TypeStore.tree in
    let d = c.args.declarations.now in
    well_formed g.S.TypeStore.has tree d.parents.now (declared_of tree d.declared.now) (meanings d.names.now)
    c.ordered.ensures c.requires.declared_well_formed _ (expr_of c.args.condition.now) (env_of tree c.args.env)
    c.requires.env_well_formed _ c.in_ok-ways-in_default.ensures.value

pub returns-in_ok-ways-in-And-clause-kept : goal.returns-in_ok-ways-in-And-clause-kept
returns-in_ok-ways-in-And-clause-kept g t c =
    let has = g.S.TypeStore.has in
    keeps_both has _ _ _ (keeps_both has _ _ _ c.narrow-in-And.ensures.kept c.narrow-in-And-2.ensures.kept)
    c.narrow_junction.ensures.kept

pub returns-in_ok-ways-in-Or-clause-kept : goal.returns-in_ok-ways-in-Or-clause-kept
returns-in_ok-ways-in-Or-clause-kept g t c =
    let has = g.S.TypeStore.has in
    keeps_both has _ _ _ (keeps_both has _ _ _ c.narrow-in-Or.ensures.kept c.narrow-in-Or-2.ensures.kept)
    c.narrow_junction-in-Or.ensures.kept
