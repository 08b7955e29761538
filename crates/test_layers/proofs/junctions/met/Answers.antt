use Rattle.std.proofs.Common.{length, sym}
use Rattle.std.proofs.lemmas.List.{length-map}
use Rattle.std.proofs.lemmas.Result.{IfOk-weaker}
use Rattle.pc_tree.specs.Tree.{expr_of}
use Rattle.pc_types.specs.Boxed.{IsGiven, tree_of}
use Rattle.pc_types.specs.declared.boxed.BoxStore.{BoxStore}
use Rattle.pc_flow.specs.Naming.{meanings}
use Rattle.pc_flow.specs.Stored.{HasEach, env_of, declared_of, declared_one}
use Rattle.pc_flow.proofs.Both.{and_agree, or_agree, well_formed}
use Rattle.test_layers.proofs.junctions.met.Goals as goal

pub narrow_simple-requires-in-And-clause-env_well_formed : goal.narrow_simple-requires-in-And-clause-env_well_formed
narrow_simple-requires-in-And-clause-env_well_formed c =
    let d = c.args.declarations.now in
    let left = expr_of c.args.junction.now.left.now in
    (well_formed (λ (s : BoxStore). IsGiven) tree_of d.parents.now (declared_of tree_of d.declared.now)
    (meanings d.names.now) c.ordered.ensures c.requires.declared_well_formed _ left (env_of tree_of c.args.env)
    c.requires.env_well_formed c.in_ok-first.first c.in_ok-first.ensures.value).where_true

pub narrow_junction-requires-clause-well_formed : goal.narrow_junction-requires-clause-well_formed
narrow_junction-requires-clause-well_formed c =
    let d = c.args.declarations.now in
    let left = expr_of c.args.junction.now.left.now in
    (well_formed (λ (s : BoxStore). IsGiven) tree_of d.parents.now (declared_of tree_of d.declared.now)
    (meanings d.names.now) c.ordered.ensures c.requires.declared_well_formed _ left (env_of tree_of c.args.env)
    c.requires.env_well_formed c.in_ok-first.first c.in_ok-first.ensures.value).where_false

pub narrow_junction-requires-clause-agree : goal.narrow_junction-requires-clause-agree
narrow_junction-requires-clause-agree c =
    let d = c.args.declarations.now in
    let first = c.in_ok-first.first in
    let v = c.in_ok-first.ensures.value in
    rw c.in-And.is (and_agree (λ (s : BoxStore). IsGiven) tree_of d.parents.now (declared_of tree_of d.declared.now)
    (meanings d.names.now) c.ordered.ensures c.requires.declared_well_formed (expr_of c.args.junction.now.left.now)
    (expr_of c.args.junction.now.right.now) (env_of tree_of c.args.env) c.requires.env_well_formed _ first.where_true
    first.where_false c.in_ok-second-in-And.second v.where_true.is v.where_false.is c.in_ok-second-in-And.ensures.value
    (length d.declared.now) (sym (length-map d.declared.now (declared_one tree_of))))

pub returns-in_ok-second-in-And-clause-where_false : goal.returns-in_ok-second-in-And-clause-where_false
returns-in_ok-second-in-And-clause-where_false c = IfOk-weaker c.narrow_junction.result _
    (λ n. HasEach IsGiven n.where_false) (λ n g. g.given) (rw c.in-And.is at c.narrow_junction.ensures.met)

pub narrow_simple-requires-in-Or-clause-env_well_formed : goal.narrow_simple-requires-in-Or-clause-env_well_formed
narrow_simple-requires-in-Or-clause-env_well_formed c =
    let d = c.args.declarations.now in
    let left = expr_of c.args.junction.now.left.now in
    (well_formed (λ (s : BoxStore). IsGiven) tree_of d.parents.now (declared_of tree_of d.declared.now)
    (meanings d.names.now) c.ordered.ensures c.requires.declared_well_formed _ left (env_of tree_of c.args.env)
    c.requires.env_well_formed c.in_ok-first.first c.in_ok-first.ensures.value).where_false

pub narrow_junction-requires-in-Or-clause-well_formed : goal.narrow_junction-requires-in-Or-clause-well_formed
narrow_junction-requires-in-Or-clause-well_formed c =
    let d = c.args.declarations.now in
    let left = expr_of c.args.junction.now.left.now in
    (well_formed (λ (s : BoxStore). IsGiven) tree_of d.parents.now (declared_of tree_of d.declared.now)
    (meanings d.names.now) c.ordered.ensures c.requires.declared_well_formed _ left (env_of tree_of c.args.env)
    c.requires.env_well_formed c.in_ok-first.first c.in_ok-first.ensures.value).where_true

pub narrow_junction-requires-in-Or-clause-agree : goal.narrow_junction-requires-in-Or-clause-agree
narrow_junction-requires-in-Or-clause-agree c =
    let d = c.args.declarations.now in
    let first = c.in_ok-first.first in
    let v = c.in_ok-first.ensures.value in
    rw c.in-Or.is (or_agree (λ (s : BoxStore). IsGiven) tree_of d.parents.now (declared_of tree_of d.declared.now)
    (meanings d.names.now) c.ordered.ensures c.requires.declared_well_formed (expr_of c.args.junction.now.left.now)
    (expr_of c.args.junction.now.right.now) (env_of tree_of c.args.env) c.requires.env_well_formed _ first.where_false
    first.where_true c.in_ok-second-in-Or.second v.where_false.is v.where_true.is c.in_ok-second-in-Or.ensures.value
    (length d.declared.now) (sym (length-map d.declared.now (declared_one tree_of))))

pub returns-in_ok-second-in-Or-clause-where_true : goal.returns-in_ok-second-in-Or-clause-where_true
returns-in_ok-second-in-Or-clause-where_true c = IfOk-weaker c.narrow_junction-in-Or.result _
    (λ n. HasEach IsGiven n.where_true) (λ n g. g.given) (rw c.in-Or.is at c.narrow_junction-in-Or.ensures.met)
