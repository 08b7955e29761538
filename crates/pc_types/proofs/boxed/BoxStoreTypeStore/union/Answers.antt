use Rattle.std.proofs.Common.{◌≡◌, ◌≤◌, ap, sym, ◌∙◌, arith}
use Rattle.pc_types.specs.Shape.{nodes}
use Rattle.pc_types.specs.Boxed.{tree_of}
use Rattle.pc_types.proofs.Nodes.{given_as}
use Rattle.pc_types.proofs.boxed.BoxStoreTypeStore.union.Goals as goal

pub returns-clause-value : goal.returns-clause-value
returns-clause-value c =
    let e = c.in_ok-union.ensures in
    let n : nodes (tree_of c.in_ok-union.union) ≡ nodes _ = ap nodes e in
    let l : nodes _ ≤ 256 = omega arith in
    (given_as _ _ e c.requires.order l, e, l)
