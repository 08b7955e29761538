use Rattle.std.proofs.Common.{◌≡◌, ◌≤◌, ◌<◌, ◌+◌, ap, arith, length}
use Rattle.pc_types.specs.Shape.{nodes, members}
use Rattle.pc_types.specs.Boxed.{tree_of}
use Rattle.pc_types.proofs.Nodes.{members_nodes}
use Rattle.pc_types.proofs.shape.+count_members.Goals as goal

pub overflow_add-result : goal.overflow_add-result
overflow_add-result t c =
    let n : nodes (tree_of c.args.t.now) ≡ 1 + nodes (tree_of c.in-Union.field-0.value) + nodes
    (tree_of c.in-Union.others.value) = ap (λ x. nodes (tree_of x)) c.in-Union.is in
    let d : nodes (tree_of c.deref.result.now) ≡ nodes (tree_of c.in-Union.others.value) = ap (λ x. nodes (tree_of x))
    c.deref.ensures in
    let m : length (members (tree_of c.deref.result.now)) ≤ nodes (tree_of c.deref.result.now) = members_nodes _ in
    let s : c.count_members.result < 257 = omega (arith, n, d, m, c.count_members.ensures, c.requires) in
    grind (arith, s)
