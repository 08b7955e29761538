use Rattle.std.proofs.Common.{◌≡◌}
use Rattle.pc_types.specs.Boxed.{tree_of}
use Rattle.pc_types.specs.Join.{join}
use Rattle.pc_intern.specs.Store.{tree_of_type}
use Rattle.pc_intern.proofs.Held.{held_within, means_now}
use Rattle.pc_intern.proofs.Kept.{joined_as}
use Rattle.pc_intern.proofs.store.InternStore.boxes_join.Goals as goal

pub ty-s-requires : goal.ty-s-requires
ty-s-requires c = held_within c.self.inside.table c.args.self.now c.args.s.now c.self.view_is c.requires.left

pub ty-t-requires : goal.ty-t-requires
ty-t-requires c = held_within c.self.inside.table c.args.self.now c.args.t.now c.self.view_is c.requires.right

pub returns : goal.returns
returns c =
    let p : tree_of c.ty-s.result.now ≡ tree_of_type c.args.s.now = means_now c.self.inside.table c.args.self.now
    c.args.s.now c.ty-s.result.now c.self.view_is c.requires.left c.ty-s.ensures.value in
    let q : tree_of c.ty-t.result.now ≡ tree_of_type c.args.t.now = means_now c.self.inside.table c.args.self.now
    c.args.t.now c.ty-t.result.now c.self.view_is c.requires.right c.ty-t.ensures.value in
    joined_as c.in_ok-join.field-0 (join c.args.parents.now (tree_of c.ty-s.result.now) (tree_of c.ty-t.result.now))
    (join c.args.parents.now (tree_of_type c.args.s.now) (tree_of_type c.args.t.now))
    (λ i. join c.args.parents.now (p i) (q i)) c.in_ok-join.ensures.value
