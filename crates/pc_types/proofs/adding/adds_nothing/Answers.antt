use Rattle.std.proofs.Common.{refl}
use Rattle.pc_types.specs.Boxed.{tree_of}
use Rattle.pc_types.proofs.Staying.{join_stays}
use Rattle.pc_types.proofs.adding.adds_nothing.Goals as goal

pub returns : goal.returns
returns c =
    let l = c.if-not-has_members.ensures in
    let r = c.if-not-has_members-2.ensures in
    λ h. join_stays c.args.parents.now (tree_of c.args.s.now) (tree_of c.args.t.now)
    (l.listed refl c.requires.left.normal) (l.any refl) (r.listed refl c.requires.right.normal) (r.any refl)
    c.requires.left.small (c.stays.ensures h)
