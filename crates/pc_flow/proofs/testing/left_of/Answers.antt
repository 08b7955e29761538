use Rattle.std.proofs.Common.{refl, ap}
use Rattle.std.specs.Prelude.{Some}
use Rattle.pc_flow.specs.declared.testing.TestRelation.TheVariants.{Beside}
use Rattle.pc_flow.proofs.Members.{leaves_at}
use Rattle.pc_flow.proofs.testing.left_of.Goals as goal

pub returns-in_ok-member-in-Beside-clause-value : goal.returns-in_ok-member-in-Beside-clause-value
returns-in_ok-member-in-Beside-clause-value g c =
    let l = leaves_at c.args.parents.now c.args.test (g.S.TypeStore.tree c.args.member.now) _ _ Beside c.requires.one
    c.head-head.ensures.head c.how_stands.ensures c.in-Beside.is in
    rw (l.0, l.1) (record {
      passing = record { given = tt; is = refl };
      failing =
          record { given = c.in_ok-member-in-Beside.ensures.0; is = ap Some c.in_ok-member-in-Beside.ensures.1 };
    })
