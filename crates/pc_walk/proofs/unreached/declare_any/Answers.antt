use Rattle.pc_walk.proofs.Held.{types_kept}
use Rattle.pc_walk.proofs.Bound.{declared_any}
use Rattle.pc_walk.proofs.unreached.declare_any.Goals as goal
use Rattle.pc_rules.specs.Computed.ModuleParents.{class_parents}

pub returns-clause-declared : goal.returns-clause-declared
returns-clause-declared g c =
    let S = g.S.TypeStore in
    let w = c.args.walk.now in
    let bases = (class_parents w.context.globals.now) in
    let any = c.in_ok-any.ensures.value in
    rw c.declare.ensures (declared_any S.has S.tree bases c.any.new.self w.declared.now c.args.local c.in_ok-any.any any.0
    any.1
    (types_kept S.has S.tree bases _ _ c.any.ensures.kept w.declared.now c.requires))
