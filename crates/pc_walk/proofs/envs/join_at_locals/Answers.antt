use Rattle.std.proofs.Common.{List, subst}
use Rattle.pc_types.specs.Tree.{Tree}
use Rattle.pc_flow.specs.Environment.{join_env}
use Rattle.pc_flow.specs.Stored.{env_of, declared_of}
use Rattle.pc_flow.proofs.Conditions.{joins_well_formed}
use Rattle.pc_rules.specs.Computed.ModuleParents.{class_parents}
use Rattle.pc_walk.specs.StatementsHeld.{GivesTypes}
use Rattle.pc_walk.proofs.Held.{declared_is, declared_well_formed, gives_types}
use Rattle.pc_walk.proofs.envs.join_at_locals.Goals as goal

pub returns-clause-joined : goal.returns-clause-joined
returns-clause-joined g c =
    let has = g.S.TypeStore.has in
    let tree = g.S.TypeStore.tree in
    let w = c.args.walk.now in
    let bases = (class_parents w.context.globals.now) in
    let declared = declared_of tree w.declared.now in
    let a = env_of tree c.args.a in
    let b = env_of tree c.args.b.now in
    let store = c.join_env_onto.new.store in
    let types = c.in_ok-met.met.env in
    let well_formed = joins_well_formed bases declared a b c.ordered.ensures
    (declared_well_formed tree bases w.declared.now c.requires.declared.well_formed) c.requires.left.well_formed
    c.requires.right.well_formed in
    subst (λ (ds : List Tree). GivesTypes has tree bases store types (join_env bases ds a b))
    (declared_is tree w.declared.now)
    (gives_types has tree bases store types (join_env bases declared a b) c.in_ok-met.ensures.value well_formed)
