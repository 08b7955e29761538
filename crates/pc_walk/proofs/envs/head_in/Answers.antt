use Rattle.std.proofs.Common.{List, subst}
use Rattle.pc_types.specs.Tree.{Tree}
use Rattle.pc_flow.specs.Agreement.{is_among}
use Rattle.pc_flow.specs.Environment.{loop_head}
use Rattle.pc_flow.specs.Stored.{env_of, declared_of}
use Rattle.pc_flow.proofs.Conditions.{heads_well_formed}
use Rattle.pc_rules.specs.Computed.ModuleParents.{class_parents}
use Rattle.pc_walk.specs.StatementsHeld.{GivesTypes}
use Rattle.pc_walk.proofs.Held.{declared_is, declared_well_formed, gives_types}
use Rattle.pc_walk.proofs.envs.head_in.Goals as goal

pub returns-clause-head : goal.returns-clause-head
returns-clause-head g c =
    let has = g.S.TypeStore.has in
    let tree = g.S.TypeStore.tree in
    let w = c.args.walk.now in
    let bases = (class_parents w.context.globals.now) in
    let declared = declared_of tree w.declared.now in
    let env = env_of tree c.args.env.now in
    let store = c.loop_head.new.store in
    let types = c.in_ok-head.head in
    let well_formed = heads_well_formed bases (λ x. is_among c.args.bound.now x) declared env
    (declared_well_formed tree bases w.declared.now c.requires.declared.well_formed) c.requires.env.well_formed in
    subst (λ (ds : List Tree). GivesTypes has tree bases store types
    (loop_head (λ x. is_among c.args.bound.now x) ds env))
    (declared_is tree w.declared.now)
    (gives_types has tree bases store types (loop_head (λ x. is_among c.args.bound.now x) declared env)
    c.in_ok-head.ensures.value well_formed)
