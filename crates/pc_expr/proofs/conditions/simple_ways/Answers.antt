use Rattle.std.proofs.Common.{sym, subst}
use Rattle.pc_tree.specs.Tree.{expr_of}
use Rattle.pc_flow.specs.Naming.{meanings}
use Rattle.pc_flow.specs.Stored.{env_of, declared_of}
use Rattle.pc_flow.specs.WellFormed.{IsWellFormedEnv}
use Rattle.pc_flow.proofs.Both.{well_formed}
use Rattle.pc_rules.specs.Computed.Standing.{standing_of}
use Rattle.pc_rules.specs.Computed.ModuleParents.{class_parents}
use Rattle.pc_expr.proofs.WaysGiven.{ways_of}
use Rattle.pc_expr.proofs.conditions.simple_ways.Goals as goal

pub returns-clause-ways : goal.returns-clause-ways
returns-clause-ways g c =
    let has = g.S.TypeStore.has in
    let tree = g.S.TypeStore.tree in
    let s = c.args.context.now in
    let e = expr_of c.args.e.now in
    let copy = c.in_ok-copy in
    let well = subst (IsWellFormedEnv (class_parents s.globals.now)) (sym copy.ensures.is)
    c.requires.given.env_well_formed in
    ways_of has tree s (standing_of tree s c.args.env.now) e _ _ _ c.narrow_simple.ensures.kept c.args.env.now
    c.requires.given (env_of tree copy.copy) copy.ensures.is
    (well_formed has tree (class_parents s.globals.now) (declared_of tree s.declared.now) (meanings s.names.now)
    c.ordered.ensures c.requires.given.declared_well_formed _ e (env_of tree copy.copy) well _
    c.in_ok-ways.ensures.value)
