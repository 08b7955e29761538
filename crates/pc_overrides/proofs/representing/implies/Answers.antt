use Rattle.std.proofs.Common.{◌∙◌, sym, ap}
use Rattle.pc_tree.specs.Tree.{module_of}
use Rattle.pc_annotations.specs.Bases.{bases_of}
use Rattle.pc_annotations.proofs.Earlier.{smaller}
use Rattle.pc_class.specs.Tables.{method_with}
use Rattle.pc_overrides.specs.declared.overriding.Relation.TheVariants as relations
use Rattle.pc_overrides.specs.Internal.OverrideTests.{meets}
use Rattle.pc_overrides.proofs.ImpliedDemands.{implied}
use Rattle.pc_overrides.proofs.representing.implies.Goals as goal

pub returns-clause-value : goal.returns-clause-value
returns-clause-value g c =
    let j = c.args.judging.now in
    let m = module_of j.tree.now in
    let tree = g.S.TypeStore.tree in
    let new = method_with tree c.args.new.now in
    let old = method_with tree c.args.old.now in
    let part = c.args.part in
    let tested = ap (λ bs. meets relations.Static bs new old part) (sym c.requires.judging.parents)
    ∙ sym (rw c.parents-parents.ensures at c.meets.ensures.value) ∙ c.if-not-meets.false in
    λ e. implied (bases_of m) (smaller m) new old c.requires.types c.requires.old_types part tested
    (c.in_ok-subsumed.ensures e)
