use Rattle.std.proofs.Common.{◌∙◌, ap}
use Rattle.pc_types.specs.Below.{base_of}
use Rattle.pc_annotations.specs.Bases.{bases_of}
use Rattle.pc_class.specs.Overrides.{overridden}
use Rattle.pc_class.specs.OverrideFindings.{override_code}
use Rattle.pc_class.specs.Tables.{method_with}
use Rattle.pc_overrides.specs.Internal.OverrideTests.{module_judged, methods_above}
use Rattle.pc_overrides.proofs.AlikeMethods.{alike_code}
use Rattle.pc_overrides.proofs.OverrideWalk.{method_given}
use Rattle.pc_overrides.proofs.judging.judged_alike.Goals as goal

pub is_alike-requires-clause-left : goal.is_alike-requires-clause-left
is_alike-requires-clause-left g c =
    let j = c.args.judging.now in
    let known = c.in-Some.ensures g.S.TypeStore.tree j c.requires.judged in
    method_given (g.S.TypeStore.has c.args.store.now) j.classes.now c.in-Some.known.now.method.now c.requires.table
    known.0.method

pub returns-then-branch : goal.returns-then-branch
returns-then-branch g c =
    let j = c.args.judging.now in
    let tree = g.S.TypeStore.tree in
    let bases = bases_of (module_judged j) in
    let above = methods_above j (base_of bases c.args.old.now.owner) in
    let k = c.in-Some.known.now in
    let x = method_with tree k.method.now in
    let known = c.in-Some.ensures tree j c.requires.judged in
    known.0.code ∙ ap (λ name. override_code bases (overridden above name) x) known.1
    ∙ alike_code bases (overridden above _) x (method_with tree c.args.method.now)
    (c.in_ok-is_alike-in-Some.ensures c.if-branch.true)
