use Rattle.std.proofs.Common.{ℕ, List, refl}
use Rattle.std.specs.Prelude.{Some, IfSome}
use Rattle.pc_class.specs.Facts.{Method}
use Rattle.pc_class.specs.Tables.{method_lent}
use Rattle.pc_overrides.specs.Internal.OverrideTests.{module_judged}
use Rattle.pc_overrides.specs.Internal.Representing.{Represent}
use Rattle.pc_overrides.proofs.KnownMethods.{known_of}
use Rattle.pc_overrides.proofs.OverrideWalk.{owner_has, found_there}
use Rattle.pc_overrides.proofs.known.nearest_judged.Goals as goal

pub returns-in-Some-method : goal.returns-in-Some-method
returns-in-Some-method g c = λ tree judging known.
    let j = c.args.judging.now in
    let m = module_judged j in
    let name = c.args.name.now in
    let old = c.in-Some-method.old in
    let there = found_there tree j.classes.now m c.in-Some.class name name c.method.result (Some old) judging.classes
    refl (c.method.ensures.value tree) c.in-Some-method.is in
    owner_has m name (λ (t : List ℕ) (olds : List Method). IfSome c.judged_at.result (λ k. Represent tree j t olds
    k.now.demands.items k.now.rest)) c.args.base c.in-Some.class (method_lent tree old) c.in-Some.is there
    (known_of tree j c.judged_at.result old.now (c.judged_at.ensures tree j known))
