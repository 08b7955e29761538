use Rattle.std.proofs.Common.{subst}
use Rattle.std.specs.Prelude.{IsTrue, ◌↔◌}
use Rattle.pc_types.specs.Below.{Below}
use Rattle.pc_types.specs.Tree.{Class}
use Rattle.pc_annotations.proofs.Earlier.{smaller}
use Rattle.pc_annotations.specs.Bases.{bases_of}
use Rattle.pc_detail_facts.specs.Held.{module_held}
use Rattle.pc_type_details.proofs.ClassesBelow.{other_class}
use Rattle.pc_type_details.proofs.attributes.is_below.Goals as goal

pub returns : goal.returns
returns c =
    let m = module_held c.args.facts.now in
    other_class (bases_of m) c.args.class c.args.above c.is_sub.result (smaller m) c.if-class-above.false
    (subst (λ bases. IsTrue c.is_sub.result ↔ Below bases (Class c.args.class) (Class c.args.above))
    c.requires.parents c.is_sub.ensures)
