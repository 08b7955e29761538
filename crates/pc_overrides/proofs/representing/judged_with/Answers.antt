use Rattle.std.specs.Prelude.{string_bytes}
use Rattle.pc_annotations.specs.Bases.{bases_of}
use Rattle.pc_class.specs.Overrides.{overridden}
use Rattle.pc_class.specs.Tables.{method_with}
use Rattle.pc_overrides.specs.Internal.OverrideTests.{module_judged, methods_above}
use Rattle.pc_overrides.proofs.Demands.{enough_alone}
use Rattle.pc_overrides.proofs.representing.judged_with.Goals as goal

pub returns-clause-known : goal.returns-clause-known
returns-clause-known g c =
    let j = c.args.judging.now in
    let tree = g.S.TypeStore.tree in
    let bases = bases_of (module_judged j) in
    let method = c.args.method.now in record {
      listed = c.in_ok-own.ensures.listed tree j c.requires.method;
      enough = enough_alone tree bases c.in_ok-own.own.items (method_with tree method)
          (overridden (methods_above j c.args.above.now.base) (string_bytes method.name))
          (λ relation z. c.in_ok-own.ensures.own tree relation bases z);
    }
