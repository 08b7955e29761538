use Rattle.std.proofs.Common.{List, subst, sym, ap, map, take, arith}
use Rattle.std.specs.BTreeMap.{is_at}
use Rattle.std.specs.Cmp.Lexicographic.{slice_cmp}
use Rattle.std.specs.Map.{lookup}
use Rattle.std.specs.Option.{option_map}
use Rattle.std.specs.Ordering.{nat_cmp}
use Rattle.std.specs.Prelude.{flat_map}
use Rattle.pc_detail_facts.specs.Held.{body_of}
use Rattle.pc_name_details.specs.Uses.{AreBound, Binding, bindings_of, pair_bound}
use Rattle.std.proofs.lemmas.List.{take_all}
use Rattle.pc_detail_facts.specs.declared.definitions.Body.{Body as RustBody}
use Rattle.pc_name_details.proofs.NamingSteps.{flat_mapped}
use Rattle.pc_name_details.proofs.bindings.Bindings.of.Goals as goal

pub loop-body-init : goal.loop-body-init
loop-body-init c = record {
  at = λ word. ap (λ es. option_map pair_bound (lookup (is_at (λ k. slice_cmp nat_cmp word k.now)) es))
      c.new.ensures.empty;
}

pub loop-body-preserved : goal.loop-body-preserved
loop-body-preserved c = subst (λ (bs : List Binding). AreBound c.add_body.new.self bs)
    (sym (flat_mapped body_of bindings_of c.args.bodies.now c.loop-body.body-index c.body-item.result
    c.loop-body-test.true c.body-item.is))
    (c.in_ok-add_body.ensures (flat_map bindings_of (map body_of (take c.loop-body.body-index c.args.bodies.now)))
    c.loop-body.invariant)

pub returns : goal.returns
returns c = subst (λ (l : List RustBody). AreBound c.loop-body.bindings (flat_map bindings_of (map body_of l)))
    (take_all c.loop-body.body-index c.args.bodies.now (omega arith)) c.loop-body.invariant
