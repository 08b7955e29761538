use Rattle.std.proofs.Common.{List, map, refl}
use Rattle.std.specs.Prelude.{flat_map}
use Rattle.pc_tree.specs.Tree.{param_of}
use Rattle.pc_tree.specs.declared.tree.Param.{Param as RustParam}
use Rattle.pc_detail_rules.specs.Written.{annotated_param}
use Rattle.pc_flow_details.proofs.LocalsHeld.{next_left, none_left}
use Rattle.pc_flow_details.proofs.locals.LocalAnnotations.add_params.Goals as goal

pub loop-param-init : goal.loop-param-init
loop-param-init c = λ before h. record { seen = before; are = h; whole = refl }

pub loop-param-preserved : goal.loop-param-preserved
loop-param-preserved c = λ before h.
    next_left _ _ (λ (xs : List RustParam). flat_map annotated_param (map param_of xs))
    (annotated_param (param_of c.param-item.result)) c.args.params.now c.loop-param.param-index c.param-item.result _ refl
    c.loop-param-test.true c.param-item.is (c.loop-param.invariant before h) c.in_ok-add_param.ensures

pub returns : goal.returns
returns c = λ before h.
    none_left _ (λ (xs : List RustParam). flat_map annotated_param (map param_of xs)) c.args.params.now
    c.loop-param.param-index _ refl c.loop-param-test.false (c.loop-param.invariant before h)
