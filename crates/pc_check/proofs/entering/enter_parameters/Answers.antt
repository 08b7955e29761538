use Rattle.pc_flow.specs.Naming.{meanings}
use Rattle.std.proofs.Common.{◌∙◌, ◌+◌, refl, sym, ap, subst, drop, arith}
use Rattle.std.proofs.lemmas.List.{drop_all}
use Rattle.std.proofs.lemmas.List.Elements.{All-get_or}
use Rattle.pc_tree.proofs.Stops.{cons_at}
use Rattle.pc_class.specs.declared.table.Parameter.{Parameter}
use Rattle.pc_class.specs.Tables.{parameters_with}
use Rattle.pc_flow.specs.Stored.{env_of}
use Rattle.pc_module_rules.specs.Computed.Statements.{BindingResult, enter_name, enter_parameters}
use Rattle.pc_walk.specs.Walks.{HoldsOne}
use Rattle.pc_walk.proofs.Walks.{same_walk, goes_further, one_kept}
use Rattle.pc_check.specs.Internal.Entry.{entered}
use Rattle.pc_check.proofs.entering.enter_parameters.Goals as goal

pub enter_name-requires-clause-ty : goal.enter_name-requires-clause-ty
enter_name-requires-clause-ty g c =
    let S = g.S.TypeStore in
    let old = c.args.walk.now in
    let here = c.loop-param in
    let held = All-get_or (λ (p : Parameter _). HoldsOne S old p.ty) c.args.params.now here.param-index
    c.param-item.result c.loop-param-test.true c.requires.params in
    one_kept S old here.walk c.param-item.result.ty here.invariant.goes_on
    (subst (λ (p : Parameter _). HoldsOne S old p.ty) (sym c.param-item.is) held)

pub loop-param-init : goal.loop-param-init
loop-param-init g c = record { goes_on = same_walk; stands = c.requires.stands; is = refl; found = refl }

pub loop-param-preserved : goal.loop-param-preserved
loop-param-preserved g c =
    let tree = g.S.TypeStore.tree in
    let here = c.loop-param in
    let v = here.invariant in
    let b = c.in_ok-enter_name.ensures.bound in
    let on = c.enter_name.ensures.goes_on in
    let i = here.param-index in
    let ps = c.args.params.now in
    let p = c.param-item.result in
    let table = env_of tree here.walk.declared.now in
    let env = env_of tree here.env in
    let resolve = meanings here.walk.context.names.now in
    let rest = parameters_with tree (drop (i + 1) ps) in
    let next = ap (parameters_with tree) (cons_at ps i p c.loop-param-test.true c.param-item.is) in
    let both = ap (λ (r : BindingResult). (r.table, r.env)) b.is
    ∙ ap (λ name. enter_name table env (resolve name) (tree p.ty)) c.as_str.ensures.value in
    let pushed = ap (λ (r : BindingResult). r.found) b.is in
    record {
      goes_on = goes_further v.goes_on on;
      stands = b.stands;
      is = (λ j. enter_parameters (meanings (on.context j).names.now) (both j).0 (both j).1 rest)
          ∙ sym (ap (enter_parameters resolve table env) next) ∙ v.is;
      found = pushed ∙ v.found;
    }

pub returns-clause-bound : goal.returns-clause-bound
returns-clause-bound g c =
    let tree = g.S.TypeStore.tree in
    let here = c.loop-param in
    let v = here.invariant in
    let table = env_of tree here.walk.declared.now in
    let env = env_of tree here.env in
    let resolve = meanings here.walk.context.names.now in
    let left = ap (parameters_with tree) (drop_all here.param-index c.args.params.now (omega arith)) in
    let is = sym (ap (enter_parameters resolve table env) left) ∙ v.is in
    record { is = (λ i. entered (is i) (v.found i)); stands = v.stands }
