use Rattle.std.proofs.Common.{◌++◌, None, ap}
use Rattle.pc_tree.specs.Tree.{expr_of, option_expr_of}
use Rattle.pc_flow.specs.Environment.{Env}
use Rattle.pc_rules.specs.Computed.Standing.{finds_in}
use Rattle.pc_module_rules.specs.Computed.Statements.{option_finds}
use Rattle.pc_walk.specs.Walks.{body_context_in, standing_in}
use Rattle.pc_walk.proofs.Walks.{env_given, found_then}
use Rattle.pc_statements.proofs.leaving.check_assert.Goals as goal

pub returns-clause-behind : goal.returns-clause-behind
returns-clause-behind g c = env_given g.S.TypeStore c.type_condition.new.walk c.find_option.new.walk _ _
    c.find_option.ensures.goes_on c.in_ok-where_true.ensures.where_true

pub returns-clause-finds : goal.returns-clause-finds
returns-clause-finds g c =
    let S = g.S.TypeStore in
    let old = c.args.walk.now in
    let K = standing_in S old c.args.env in
    found_then S old c.type_condition.new.walk c.find_option.new.walk _ _ _ _ _ c.type_condition.ensures.goes_on
    c.find_option.ensures.goes_on c.in_ok-where_true.ensures.finds c.in_ok-find_option.ensures.finds
    (ap (λ (x : Env). finds_in K None (expr_of c.args.condition.now) ++ option_finds (body_context_in S old)
    (record { context = K.context; declared = K.declared; env = x; keeps = K.keeps }) None
    (option_expr_of c.args.message.now))
    c.in_ok-where_true.ensures.where_false.is)
