use Rattle.std.proofs.Common.{◌≡◌, ◌∙◌, ◌++◌, ap, subst}
use Rattle.std.specs.Prelude.{map}
use Rattle.pc_tree.specs.Tree.{stmt_of_kind}
use Rattle.pc_tree.specs.Stopping.{bound_by_stmt}
use Rattle.pc_scope.specs.Internal.WalkViews.{name_seen}
use Rattle.pc_flow.specs.Stored.{env_of}
use Rattle.pc_module_rules.specs.Computed.Statements.{DeclaredTypes}
use Rattle.pc_walk.specs.Internal.BoundNames.{unreached_numbers}
use Rattle.pc_walk.specs.Touched.{numbers_of}
use Rattle.pc_walk.specs.Walks.{IsEnv, body_context_in}
use Rattle.pc_walk.proofs.Numbers.{unreached_by}
use Rattle.pc_walk.proofs.unreached.declare_unreached.Goals as goal

pub returns-clause-declared : goal.returns-clause-declared
returns-clause-declared g c = λ p.
    let S = g.S.TypeStore in
    let w = c.args.walk.now in
    let new = c.declare_each.new.walk in
    let context = body_context_in S w in
    let resolve = context.context.resolve in
    let names = bound_by_stmt (stmt_of_kind p c.args.kind.now) in
    let seen : map name_seen c.add_bound_by.new.names.items ≡ names =
    c.in_ok-add_bound_by.ensures p ∙ ap (λ xs. map name_seen xs ++ names) c.new-bound.ensures.items in
    let numbers : c.deref-2.result.now ≡ numbers_of resolve names =
    c.deref-2.ensures.value ∙ c.in_ok-locals.ensures
    ∙ ap (λ xs. numbers_of resolve (map name_seen xs)) c.deref.ensures.value ∙ ap (numbers_of resolve) seen in
    let table = env_of S.tree w.declared.now in
    subst (λ (t : DeclaredTypes). IsEnv S new new.declared.now t)
    (ap (unreached_numbers table) numbers ∙ unreached_by context table names) c.in_ok-declare_each.ensures.declared
