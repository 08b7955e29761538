use Rattle.pc_flow.specs.Naming.{meanings}
use Rattle.std.proofs.Common.{◌≡◌, ◌∙◌, ℕ, ap, subst}
use Rattle.std.specs.Prelude.{Bool as Test}
use Rattle.pc_flow.specs.Agreement.{is_among}
use Rattle.pc_flow.specs.Environment.{loop_head}
use Rattle.pc_flow.specs.Stored.{env_of}
use Rattle.pc_module_rules.specs.Statements.{binds_number}
use Rattle.pc_module_rules.specs.Computed.Statements.{type_table}
use Rattle.pc_walk.specs.Walks.{IsEnv}
use Rattle.pc_walk.proofs.Numbers.{numbers_bind}
use Rattle.pc_walk.proofs.loops.loop_start.Goals as goal

pub returns-clause-head : goal.returns-clause-head
returns-clause-head g c = λ names e.
    let S = g.S.TypeStore in
    let w = c.args.walk.now in
    let resolve = meanings w.context.names.now in
    let among : ℕ → Test = λ x. is_among c.args.locals.now x in
    let alike : among ≡ binds_number resolve names = λ i x. (ap (λ ns. is_among ns x) e ∙ numbers_bind resolve names x)
    i in
    let declared = type_table (env_of S.tree w.declared.now) in
    subst (λ (bound : ℕ → Test). IsEnv S c.head_in.new.walk c.in_ok-head.head
    (loop_head bound declared (env_of S.tree c.args.env.now))) alike c.in_ok-head.ensures.head
