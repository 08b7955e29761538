use Rattle.std.proofs.Common.{◌≡◌, ℕ, length, sym, ap, subst, take, ◌∙◌}
use Rattle.std.proofs.lemmas.List.{length-map}
use Rattle.pc_flow.specs.Agreement.{AgreeBelow, TakesInOutside}
use Rattle.pc_flow.specs.Environment.{Env, join_env}
use Rattle.pc_flow.specs.Stored.{env_of, declared_one, declared_of, HasEach}
use Rattle.pc_flow.proofs.Loops.{firsts_given, firsts_env}
use Rattle.pc_flow.proofs.Settled.{agreed_takes_in, joined_firsts}
use Rattle.pc_flow.proofs.joining_onto.join_some.Goals as goal

pub join_at-requires-clause-left : goal.join_at-requires-clause-left
join_at-requires-clause-left g c = subst (HasEach (g.S.TypeStore.has c.args.store.now)) (sym c.first-a.ensures)
    (firsts_given g.S.TypeStore.has g.S.TypeStore.tree c.args.store.now (length c.types.result.now) c.args.a
    c.requires.left)

pub join_at-requires-clause-taken_in : goal.join_at-requires-clause-taken_in
join_at-requires-clause-taken_in g c =
    let tree = g.S.TypeStore.tree in
    let a = env_of tree c.args.a in
    let b = env_of tree c.args.b.now in
    let few : length c.types.result.now ≡ length c.args.declarations.now.declared.now = ap length c.types.ensures in
    let firsts : env_of tree c.first-a.result ≡ take (length c.types.result.now) a = ap (env_of tree) c.first-a.ensures
    ∙ firsts_env g.S.TypeStore.has tree (length c.types.result.now) c.args.a in
    subst (λ (e : Env). TakesInOutside c.args.declarations.now.parents.now c.args.locals.now e b) (sym firsts)
    (agreed_takes_in c.args.declarations.now.parents.now (length c.types.result.now) c.args.locals.now a b
    c.requires.well_formed
    (subst (λ (n : ℕ). AgreeBelow n c.args.locals.now a b) (sym few) c.requires.agree))

pub returns-clause-value : goal.returns-clause-value
returns-clause-value g c =
    let tree = g.S.TypeStore.tree in
    let bases = c.args.declarations.now.parents.now in
    let ds = c.args.declarations.now.declared.now in
    let a = env_of tree c.args.a in
    let b = env_of tree c.args.b.now in
    let firsts : env_of tree c.first-a.result ≡ take (length c.types.result.now) a = ap (env_of tree) c.first-a.ensures
    ∙ firsts_env g.S.TypeStore.has tree (length c.types.result.now) c.args.a in
    record {
      given = c.in_ok-met.ensures.value.given;
      is = c.in_ok-met.ensures.value.is ∙ ap (λ (e : Env). join_env bases (declared_of tree ds) e b) firsts
          ∙ joined_firsts bases (length c.types.result.now) (declared_of tree ds) a b
          (ap length c.types.ensures ∙ sym (length-map ds (declared_one tree)));
    }
