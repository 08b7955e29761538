use Rattle.std.proofs.Common.{◌≡◌, List, Option, sym, min, take, length, subst, ◌∙◌}
use Rattle.pc_flow.specs.Agreement.{TakesInOutside}
use Rattle.pc_flow.specs.Declarations.{join_with}
use Rattle.pc_flow.specs.Stored.{env_of, HasEach, GivesEnv}
use Rattle.pc_flow.proofs.joining_onto.join_at.Goals as goal

pub join_each-requires-clause-left : goal.join_each-requires-clause-left
join_each-requires-clause-left g c =
    let copy : c.in_ok-before.before ≡ c.args.a = c.in_ok-before.ensures in
    subst (λ (types : List (Option g.row.S-Ty.Denot)). HasEach (g.S.TypeStore.has c.args.store.now) types) (sym copy)
    c.requires.left

pub join_each-requires-clause-firsts : goal.join_each-requires-clause-firsts
join_each-requires-clause-firsts g c =
    let copy : c.in_ok-before.before ≡ c.args.a = c.in_ok-before.ensures in
    let few : c.min.result ≡ min (length c.args.declarations.now.declared.now) (length c.args.b.now) = c.min.ensures
    ∙ (λ i. min (length (c.types.ensures i)) (c.len.ensures i)) in
    c.first-env.ensures ∙ (λ i. take (few i) (sym copy i))

pub join_each-requires-clause-taken_in : goal.join_each-requires-clause-taken_in
join_each-requires-clause-taken_in g c =
    let tree = g.S.TypeStore.tree in
    let copy : c.in_ok-before.before ≡ c.args.a = c.in_ok-before.ensures in
    subst (λ (types : List (Option g.row.S-Ty.Denot)). TakesInOutside c.args.declarations.now.parents.now
    c.args.locals.now (env_of tree types) (env_of tree c.args.b.now)) (sym copy) c.requires.taken_in

pub returns-clause-value : goal.returns-clause-value
returns-clause-value g c =
    let tree = g.S.TypeStore.tree in
    let copy : c.in_ok-before.before ≡ c.args.a = c.in_ok-before.ensures in
    subst (λ (types : List (Option g.row.S-Ty.Denot)). GivesEnv g.S.TypeStore.has tree c.join_each.new.store
    c.join_each.new.env (join_with tree c.args.declarations.now (env_of tree types) (env_of tree c.args.b.now))) copy
    c.in_ok-unsettled.ensures.value
