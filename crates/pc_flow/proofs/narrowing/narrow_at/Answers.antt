use Rattle.std.proofs.Common.{sym, ap, Some, ◌∙◌}
use Rattle.std.specs.Prelude.{if◌then◌else◌}
use Rattle.std.specs.Option.{option_copied}
use Rattle.std.proofs.lemmas.Result.{IfOk-weaker}
use Rattle.pc_flow.specs.Environment.{assign}
use Rattle.pc_flow.specs.Narrowing.{narrow_local}
use Rattle.pc_flow.specs.Stored.{env_of}
use Rattle.pc_flow.specs.Tests.{tested_of}
use Rattle.pc_flow.specs.Ways.{GivesBoth}
use Rattle.pc_flow.proofs.Given.{each_kept}
use Rattle.pc_flow.proofs.Assigned.{local_current, local_well_formed, split_narrows, both_as}
use Rattle.pc_flow.proofs.narrowing.narrow_at.Goals as goal

pub split_type-requires-clause-well_formed : goal.split_type-requires-clause-well_formed
split_type-requires-clause-well_formed g c = local_well_formed g.S.TypeStore.tree c.args.parents.now c.args.env
    c.args.local _ c.requires.well_formed (sym c.current.ensures ∙ ap option_copied c.in-Some.is)

pub assign_split-requires-clause-env : goal.assign_split-requires-clause-env
assign_split-requires-clause-env g c = each_kept g.S.TypeStore.has _ _ c.split_type.ensures.kept c.args.env
    c.requires.env

pub returns-in_ok-split-in-Some-clause-value : goal.returns-in_ok-split-in-Some-clause-value
returns-in_ok-split-in-Some-clause-value g c =
    let has = g.S.TypeStore.has in
    let tree = g.S.TypeStore.tree in
    let bases = c.args.parents.now in
    let test = tested_of c.args.test in
    let x = c.args.local in
    let env = env_of tree c.args.env in
    let split = c.in_ok-split-in-Some.split in
    let store = c.split_type.new.store in
    let ty = c.in-Some.ty.now in
    let now = local_current tree c.args.env x (Some ty) (sym c.current.ensures ∙ ap option_copied c.in-Some.is) in
    let left = c.in_ok-split-in-Some.ensures.value in
    IfOk-weaker c.assign_split.result (λ n. GivesBoth has tree store n
    (λ holds. assign env x (if holds then tree split.passing else tree split.failing)))
    (λ n. GivesBoth has tree store n (λ holds. narrow_local bases holds test (Some x) env))
    (λ n. both_as has tree store n (λ holds. assign env x (if holds then tree split.passing else tree split.failing))
    (λ holds. narrow_local bases holds test (Some x) env) (split_narrows bases test x env (tree ty)
    (tree split.passing) (tree split.failing) now left.passing.1 left.failing.1))
    c.assign_split.ensures
