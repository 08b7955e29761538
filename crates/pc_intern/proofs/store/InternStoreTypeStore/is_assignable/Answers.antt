use Rattle.std.proofs.Common.{◌≡◌, ◌∙◌}
use Rattle.pc_types.specs.Boxed.{tree_of}
use Rattle.pc_types.specs.Computed.{assignable_test}
use Rattle.pc_intern.specs.Store.{tree_of_type}
use Rattle.pc_intern.proofs.Held.{held_within, means_now, assignable_told}
use Rattle.pc_intern.proofs.store.InternStoreTypeStore.is_assignable.Goals as goal

pub returns-in-Some-clause-value : goal.returns-in-Some-clause-value
returns-in-Some-clause-value c =
    assignable_told c.args.parents.now c.args.self.now c.args.s.now c.args.t.now c.in-Some.answers.is_assignable
    c.ordered.ensures c.requires.left c.requires.right c.in-Some.ensures.assignable_test

pub ty-s-requires : goal.ty-s-requires
ty-s-requires c = held_within c.self.inside.table c.args.self.now c.args.s.now (c.self.view_is ∙ c.answers.ensures.same)
    c.requires.left

pub ty-t-requires : goal.ty-t-requires
ty-t-requires c = held_within c.self.inside.table c.args.self.now c.args.t.now (c.self.view_is ∙ c.answers.ensures.same)
    c.requires.right

pub returns-clause-test : goal.returns-clause-test
returns-clause-test c =
    let v = c.self.view_is ∙ c.answers.ensures.same in
    let p : tree_of c.ty-s.result.now ≡ tree_of_type c.args.s.now = means_now c.self.inside.table c.args.self.now
    c.args.s.now c.ty-s.result.now v c.requires.left c.ty-s.ensures.value in
    let q : tree_of c.ty-t.result.now ≡ tree_of_type c.args.t.now = means_now c.self.inside.table c.args.self.now
    c.args.t.now c.ty-t.result.now v c.requires.right c.ty-t.ensures.value in
    c.is_assignable.ensures.test ∙ (λ i. assignable_test c.args.parents.now (p i) (q i))

pub returns-clause-value : goal.returns-clause-value
returns-clause-value c =
    let v = c.self.view_is ∙ c.answers.ensures.same in
    let p : tree_of c.ty-s.result.now ≡ tree_of_type c.args.s.now = means_now c.self.inside.table c.args.self.now
    c.args.s.now c.ty-s.result.now v c.requires.left c.ty-s.ensures.value in
    let q : tree_of c.ty-t.result.now ≡ tree_of_type c.args.t.now = means_now c.self.inside.table c.args.self.now
    c.args.t.now c.ty-t.result.now v c.requires.right c.ty-t.ensures.value in
    rw (← p, ← q) c.is_assignable.ensures.value
