use Rattle.pc_intern.specs.Store.{tree_of_type}
use Rattle.pc_intern.proofs.Held.{held_within}
use Rattle.pc_intern.proofs.Itself.{static_test_itself, assignable_test_itself}
use Rattle.pc_intern.proofs.store.InternStore.answers.Goals as goal

pub returns-then-is_same-clause-static_test : goal.returns-then-is_same-clause-static_test
returns-then-is_same-clause-static_test c =
    static_test_itself c.args.parents.now (tree_of_type c.args.s.now) (tree_of_type c.args.t.now) c.ordered.ensures
    c.requires.left.normal c.requires.right.normal (c.is_same.ensures.0 c.if-is_same.true)

pub returns-then-is_same-clause-assignable_test : goal.returns-then-is_same-clause-assignable_test
returns-then-is_same-clause-assignable_test c =
    assignable_test_itself c.args.parents.now (tree_of_type c.args.s.now) (tree_of_type c.args.t.now) c.ordered.ensures
    c.requires.left.normal c.requires.right.normal (c.is_same.ensures.0 c.if-is_same.true)

pub is_simple-requires : goal.is_simple-requires
is_simple-requires c = held_within c.self.inside.table c.args.self.now c.args.s.now c.self.view_is c.requires.left

pub is_simple-requires-then-is_simple : goal.is_simple-requires-then-is_simple
is_simple-requires-then-is_simple c = held_within c.self.inside.table c.args.self.now c.args.t.now c.self.view_is
    c.requires.right

pub compare-answers-requires-clause-left : goal.compare-answers-requires-clause-left
compare-answers-requires-clause-left c = held_within c.self.inside.table c.args.self.now c.args.s.now c.self.view_is
    c.requires.left

pub compare-answers-requires-clause-right : goal.compare-answers-requires-clause-right
compare-answers-requires-clause-right c = held_within c.self.inside.table c.args.self.now c.args.t.now c.self.view_is
    c.requires.right
