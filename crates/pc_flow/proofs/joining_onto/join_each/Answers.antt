use Rattle.std.proofs.Common.{◌+◌, ℕ, List, refl, sym, get_or, take, subst}
use Rattle.pc_flow.specs.Agreement.{is_among}
use Rattle.pc_flow.proofs.Given.{each_kept, keeps_both}
use Rattle.pc_flow.proofs.Loops.{one_more_among, join_begins, join_goes_on}
use Rattle.pc_flow.proofs.Settled.{HoldsOf, IsSettled, none_joined, one_joined, onto_ends, onto_takes_in}
use Rattle.pc_flow.proofs.joining_onto.join_each.Goals as goal

pub set_joined-requires-clause-declared : goal.set_joined-requires-clause-declared
set_joined-requires-clause-declared g c = each_kept g.S.TypeStore.has _ _ c.loop-local.invariant.kept
    c.args.declarations.now.declared.now c.requires.declared

pub set_joined-requires-clause-left : goal.set_joined-requires-clause-left
set_joined-requires-clause-left g c = each_kept g.S.TypeStore.has _ _ c.loop-local.invariant.kept
    c.args.paths.now.first.now c.requires.left

pub set_joined-requires-clause-right : goal.set_joined-requires-clause-right
set_joined-requires-clause-right g c = each_kept g.S.TypeStore.has _ _ c.loop-local.invariant.kept
    c.args.paths.now.second.now c.requires.right

pub set_joined-requires-clause-met : goal.set_joined-requires-clause-met
set_joined-requires-clause-met g c = c.loop-local.invariant.value.given

pub loop-local-init : goal.loop-local-init
loop-local-init g c = record {
  kept = λ ty h. h;
  value = join_begins g.S.TypeStore.has g.S.TypeStore.tree c.args.declarations.now.parents.now
      c.args.declarations.now.declared.now c.args.paths.now.first.now c.args.paths.now.second.now c.args.store.now
      (is_among (take 0 c.args.locals.now)) _ c.args.env.now (λ x. refl) refl c.requires.firsts c.requires.left;
  settled = none_joined _ c.args.locals.now c.new-unsettled.result.items;
}

pub loop-local-preserved : goal.loop-local-preserved
loop-local-preserved g c =
    let has = g.S.TypeStore.has in
    let tree = g.S.TypeStore.tree in
    let bases = c.args.declarations.now.parents.now in
    let ds = c.args.declarations.now.declared.now in
    let a = c.args.paths.now.first.now in
    let b = c.args.paths.now.second.now in
    let l = c.args.locals.now in
    let i = c.loop-local.local-index in
    let x = get_or l i 0 in
    record {
      kept = keeps_both has _ _ _ c.loop-local.invariant.kept c.set_joined.ensures.kept;
      value = join_goes_on has tree bases ds a b c.loop-local.store c.set_joined.new.store (is_among (take i l))
          (is_among (take (i + 1) l)) x c.loop-local.env c.set_joined.new.met
          (one_more_among l i 0 x c.loop-local-test.true refl) c.loop-local.invariant.value
          c.in_ok-is_settled.ensures.value;
      settled = subst (λ (u : List ℕ). HoldsOf (IsSettled tree bases ds a b) l u (take (i + 1) l))
          (sym c.in_ok-note_unsettled.ensures)
          (one_joined (IsSettled tree bases ds a b) l c.loop-local.unsettled.items i 0 x
          c.in_ok-is_settled.is_settled c.loop-local-test.true refl c.loop-local.invariant.settled
          c.in_ok-is_settled.ensures.settled);
    }

pub returns-clause-value : goal.returns-clause-value
returns-clause-value g c =
    onto_ends g.S.TypeStore.tree c.args.declarations.now.parents.now
    c.args.declarations.now.declared.now c.args.paths.now.first.now c.args.paths.now.second.now g.S.TypeStore.has
    c.loop-local.store c.loop-local.env c.args.locals.now c.loop-local.local-index c.loop-local-test.false
    c.requires.taken_in c.loop-local.invariant.value

pub returns-clause-settled : goal.returns-clause-settled
returns-clause-settled g c =
    let tree = g.S.TypeStore.tree in
    let bases = c.args.declarations.now.parents.now in
    let ds = c.args.declarations.now.declared.now in
    let a = c.args.paths.now.first.now in
    let b = c.args.paths.now.second.now in
    let ends = onto_ends tree bases ds a b g.S.TypeStore.has c.loop-local.store c.loop-local.env
    c.args.locals.now c.loop-local.local-index c.loop-local-test.false c.requires.taken_in
    c.loop-local.invariant.value in
    onto_takes_in tree bases ds a b c.loop-local.env c.args.locals.now c.loop-local.unsettled.items
    c.loop-local.local-index c.loop-local-test.false c.requires.taken_in c.loop-local.invariant.settled ends.is
