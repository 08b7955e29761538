use Rattle.std.proofs.Common.{◌∙◌, sym, ap, subst, Some, Bor}
use Rattle.std.specs.Prelude.{option_map}
use Rattle.pc_types.specs.Boxed.{tree_of, IsGiven}
use Rattle.pc_notes.specs.Notes.{IsGivenFlow, AreGiven}
use Rattle.pc_notes.specs.declared.notes.NotedFlow.{NotedFlow}
use Rattle.pc_notes.specs.declared.sharing.SharedType.{SharedType}
use Rattle.pc_notes.proofs.Noted.{later_flow, this_flow, no_flow, given_at, entry_given}
use Rattle.pc_notes.proofs.notes.Notes.explain.Goals as goal

pub transfer-requires : goal.transfer-requires
transfer-requires g c =
    let s = sym c.flow_at.ensures ∙ ap (option_map (λ (f : Bor NotedFlow). f.now)) c.in-Some.is in
    let given : IsGivenFlow c.in-Some.flow.now = given_at c.args.code c.args.place c.entry-item.result
    c.in-Some.flow.now
    (entry_given c.deref-entry-items.result.now c.loop-entry.entry-index c.entry-item.result
    (subst AreGiven (sym c.deref-entry-items.ensures.value) c.self.invariant) c.loop-entry-test.true c.entry-item.is)
    s in
    subst (λ (s : SharedType). IsGiven s.ty) (sym c.deref.ensures) given.from

pub transfer-requires-in-Some : goal.transfer-requires-in-Some
transfer-requires-in-Some g c =
    let s = sym c.flow_at.ensures ∙ ap (option_map (λ (f : Bor NotedFlow). f.now)) c.in-Some.is in
    let given : IsGivenFlow c.in-Some.flow.now = given_at c.args.code c.args.place c.entry-item.result
    c.in-Some.flow.now
    (entry_given c.deref-entry-items.result.now c.loop-entry.entry-index c.entry-item.result
    (subst AreGiven (sym c.deref-entry-items.ensures.value) c.self.invariant) c.loop-entry-test.true c.entry-item.is)
    s in
    subst (λ (s : SharedType). IsGiven s.ty) (sym c.deref-in-Some.ensures) given.into

pub returns-in_err-from-clause-kept : goal.returns-in_err-from-clause-kept
returns-in_err-from-clause-kept g c = λ ty h. c.in_err-from.ensures.kept ty (c.loop-entry.invariant.kept ty h)

pub returns-in_err-into-clause-kept : goal.returns-in_err-into-clause-kept
returns-in_err-into-clause-kept g c =
    λ ty h. c.in_err-into.ensures.kept ty (c.in_ok-from.ensures.kept ty (c.loop-entry.invariant.kept ty h))

pub returns-in-Some-clause-value : goal.returns-in-Some-clause-value
returns-in-Some-clause-value g c =
    let s = sym c.flow_at.ensures ∙ ap (option_map (λ (f : Bor NotedFlow). f.now)) c.in-Some.is in
    let e = this_flow c.args.code c.args.place c.deref-entry-items.result.now c.loop-entry.entry-index
    c.entry-item.result
    c.loop-entry-test.true c.entry-item.is c.in-Some.flow.now s in
    let from = c.in_ok-from.ensures.value.1 ∙ ap (λ (s : SharedType). tree_of s.ty) c.deref.ensures in
    let into = c.in_ok-into.ensures.value.1 ∙ ap (λ (s : SharedType). tree_of s.ty) c.deref-in-Some.ensures in (
      c.in_ok-into.ensures.kept _ c.in_ok-from.ensures.value.0,
      c.in_ok-into.ensures.value.0,
      c.loop-entry.invariant.same ∙ e ∙ sym (λ i. Some (from i, into i)),
    )

pub returns-in-Some-clause-kept : goal.returns-in-Some-clause-kept
returns-in-Some-clause-kept g c =
    λ ty h. c.in_ok-into.ensures.kept ty (c.in_ok-from.ensures.kept ty (c.loop-entry.invariant.kept ty h))

pub loop-entry-preserved : goal.loop-entry-preserved
loop-entry-preserved g c =
    let n = sym c.flow_at.ensures ∙ ap (option_map (λ (f : Bor NotedFlow). f.now)) c.in_default.is in
    record {
      same = c.loop-entry.invariant.same ∙ later_flow c.args.code c.args.place c.deref-entry-items.result.now
          c.loop-entry.entry-index c.entry-item.result c.loop-entry-test.true c.entry-item.is n;
      kept = c.loop-entry.invariant.kept;
    }

pub returns-clause-value : goal.returns-clause-value
returns-clause-value g c = c.loop-entry.invariant.same ∙ no_flow c.args.code c.args.place c.deref-entry-items.result.now
    c.loop-entry.entry-index c.loop-entry-test.false
