use Rattle.std.proofs.Common.{◌∙◌, sym, ap, subst, Bor}
use Rattle.std.specs.Prelude.{IfSome, option_map}
use Rattle.pc_notes.specs.declared.notes.NotedFlow.{NotedFlow}
use Rattle.pc_notes.specs.Notes.{IsGivenFlow}
use Rattle.pc_notes.proofs.FirstFlows.{left_out, known_at, new_at}
use Rattle.pc_notes.proofs.Noted.{given_kept}
use Rattle.pc_notes.proofs.notes.keep_first.Goals as goal

pub returns-in_default : goal.returns-in_default
returns-in_default c = λ entries has. left_out c.args.code entries c.args.entry.now c.args.flows.now
    (sym c.flow.ensures ∙ ap (option_map (λ (f : Bor NotedFlow). f.now)) c.in_default.is) has

pub returns-then-contains_key : goal.returns-then-contains_key
returns-then-contains_key c = λ entries has. known_at c.args.code entries c.args.entry.now c.args.flows.now
    c.place-place.result c.place-place.ensures (sym c.contains_key.ensures ∙ c.if-contains_key.true) has

pub returns : goal.returns
returns c =
    let s = sym c.flow.ensures ∙ ap (option_map (λ (f : Bor NotedFlow). f.now)) c.in-Some.is in
    λ entries has. new_at c.args.code entries c.args.entry.now c.in-Some.flow c.args.flows.now c.insert.new.self
    c.place-place.result c.place-place.ensures s
    (subst (λ o. IfSome o IsGivenFlow) s (given_kept c.args.code c.args.entry.now c.requires))
    (sym c.contains_key.ensures ∙ c.if-contains_key.false) c.in_ok-insert.ensures.updates.0 has
