use Rattle.std.proofs.Common.{◌≡◌, ◌+◌, ◌++◌, ◌∙◌, arith, refl, sym, ap}
use Rattle.std.specs.Prelude.{map}
use Rattle.pc_flow.proofs.Given.{all_kept}
use Rattle.pc_notes.specs.Notes.{notes_of}
use Rattle.pc_rules.specs.Computed.Findings.{flows_at}
use Rattle.pc_rules.specs.Computed.Expressions.{flows_of}
use Rattle.pc_rules.specs.Computed.Standing.{label_with}
use Rattle.pc_rules.specs.Computed.TypingStates.{StateKept}
use Rattle.pc_rules.proofs.TypingStates.{goes_further}
use Rattle.pc_rules.proofs.Flowing.{IsFound, found_none, found_again, found_new, found_all, flows_alike}
use Rattle.pc_rules.proofs.flows.find_flows.Goals as goal
use Rattle.pc_rules.proofs.flows.find_flows.Goals.{in-Some+then-not-has_code+in_ok-push+in_ok-note_flow}
use Rattle.pc_rules.proofs.flows.find_flows.Goals.{in-Some+else-not-has_code, in_default}

pub loop-ty-preserved : goal.loop-ty-preserved
loop-ty-preserved g c =
    let v = c.loop-ty.invariant in
    let k = c.flow_code.ensures.kept in
    let m = label_with g.S.TypeStore.tree c.args.label.now in
    let step : IsFound g.S.TypeStore.tree c.args.parents.now c.args.place m c.args.into.now
    (notes_of c.args.state.now.found.now) (c.loop-ty.ty-index + 1) c.match-flow_code.codes.items
    (notes_of c.match-flow_code.state.found.now) = elim c.match-flow_code.branch [
      | in-Some+then-not-has_code+in_ok-push+in_ok-note_flow w ↦
          let h = sym (rw w.deref.ensures.value at w.has_code.ensures) ∙ w.if-not-has_code.true in
          rw (w.codes-is, w.state-is, w.in_ok-push.ensures.items, w.in_ok-note_flow.ensures.found)
          (found_new g.S.TypeStore.tree c.args.parents.now c.args.place m c.args.into.now
          (notes_of c.args.state.now.found.now) c.loop-ty.ty-index c.loop-ty.codes.items
          (notes_of c.loop-ty.state.found.now) c.ty-item.result c.flow_code.result w.in-Some.code
          c.loop-ty-test.true c.ty-item.is c.flow_code.ensures.value w.in-Some.is h v.found)
      | in-Some+else-not-has_code w ↦
          let h = sym (rw w.deref.ensures.value at w.has_code.ensures) ∙ w.if-not-has_code.false in
          rw (w.codes-is, w.state-is)
          (found_again g.S.TypeStore.tree c.args.parents.now c.args.place m c.args.into.now
          (notes_of c.args.state.now.found.now) c.loop-ty.ty-index c.loop-ty.codes.items
          (notes_of c.loop-ty.state.found.now) c.ty-item.result c.flow_code.result w.in-Some.code
          c.loop-ty-test.true c.ty-item.is c.flow_code.ensures.value w.in-Some.is h v.found)
      | in_default w ↦
          rw (w.codes-is, w.state-is)
          (found_none g.S.TypeStore.tree c.args.parents.now c.args.place m c.args.into.now
          (notes_of c.args.state.now.found.now) c.loop-ty.ty-index c.loop-ty.codes.items
          (notes_of c.loop-ty.state.found.now) c.ty-item.result c.flow_code.result c.loop-ty-test.true
          c.ty-item.is c.flow_code.ensures.value w.in_default.is v.found)
    ] in
    let on : StateKept g.S.TypeStore c.loop-ty.state
    (record {
      store = record {
        ref_ptr = c.loop-ty.state.store.ref_ptr;
        ghost_name =
            c.loop-ty.state.store.ghost_name;
        now = c.flow_code.new.store;
      };
      alloc = c.loop-ty.state.alloc;
      found =
          c.loop-ty.state.found;
    }) = record { kept = k; same_store = refl; same_notes = refl } in
    let goes : StateKept g.S.TypeStore c.args.state.now c.match-flow_code.state = elim c.match-flow_code.branch [
      | in-Some+then-not-has_code+in_ok-push+in_ok-note_flow w ↦
          rw w.state-is (goes_further (goes_further v.goes_on on) w.note_flow.ensures.goes_on)
      | in-Some+else-not-has_code w ↦ rw w.state-is (goes_further v.goes_on on)
      | in_default w ↦ rw w.state-is (goes_further v.goes_on on)
    ] in
    record {
      goes_on = goes;
      label = goes.kept c.args.label.now.ty c.requires.label;
      into = all_kept g.S.TypeStore.has _ _ goes.kept c.args.into.now c.requires.into;
      found = step;
    }

pub returns-clause-found : goal.returns-clause-found
returns-clause-found g c =
    λ m e.
    found_all g.S.TypeStore.tree c.args.parents.now c.args.place (label_with g.S.TypeStore.tree c.args.label.now)
    c.args.into.now (notes_of c.args.state.now.found.now) c.loop-ty.ty-index c.loop-ty.codes.items
    (notes_of c.loop-ty.state.found.now) c.loop-ty-test.false c.loop-ty.invariant.found
    ∙ ap (λ l. notes_of c.args.state.now.found.now ++ l) (flows_alike c.args.parents.now c.args.place
    (label_with g.S.TypeStore.tree c.args.label.now) m (map g.S.TypeStore.tree c.args.into.now) e)
