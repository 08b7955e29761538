use Rattle.pc_notes.specs.Notes.{notes_of}
use Rattle.pc_rules.proofs.TypingStates.{goes_further}
use Rattle.pc_annotations.specs.ModuleOutlines.{module_in}
use Rattle.pc_callables.specs.SignaturesRead.{signatures_with}
use Rattle.pc_callables.proofs.SignatureWalks.{stepped, functions_apart, functions_found}
use Rattle.pc_callables.proofs.signatures.read_functions.Goals as goal

pub loop-item-preserved : goal.loop-item-preserved
loop-item-preserved g c =
    let tree = g.S.TypeStore.tree in
    let m = module_in c.args.outline.now in
    let items = c.as_slice-items.result.now in
    let i = c.loop-item.item-index in
    let x = c.item-item.result in
    let v = c.loop-item.invariant in
    let less = c.loop-item-test.true in
    let is = c.item-item.is in
    record {
      given = c.in_ok-add_function.ensures.held;
      are = stepped (signatures_with tree c.loop-item.functions.items)
          (signatures_with tree c.add_function.new.functions.items) _ _ _ _ v.are (functions_apart m items i x less is)
          c.in_ok-add_function.ensures.typed;
      found = stepped (notes_of c.loop-item.state.found.now) (notes_of c.add_function.new.state.found.now) _ _ _ _
          v.found (functions_found m items i x less is) c.in_ok-add_function.ensures.found;
      goes_on = goes_further v.goes_on c.add_function.ensures.goes_on;
    }
