use Rattle.std.proofs.Common.{◌≡◌, ◌∙◌, ◌+◌, ◌∷◌, [], List, length, map, sym, ap}
use Rattle.std.specs.Prelude.{slice_get}
use Rattle.pc_tree.specs.declared.tree.Item.{Item as RustItem}
use Rattle.pc_tree.specs.Tree.{item_of}
use Rattle.pc_scope.specs.Bindings.{classes_in}
use Rattle.pc_class.proofs.ItemsBuilt.{item_ahead, items_ahead}
use Rattle.pc_notes.specs.Notes.{notes_of}
use Rattle.pc_rules.specs.Computed.Signatures.{ItemsReached}
use Rattle.pc_rules.proofs.TypingStates.{goes_further}
use Rattle.pc_annotations.specs.ModuleOutlines.{module_in}
use Rattle.pc_signatures.specs.Internal.ItemsRead.{methods_with, reached_with}
use Rattle.pc_callables.proofs.HeldSignatures.{globals_kept}
use Rattle.pc_callables.proofs.SignatureWalks.{stepped}
use Rattle.pc_signatures.proofs.ItemWalks.{classes_apart, classes_more, reached_next, items_found}
use Rattle.pc_signatures.proofs.constants.read_items.Goals as goal

pub loop-item-preserved : goal.loop-item-preserved
loop-item-preserved g c =
    let has = g.S.TypeStore.has in
    let tree = g.S.TypeStore.tree in
    let m = module_in c.args.globals.now.outline.now in
    let items = c.as_slice-items.result.now in
    let i = c.loop-item.item-index in
    let x = c.item-item.result in
    let v = c.loop-item.invariant in
    let less = c.loop-item-test.true in
    let is = c.item-item.is in
    let old = reached_with tree c.loop-item.read in
    let new = reached_with tree c.add_item.new.read in
    let all = classes_in (map item_of items) in
    let n = length c.loop-item.read.methods.items in
    let k = length c.add_item.new.read.methods.items in
    let more : k ≡ n + length (classes_in (item_of x ∷ [])) = ap (λ (r : ItemsReached). r.classes)
    c.in_ok-add_item.ensures.reached ∙ classes_more m old (item_of x) in
    record {
      ahead = items_ahead all n items i x less is v.ahead k more;
      globals = globals_kept has tree c.loop-item.state.store.now c.add_item.new.state.store.now c.args.globals.now
          c.add_item.ensures.goes_on.kept v.globals;
      held = c.in_ok-add_item.ensures.held;
      reached = reached_next m old new items i x less is c.in_ok-add_item.ensures.reached ∙ v.reached;
      methods = stepped (map (methods_with tree) c.loop-item.read.methods.items)
          (map (methods_with tree) c.add_item.new.read.methods.items) _ _ _ _ v.methods
          (classes_apart m items i x less is) c.in_ok-add_item.ensures.methods;
      found = stepped (notes_of c.loop-item.state.found.now) (notes_of c.add_item.new.state.found.now) _ _ _ _
          v.found (items_found m c.args.globals.now.keeps old new items i x less is c.in_ok-add_item.ensures.reached)
          c.in_ok-add_item.ensures.found;
      goes_on = goes_further v.goes_on c.add_item.ensures.goes_on;
    }

pub add_item-requires-clause-class : goal.add_item-requires-clause-class
add_item-requires-clause-class g c class e =
    let items = c.as_slice-items.result.now in
    let x = c.item-item.result in
    let i = c.loop-item.item-index in
    let n = length c.loop-item.read.methods.items in
    ap (λ (xs : List RustItem). slice_get (classes_in (map item_of xs)) n) (sym c.as_slice-items.ensures.value)
    ∙ item_ahead (classes_in (map item_of items)) n items i x c.loop-item-test.true c.item-item.is
    c.loop-item.invariant.ahead class e
