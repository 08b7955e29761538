use Rattle.std.proofs.Common.{◌≡◌, ◌∙◌, ◌+◌, ◌++◌, [], List, map, length, sym, ap, append-nil, zero-add}
use Rattle.std.proofs.Math.ListN.{drop_of_length-le}
use Rattle.std.specs.Prelude.{slice_get}
use Rattle.std.proofs.lemmas.List.Elements.{All-nil, All-same}
use Rattle.pc_tree.specs.declared.tree.Item.{Item as RustItem}
use Rattle.pc_tree.specs.Tree.{item_of}
use Rattle.pc_scope.specs.Bindings.{classes_in}
use Rattle.pc_class.specs.Facts.{ClassFacts, classes_behind}
use Rattle.pc_class.specs.Annotated.{class_annotated}
use Rattle.pc_class.specs.Outlines.{found_over}
use Rattle.pc_class.specs.Tables.{HasParameter, HasMethod, classes_with}
use Rattle.pc_class.specs.Parts.{classes_of_table, entries_behind}
use Rattle.pc_annotations.specs.ModuleOutlines.{module_in}
use Rattle.pc_class.specs.Built.{found_behind, annotated_behind}
use Rattle.pc_class.proofs.Annotations.{lent_same, lent_on}
use Rattle.pc_class.proofs.ClassAdded.{entries_are_behind}
use Rattle.pc_class.proofs.ItemsBuilt.{item_ahead, items_ahead, classes_next, found_next, classes_are_behind}
use Rattle.pc_class.proofs.building.all_classes.Goals as goal

pub loop-item-init : goal.loop-item-init
loop-item-init g c =
    let m = module_in c.args.outline.now in
    let tree = g.S.TypeStore.tree in
    let has = g.S.TypeStore.has c.args.reader.now.store.now in
    let p = c.in_ok-parts.parts in
    let all = classes_in (map item_of c.as_slice-items.result.now) in
    let none : classes_of_table p ≡ [] = entries_are_behind p ∙ ap (entries_behind p.fields.items p.methods.items [])
    c.in_ok-parts.ensures.classes in
    let long : length p.classes.items ≡ 0 = ap length c.in_ok-parts.ensures.classes in
    let same : classes_with tree (classes_of_table p) ≡ [] = ap (classes_with tree) none in
    record {
      store = λ t h. h;
      table = c.in_ok-parts.ensures.table;
      given = record {
        fields = All-same (HasParameter has) p.fields.items [] c.in_ok-parts.ensures.fields
            (All-nil (HasParameter has));
        methods = All-same (HasMethod has) p.methods.items [] c.in_ok-parts.ensures.methods (All-nil (HasMethod has));
      };
      ahead = λ j. ap (λ n. slice_get all (n + j)) long ∙ ap (slice_get all) (zero-add j);
      classes = ap (λ (e : List ClassFacts). classes_behind m e (length p.classes.items) all) same
          ∙ ap (λ n. classes_behind m [] n all) long;
      found = ap (λ (e : List ClassFacts). c.args.found.now.items ++ found_behind m e (length p.classes.items) all) same
          ∙ ap (λ n. c.args.found.now.items ++ found_behind m [] n all) long;
      same = lent_same c.args.reader.now;
      annotated = ap (λ (e : List ClassFacts). c.args.reader.now.found.now.items ++ annotated_behind m e
          (length p.classes.items) all) same
          ∙ ap (λ n. c.args.reader.now.found.now.items ++ annotated_behind m [] n all) long;
    }

pub add_item-requires-clause-class : goal.add_item-requires-clause-class
add_item-requires-clause-class g c class e =
    let items = c.as_slice-items.result.now in
    let x = c.item-item.result in
    let i = c.loop-item.item-index in
    let n = length c.loop-item.parts.classes.items in
    ap (λ (xs : List RustItem). slice_get (classes_in (map item_of xs)) n) (sym c.as_slice-items.ensures.value)
    ∙ item_ahead (classes_in (map item_of items)) n items i x c.loop-item-test.true c.item-item.is
    c.loop-item.invariant.ahead class e

pub loop-item-preserved : goal.loop-item-preserved
loop-item-preserved g c =
    let m = module_in c.args.outline.now in
    let tree = g.S.TypeStore.tree in
    let items = c.as_slice-items.result.now in
    let x = c.item-item.result in
    let i = c.loop-item.item-index in
    let n = length c.loop-item.parts.classes.items in
    let k = length c.add_item.new.parts.classes.items in
    let all = classes_in (map item_of items) in
    let less = c.loop-item-test.true in
    let is = c.item-item.is in
    let inv = c.loop-item.invariant in
    let more = c.in_ok-add_item.ensures.more in
    let e = classes_with tree (classes_of_table c.loop-item.parts) in
    let e2 = classes_with tree (classes_of_table c.add_item.new.parts) in
    record {
      store = λ t h. c.add_item.ensures.store t (inv.store t h);
      table = c.in_ok-add_item.ensures.table;
      given = c.in_ok-add_item.ensures.given;
      ahead = items_ahead all n items i x less is inv.ahead k more;
      classes = classes_next m e n items i x less is e2 c.in_ok-add_item.ensures.classes k more _ inv.classes;
      found = found_next m e n items i x less is e2 c.in_ok-add_item.ensures.classes k more found_over
          c.loop-item.found.items c.add_item.new.found.items _ inv.found c.in_ok-add_item.ensures.found;
      same = lent_on c.loop-item.invariant.same c.add_item.ensures.same;
      annotated = found_next m e n items i x less is e2 c.in_ok-add_item.ensures.classes k more (class_annotated m)
          c.loop-item.reader.found.now.items c.add_item.new.reader.found.now.items _ inv.annotated
          c.in_ok-add_item.ensures.annotated;
    }

pub returns-clause-classes : goal.returns-clause-classes
returns-clause-classes g c =
    let m = module_in c.args.outline.now in
    let tree = g.S.TypeStore.tree in
    let items = c.as_slice-items.result.now in
    let n = length c.loop-item.parts.classes.items in
    let e = classes_with tree (classes_of_table c.loop-item.parts) in
    ap (λ (xs : List RustItem). classes_behind m e n (classes_in (map item_of xs)))
    (sym (drop_of_length-le items c.loop-item-test.false))
    ∙ c.loop-item.invariant.classes
    ∙ ap (λ (xs : List RustItem). classes_behind m [] 0 (classes_in (map item_of xs))) c.as_slice-items.ensures.value
    ∙ sym (classes_are_behind m)

pub returns-clause-found : goal.returns-clause-found
returns-clause-found g c =
    let m = module_in c.args.outline.now in
    let tree = g.S.TypeStore.tree in
    let items = c.as_slice-items.result.now in
    let n = length c.loop-item.parts.classes.items in
    let e = classes_with tree (classes_of_table c.loop-item.parts) in
    sym (append-nil c.loop-item.found.items)
    ∙ ap (λ (xs : List RustItem). c.loop-item.found.items ++ found_behind m e n (classes_in (map item_of xs)))
    (sym (drop_of_length-le items c.loop-item-test.false))
    ∙ c.loop-item.invariant.found
    ∙ ap (λ (xs : List RustItem). c.args.found.now.items ++ found_behind m [] 0 (classes_in (map item_of xs)))
    c.as_slice-items.ensures.value

pub returns-clause-annotated : goal.returns-clause-annotated
returns-clause-annotated g c =
    let m = module_in c.args.outline.now in
    let tree = g.S.TypeStore.tree in
    let items = c.as_slice-items.result.now in
    let n = length c.loop-item.parts.classes.items in
    let e = classes_with tree (classes_of_table c.loop-item.parts) in
    let now = c.loop-item.reader.found.now.items in
    let old = c.args.reader.now.found.now.items in
    sym (append-nil now)
    ∙ ap (λ (xs : List RustItem). now ++ annotated_behind m e n (classes_in (map item_of xs)))
    (sym (drop_of_length-le items c.loop-item-test.false))
    ∙ c.loop-item.invariant.annotated
    ∙ ap (λ (xs : List RustItem). old ++ annotated_behind m [] 0 (classes_in (map item_of xs)))
    c.as_slice-items.ensures.value
