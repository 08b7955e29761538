use Rattle.std.proofs.Common.{map, ap, ◌∙◌}
use Rattle.serde_json.specs.View.{view}
use Rattle.pc_documents.specs.Symbols.{shown_item}
use Rattle.pc_documents.proofs.Listing.{one_more}
use Rattle.pc_documents.proofs.symbols.item_symbols.Goals as goal

pub loop-item-preserved : goal.loop-item-preserved
loop-item-preserved c = record {
  values = ap (map view) c.in_ok-push.ensures.items
      ∙ one_more view (shown_item c.args.encoding c.args.text.now) c.args.items.now c.loop-item.item-index
      c.item-item.result c.loop-item.values.items c.in_ok-value.value c.loop-item-test.true c.item-item.is
      c.loop-item.invariant.values c.in_ok-value.ensures.value;
  known = c.in_ok-value.ensures.mark;
}
