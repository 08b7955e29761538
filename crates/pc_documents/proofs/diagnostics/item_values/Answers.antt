use Rattle.std.proofs.Common.{map, ap, ◌∙◌}
use Rattle.serde_json.specs.View.{view}
use Rattle.pc_documents.specs.Agreed.{agreed_of}
use Rattle.pc_documents.specs.Diagnostics.{item_data}
use Rattle.pc_documents.proofs.Listing.{one_more}
use Rattle.pc_documents.proofs.diagnostics.item_values.Goals as goal

pub loop-item-preserved : goal.loop-item-preserved
loop-item-preserved c = record {
  values = ap (map view) c.in_ok-push.ensures.items
      ∙ one_more view (item_data (agreed_of c.args.settings.now) c.args.text.now c.args.uri.now) c.args.items.now
      c.loop-item.item-index c.item-item.result c.loop-item.values.items c.in_ok-value.value c.loop-item-test.true
      c.item-item.is c.loop-item.invariant.values c.in_ok-value.ensures.value;
  place = c.in_ok-value.ensures.place;
  other = c.in_ok-value.ensures.other;
}
