use Rattle.std.proofs.Common.{map, ap, ◌∙◌}
use Rattle.serde_json.specs.View.{view}
use Rattle.pc_source.specs.declared.place.Place.{Place}
use Rattle.pc_documents.specs.Diagnostics.{place_data}
use Rattle.pc_documents.proofs.Listing.{one_at}
use Rattle.pc_documents.proofs.related.place_values.Goals as goal

pub loop-place-preserved : goal.loop-place-preserved
loop-place-preserved c =
    let none : Place = record { start = 0; end = 0 } in
    record {
      values = ap (map view) c.in_ok-push.ensures.items
          ∙ one_at view (place_data c.args.encoding c.args.text.now c.args.uri.now) c.args.places.now
          c.loop-place.place-index none c.loop-place.values.items c.in_ok-value.value c.loop-place-test.true
          c.loop-place.invariant.values c.in_ok-value.ensures.value;
      known = c.in_ok-value.ensures.mark;
    }
