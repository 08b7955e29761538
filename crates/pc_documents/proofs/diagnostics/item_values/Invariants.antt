use Rattle.std.specs.Prelude.{map}
use Rattle.std.proofs.Common.{◌≡◌, take}
use Rattle.serde_json.specs.View.{view}
use Rattle.pc_position.specs.Positions.{IsPositionOf}
use Rattle.pc_documents.specs.Agreed.{agreed_of}
use Rattle.pc_documents.specs.Diagnostics.{item_data}
use Rattle.pc_documents.proofs.diagnostics.item_values.Given as goal

abbrev pub invariant-loop-item : goal.invariant-loop-item
invariant-loop-item l = record {
  values : map view l.values.items ≡ map (item_data (agreed_of l.settings) l.text l.uri) (take l.item-index l.items);
  place : IsPositionOf l.settings.encoding l.text l.known.place.byte l.known.place.position;
  other : IsPositionOf l.settings.encoding l.text l.known.other.byte l.known.other.position;
}
