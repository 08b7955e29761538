use Rattle.std.specs.Prelude.{map}
use Rattle.std.proofs.Common.{◌≡◌, take}
use Rattle.serde_json.specs.View.{view}
use Rattle.pc_position.specs.Positions.{IsPositionOf}
use Rattle.pc_documents.specs.Diagnostics.{place_data}
use Rattle.pc_documents.proofs.related.place_values.Given as goal

abbrev pub invariant-loop-place : goal.invariant-loop-place
invariant-loop-place l = record {
  values : map view l.values.items ≡ map (place_data l.encoding l.text l.uri) (take l.place-index l.places);
  known : IsPositionOf l.encoding l.text l.known.byte l.known.position;
}
