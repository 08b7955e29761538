use Rattle.std.specs.Prelude.{map}
use Rattle.std.proofs.Common.{◌≡◌, take}
use Rattle.serde_json.specs.View.{view}
use Rattle.pc_position.specs.Positions.{IsPositionOf}
use Rattle.pc_documents.specs.Symbols.{shown_item}
use Rattle.pc_documents.proofs.symbols.item_symbols.Given as goal

abbrev pub invariant-loop-item : goal.invariant-loop-item
invariant-loop-item l = record {
  values : map view l.values.items ≡ map (shown_item l.encoding l.text) (take l.item-index l.items);
  known : IsPositionOf l.encoding l.text l.known.byte l.known.position;
}
