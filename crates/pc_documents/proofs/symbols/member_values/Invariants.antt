use Rattle.std.specs.Prelude.{map}
use Rattle.std.proofs.Common.{◌≡◌, take}
use Rattle.serde_json.specs.View.{view}
use Rattle.pc_position.specs.Positions.{IsPositionOf}
use Rattle.pc_documents.specs.Symbols.{shown_member}
use Rattle.pc_documents.proofs.symbols.member_values.Given as goal

abbrev pub invariant-loop-member : goal.invariant-loop-member
invariant-loop-member l = record {
  values : map view l.values.items ≡ map (shown_member l.encoding l.text) (take l.member-index l.members);
  known : IsPositionOf l.encoding l.text l.known.byte l.known.position;
}
