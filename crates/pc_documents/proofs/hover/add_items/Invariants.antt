use Rattle.std.specs.Prelude.{fold, filter, string_bytes}
use Rattle.std.proofs.Common.{◌≡◌, take}
use Rattle.pc_position.specs.Positions.{IsPositionOf}
use Rattle.pc_documents.specs.Hovers.{has_position, said_after}
use Rattle.pc_documents.proofs.hover.add_items.Given as goal

abbrev pub invariant-loop-item : goal.invariant-loop-item
invariant-loop-item l = record {
  told : string_bytes l.told ≡ fold said_after (string_bytes l.fn.told)
      (filter (has_position l.encoding l.text l.position) (take l.item-index l.items));
  known : IsPositionOf l.encoding l.text l.known.byte l.known.position;
}
