use Rattle.std.specs.Prelude.{map}
use Rattle.std.proofs.Common.{◌≡◌, drop}
use Rattle.pc_position.specs.Positions.{IsPositionOf}
use Rattle.pc_bindings.specs.Written.{mention_of}
use Rattle.pc_documents.specs.Declarations.{mention_under}
use Rattle.pc_documents.proofs.declarations.mention_under.Given as goal

abbrev pub invariant-loop-mention : goal.invariant-loop-mention
invariant-loop-mention l = record {
  found : mention_under l.encoding l.text l.position (map mention_of (drop l.mention-index l.mentions))
      ≡ mention_under l.encoding l.text l.position (map mention_of l.mentions);
  known : IsPositionOf l.encoding l.text l.known.byte l.known.position;
}
