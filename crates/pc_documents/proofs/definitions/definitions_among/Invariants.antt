use Rattle.std.specs.Prelude.{map}
use Rattle.std.proofs.Common.{◌≡◌, ◌++◌, drop}
use Rattle.serde_json.specs.View.{view}
use Rattle.pc_tree.specs.Tree.{module_of}
use Rattle.pc_position.specs.Positions.{IsPositionOf}
use Rattle.pc_bindings.specs.Written.{mention_of}
use Rattle.pc_documents.specs.Definitions.{definitions_among}
use Rattle.pc_documents.proofs.definitions.definitions_among.Given as goal

abbrev pub invariant-loop-mention : goal.invariant-loop-mention
invariant-loop-mention l = record {
  values : map view l.values.items ++ definitions_among l.encoding l.text l.uri l.position (module_of l.module)
      (map mention_of (drop l.mention-index l.mentions))
      ≡ definitions_among l.encoding l.text l.uri l.position (module_of l.module) (map mention_of l.mentions);
  known : IsPositionOf l.encoding l.text l.known.byte l.known.position;
}
