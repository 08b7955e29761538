use Rattle.std.proofs.Common.{◌≡◌, ◌≤◌, drop}
use Rattle.pc_detail_texts.specs.Sentences.{has_bar}
use Rattle.pc_detail_texts.proofs.phrases.is_union.Given as goal

abbrev pub invariant-loop-byte : goal.invariant-loop-byte
invariant-loop-byte l = record {
  rest : has_bar 0 l.byte-items ≡ has_bar l.depth (drop l.byte-index l.byte-items);
  bound : l.depth ≤ l.byte-index;
}
