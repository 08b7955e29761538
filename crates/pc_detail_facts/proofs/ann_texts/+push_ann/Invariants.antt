use Rattle.std.proofs.Common.{◌≡◌, ◌++◌, ℕ, List, take}
use Rattle.pc_tree.specs.Stopping.{has_none}
use Rattle.pc_annotations.specs.Listed.{anns_of_list}
use Rattle.pc_detail_texts.specs.Shortened.{KeepsText}
use Rattle.pc_detail_rules.specs.Written.{anns_text}
use Rattle.pc_detail_facts.proofs.ann_texts.+push_ann.Given as goal

abbrev pub invariant-push_anns-loop-ann : goal.invariant-push_anns-loop-ann
invariant-push_anns-loop-ann l = record {
  first : l.is_first ≡ has_none (take l.ann-index l.anns);
  kept : (whole : List ℕ) → KeepsText l.fn.text whole
      → KeepsText l.text (whole ++ anns_text l.separator (anns_of_list (take l.ann-index l.anns)));
}
