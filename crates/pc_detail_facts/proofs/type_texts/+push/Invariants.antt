use Rattle.std.proofs.Common.{◌+◌, ◌*◌, ◌++◌, ℕ, List, take}
use Rattle.pc_tree.specs.Tree.{Module as ModuleOf}
use Rattle.pc_types.specs.Boxed.{tree_of, trees_in}
use Rattle.pc_types.specs.Shape.{nodes, nodes_of}
use Rattle.pc_annotations.specs.Text.{further_parts_text}
use Rattle.pc_detail_texts.specs.Shortened.{KeepsText}
use Rattle.pc_detail_facts.specs.Held.{HoldsDefinitions}
use Rattle.pc_detail_facts.proofs.type_texts.+push.Given as goal

abbrev pub invariant-push_further-loop-part : goal.invariant-push_further-loop-part
invariant-push_further-loop-part l = (m : ModuleOf) (whole : List ℕ) → HoldsDefinitions m l.fn.definitions
    → KeepsText l.fn.text whole
    → KeepsText l.text (whole ++ further_parts_text m (trees_in (take l.part-index l.parts)))

abbrev pub decreases-push_type : goal.decreases-push_type
decreases-push_type l = 4 * nodes (tree_of l.ty.now)

abbrev pub decreases-push_list : goal.decreases-push_list
decreases-push_list l = 4 * nodes (tree_of l.item.now) + 1

abbrev pub decreases-push_dict : goal.decreases-push_dict
decreases-push_dict l = 4 * (nodes (tree_of l.key.now) + nodes (tree_of l.value.now)) + 1

abbrev pub decreases-push_union : goal.decreases-push_union
decreases-push_union l = 4 * (nodes (tree_of l.first.now) + nodes (tree_of l.others.now)) + 1

abbrev pub decreases-push_tuple : goal.decreases-push_tuple
decreases-push_tuple l = 4 * nodes_of (trees_in l.parts.now) + 3

abbrev pub decreases-push_parts : goal.decreases-push_parts
decreases-push_parts l = 4 * nodes_of (trees_in l.parts.now) + 2

abbrev pub decreases-push_further : goal.decreases-push_further
decreases-push_further l = 4 * nodes_of (trees_in l.parts.now) + 1
