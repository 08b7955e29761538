use Rattle.std.proofs.Common.{◌≡◌, ◌++◌, map, drop}
use Rattle.pc_tree.specs.Tree.{class_of, member_of}
use Rattle.pc_bindings.specs.Mentions.{in_members}
use Rattle.pc_bindings.specs.Written.{mention_of}
use Rattle.pc_bindings.proofs.definitions.add_in_members.Given as goal

abbrev pub invariant-loop-member : goal.invariant-loop-member
invariant-loop-member l = map mention_of l.mentions.items
    ++ in_members (class_of l.class) (map member_of (drop l.member-index l.members))
    ≡ map mention_of l.fn.mentions.items ++ in_members (class_of l.class) (map member_of l.members)
