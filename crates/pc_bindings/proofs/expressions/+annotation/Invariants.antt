use Rattle.std.proofs.Common.{◌≡◌, ◌++◌, map, drop}
use Rattle.pc_bindings.specs.Mentions.{in_anns}
use Rattle.pc_bindings.specs.Written.{mention_of, anns_of_list}
use Rattle.pc_bindings.proofs.expressions.+annotation.Given as goal

abbrev pub invariant-add_in_anns-loop-ann : goal.invariant-add_in_anns-loop-ann
invariant-add_in_anns-loop-ann l = map mention_of l.mentions.items ++ in_anns (anns_of_list (drop l.ann-index l.anns))
    ≡ map mention_of l.fn.mentions.items ++ in_anns (anns_of_list l.anns)
