use Rattle.std.proofs.Common.{◌≡◌, drop}
use Rattle.std.specs.List.{list_all}
use Rattle.pc_tree.specs.Stopping.{is_among}
use Rattle.pc_tree.specs.Names.{texts_in}
use Rattle.pc_machine.proofs.calls.are_among.Given as goal

abbrev pub invariant-loop-argument : goal.invariant-loop-argument
invariant-loop-argument l = list_all (λ a. is_among (texts_in l.names) a.name.now) (drop l.argument-index l.named)
    ≡ list_all (λ a. is_among (texts_in l.names) a.name.now) l.named
