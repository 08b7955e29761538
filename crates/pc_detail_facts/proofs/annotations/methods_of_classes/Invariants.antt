use Rattle.std.proofs.Common.{◌≡◌, map, take}
use Rattle.pc_scope.specs.Bindings.{methods_in}
use Rattle.pc_detail_facts.specs.Held.{class_lent, function_lent}
use Rattle.pc_detail_facts.proofs.annotations.methods_of_classes.Given as goal

abbrev pub invariant-loop-class : goal.invariant-loop-class
invariant-loop-class l = map (λ w. map function_lent w.items) l.methods.items
    ≡ map (λ c. methods_in c.members) (map class_lent (take l.class-index l.classes))
