use Rattle.std.proofs.Common.{◌∙◌, ◌++◌, [], List, ap, append_assoc}
use Rattle.pc_tree.specs.declared.code.Finding.{Finding}
use Rattle.pc_scope.specs.Bindings.{classes_in}
use Rattle.pc_annotations.specs.ModuleOutlines.{module_in}
use Rattle.pc_class.specs.Built.{found_behind, annotated_behind}
use Rattle.pc_class.proofs.building.read_parts.Goals as goal

pub returns-clause-found : goal.returns-clause-found
returns-clause-found g c =
    let m = module_in c.args.outline.now in
    let cs = classes_in m.items in
    let old = c.args.found.now.items in
    c.in_ok-extend_from_slice.ensures.items
    ∙ (λ i. c.in_ok-parts.ensures.found i ++ (c.deref.ensures.value ∙ c.in_ok-parts.ensures.annotated
    ∙ ap (λ (fs : List Finding). fs ++ annotated_behind m [] 0 cs) c.new-in_annotations.ensures.items) i)
    ∙ append_assoc old (found_behind m [] 0 cs) (annotated_behind m [] 0 cs)
