use Rattle.std.proofs.Common.{◌∙◌, [], ap}
use Rattle.pc_class.specs.declared.parts.ClassArena.{ClassArena}
use Rattle.pc_class.specs.Parts.{classes_of_table, entries_behind}
use Rattle.pc_class.proofs.ClassAdded.{entries_are_behind, no_nodes}
use Rattle.pc_class.proofs.building.no_classes.Goals as goal

pub returns-clause-table : goal.returns-clause-table
returns-clause-table g c =
    let p : ClassArena _ = record {
      named = c.in_ok-named.named;
      classes = c.new-2.result;
      fields = c.new-3.result;
      methods = c.new-4.result;
    } in
    no_nodes c.in_ok-named.named c.new-3.result.items c.new-4.result.items c.new-2.result.items (classes_of_table p)
    c.in_ok-named.ensures.room c.in_ok-named.ensures.empty c.new-2.ensures.items
    (entries_are_behind p ∙ ap (entries_behind c.new-3.result.items c.new-4.result.items []) c.new-2.ensures.items)
