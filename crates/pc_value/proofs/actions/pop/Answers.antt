use Rattle.std.proofs.Common.{map, sym, ap, ◌∙◌}
use Rattle.pc_value.specs.Value.{seen}
use Rattle.pc_value.specs.Meaning.{value_of, heap_of}
use Rattle.pc_value.specs.Seeing.{seen_of}
use Rattle.pc_value.specs.Containers.{pop_outcome}
use Rattle.pc_value.specs.Internal.Changes.{pops, heap_changed}
use Rattle.pc_value.proofs.Changing.{list_there, pops_there, changes_to}
use Rattle.pc_value.proofs.actions.pop.Goals as goal

pub returns : goal.returns
returns c =
    let is = ap seen_of (sym c.in-List.is) ∙ c.see.ensures in
    let there = list_there (heap_of c.args.heap.now) (value_of c.args.object.now) c.in-List.place
    (map value_of c.in-List.field-1.now) is in
    changes_to c.change_at.result c.args.heap.now c.change_at.new.heap
    (heap_changed (heap_of c.args.heap.now) c.in-List.place pops)
    (pop_outcome (heap_of c.args.heap.now) (seen (heap_of c.args.heap.now) (value_of c.args.object.now)))
    c.change_at.ensures.outcome c.change_at.ensures.after c.change_at.ensures.unchanged
    (pops_there (heap_of c.args.heap.now) c.in-List.place (map value_of c.in-List.field-1.now) there
    ∙ ap (pop_outcome (heap_of c.args.heap.now)) is)
