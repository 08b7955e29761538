use Rattle.std.proofs.Common.{◌<◌, ◌≤◌, length, rules}
use Rattle.pc_value.specs.Internal.Changes.{change_of}
use Rattle.pc_value.proofs.Lists.{change_there, same_there, nothing_there, on_ok, on_err}
use Rattle.pc_value.proofs.cell.change_at.Goals as goal

pub returns-then-place-len-clause-after : goal.returns-then-place-len-clause-after
returns-then-place-len-clause-after c =
    let lt : c.args.place < length c.args.heap.now.cells.items = search rules in
    on_ok c.change_cell.result (change_there c.args.heap.now.cells.items c.args.place c.index_mut.result.now
    c.change_cell.new.cell (change_of c.args.change) lt c.index_mut.ensures.value) c.change_cell.ensures.after

pub returns-then-place-len-clause-unchanged : goal.returns-then-place-len-clause-unchanged
returns-then-place-len-clause-unchanged c =
    let lt : c.args.place < length c.args.heap.now.cells.items = search rules in
    on_err c.change_cell.result (same_there c.args.heap.now.cells.items c.args.place c.index_mut.result.now
    c.change_cell.new.cell lt c.index_mut.ensures.value) c.change_cell.ensures.unchanged

pub returns-else-place-len-clause-outcome : goal.returns-else-place-len-clause-outcome
returns-else-place-len-clause-outcome c =
    let late : length c.args.heap.now.cells.items ≤ c.args.place = search rules in
    nothing_there c.args.heap.now.cells.items c.args.place (change_of c.args.change) late
