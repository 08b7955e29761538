use Rattle.std.proofs.Common.{◌++◌}
use Rattle.pc_tree.specs.declared.code.Code.TheVariants.{E01, E05, E28, E29, E31}
use Rattle.pc_tree.specs.Tree.{module_of}
use Rattle.pc_tree.specs.Stopping.{twice, outside_loop, no_main, reserved_bound, default_order}
use Rattle.pc_tree.specs.Code.{at_code}
use Rattle.pc_tree.proofs.Finds.{behind}
use Rattle.pc_stopping.proofs.stopping.find_in_scopes.Goals as goal

pub returns : goal.returns
returns c =
    let r = c.find_in_defs-2.result in
    let m = module_of c.args.program.now in
    let new = c.find_in_defs-2.new.found.items in
    let a = c.find_twice.new.found.items in
    let b = c.find_in_defs.new.found.items in
    let d = c.find_no_main.new.found.items in
    let e = c.find_reserved.new.found.items in
    let two = at_code E05 (outside_loop m) in
    let three = at_code E28 (no_main m) in
    let four = at_code E29 (reserved_bound m) in
    let five = at_code E31 (default_order m) in
    behind r c.args.found.now.items a new (at_code E01 (twice m)) (two ++ (three ++ (four ++ five)))
    c.in_ok-find_twice.ensures
    (behind r a b new two (three ++ (four ++ five)) (rw c.deref.ensures.value at c.in_ok-find_in_defs.ensures)
    (behind r b d new three (four ++ five) c.in_ok-find_no_main.ensures
    (behind r d e new four five c.in_ok-find_reserved.ensures
    (rw c.deref-2.ensures.value at c.find_in_defs-2.ensures))))
