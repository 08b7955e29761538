use Rattle.std.proofs.Common.{[], ◌++◌, refl, map}
use Rattle.pc_tree.specs.declared.code.Code.TheVariants.{E01}
use Rattle.pc_tree.specs.Tree.{item_of}
use Rattle.pc_tree.specs.Stopping.{bound_again, given_in_constants, name_of_item}
use Rattle.pc_stopping.specs.declared.defs.FunctionRule.TheVariants as rule
use Rattle.pc_stopping.specs.Found.{in_defs}
use Rattle.pc_tree.proofs.Finds.{joined}
use Rattle.pc_stopping.proofs.stopping.find_twice.Goals as goal

pub returns : goal.returns
returns c =
    let r = c.find_in_defs-2.result in
    let items = map item_of c.args.program.now.items.items in
    let a = c.find_items_again.new.found.items in
    let b = c.find_in_defs.new.found.items in
    let d = c.find_given_in_constants.new.found.items in
    let e = c.find_in_defs-2.new.found.items in
    let one = bound_again [] (map name_of_item items) in
    let two = in_defs rule.ParametersAgain items in
    let three = given_in_constants items in
    let four = in_defs rule.GivenAgain items in
    joined r E01 c.args.found.now.items a e one (two ++ (three ++ four)) (one ++ (two ++ (three ++ four)))
    (rw c.as_slice-items.ensures.value at c.in_ok-find_items_again.ensures) refl
    (joined r E01 a b e two (three ++ four) (two ++ (three ++ four))
    (rw c.as_slice-items.ensures.value at c.in_ok-find_in_defs.ensures) refl
    (joined r E01 b d e three four (three ++ four) (rw c.as_slice-items.ensures.value at
    c.in_ok-find_given_in_constants.ensures) refl
    (rw c.as_slice-items.ensures.value at c.find_in_defs-2.ensures)))
