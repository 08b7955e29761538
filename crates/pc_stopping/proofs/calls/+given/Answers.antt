use Rattle.std.proofs.Common.{◌≡◌, ◌++◌, [], refl, ap, sym, subst}
use Rattle.std.specs.Prelude.{OnOk}
use Rattle.pc_tree.specs.declared.code.Code.TheVariants.{E01}
use Rattle.pc_tree.specs.Tree.{Expr, expr_of}
use Rattle.pc_tree.specs.Lists.{exprs_of_list, keywords_of_list}
use Rattle.pc_tree.specs.Stopping.{given_again, given_in, given_in_all, given_in_keywords}
use Rattle.pc_tree.proofs.Trees.{tuple_tree, list_tree, dict_tree, call_tree}
use Rattle.pc_tree.specs.Code.{at_code}
use Rattle.pc_tree.proofs.Finds.{joined}
use Rattle.pc_stopping.proofs.calls.+given.Goals as goal

pub find_given-returns-in-Tuple : goal.find_given-returns-in-Tuple
find_given-returns-in-Tuple t c = rw c.in-Tuple.is
    (subst (λ (e : Expr). OnOk c.find_given_in_all.result (c.find_given_in_all.new.found.items ≡ c.args.found.now.items
    ++ at_code E01 (given_in e))) (sym (tuple_tree c.in-Tuple.field-0 c.in-Tuple.items))
    (rw c.deref.ensures.value at c.find_given_in_all.ensures))

pub find_given-returns-in-List : goal.find_given-returns-in-List
find_given-returns-in-List t c = rw c.in-List.is
    (subst (λ (e : Expr). OnOk c.find_given_in_all-in-List.result
    (c.find_given_in_all-in-List.new.found.items ≡ c.args.found.now.items ++ at_code E01 (given_in e)))
    (sym (list_tree c.in-List.field-0 c.in-List.items)) (rw c.deref-in-List.ensures.value at
    c.find_given_in_all-in-List.ensures))

pub find_given-returns-in-Dict : goal.find_given-returns-in-Dict
find_given-returns-in-Dict t c = rw c.in-Dict.is
    (subst (λ (e : Expr). OnOk c.find_given_in_entries.result (c.find_given_in_entries.new.found.items
    ≡ c.args.found.now.items ++ at_code E01 (given_in e))) (sym (dict_tree c.in-Dict.field-0 c.in-Dict.entries))
    (rw c.deref-in-Dict.ensures.value at c.find_given_in_entries.ensures))

pub find_given-returns-in_ok-find_given_again-in-Call : goal.find_given-returns-in_ok-find_given_again-in-Call
find_given-returns-in_ok-find_given_again-in-Call t c =
    let r = c.find_given_in_values.result in
    let one = c.find_given.new.found.items in
    let two = c.find_given_in_all-in-Call.new.found.items in
    let three = c.find_given_again.new.found.items in
    let four = c.find_given_in_values.new.found.items in
    let callee = given_in (expr_of c.in-Call.callee.value) in
    let arguments = given_in_all (exprs_of_list c.in-Call.arguments.items) in
    let again = given_again [] (keywords_of_list c.in-Call.by_name.items) in
    let values = given_in_keywords (keywords_of_list c.in-Call.by_name.items) in
    rw c.in-Call.is (joined r E01 c.args.found.now.items one four callee (arguments ++ (again ++ values)) _
    (rw c.deref-in-Call.ensures at c.in_ok-find_given-in-Call.ensures)
    (ap (λ (e : Expr). given_in e) (call_tree c.in-Call.place c.in-Call.callee c.in-Call.arguments
    c.in-Call.by_name))
    (joined r E01 one two four arguments (again ++ values) (arguments ++ (again ++ values))
    (rw c.deref-in-Call-2.ensures.value at c.in_ok-find_given_in_all-in-Call.ensures) refl
    (joined r E01 two three four again values (again ++ values)
    (rw c.deref-in-Call-3.ensures.value at c.in_ok-find_given_again-in-Call.ensures) refl
    (rw c.deref-in-Call-4.ensures.value at c.find_given_in_values.ensures))))
