use Rattle.std.proofs.Common.{◌≡◌, ◌++◌, map, refl, ap, sym, subst}
use Rattle.std.specs.Prelude.{OnOk}
use Rattle.pc_tree.specs.Tree.{Expr, expr_of}
use Rattle.pc_tree.specs.Lists.{exprs_of_list, keywords_of_list}
use Rattle.pc_tree.proofs.Trees.{tuple_tree, list_tree, dict_tree, call_tree}
use Rattle.pc_bindings.specs.Mentions.{in_expr, in_exprs, in_values}
use Rattle.pc_bindings.specs.Written.{scope_of, mention_of}
use Rattle.pc_bindings.proofs.Joined.{joined}
use Rattle.pc_bindings.proofs.expressions.+expression.Goals as goal

pub add_in_expr-returns-in-Tuple : goal.add_in_expr-returns-in-Tuple
add_in_expr-returns-in-Tuple t c = rw c.in-Tuple.is
    (subst (λ (e : Expr). OnOk c.add_in_exprs.result (map mention_of c.add_in_exprs.new.mentions.items
    ≡ map mention_of c.args.mentions.now.items ++ in_expr (scope_of c.args.scope) e))
    (sym (tuple_tree c.in-Tuple.field-0 c.in-Tuple.items)) (rw c.deref.ensures.value at c.add_in_exprs.ensures))

pub add_in_expr-returns-in-List : goal.add_in_expr-returns-in-List
add_in_expr-returns-in-List t c = rw c.in-List.is
    (subst (λ (e : Expr). OnOk c.add_in_exprs-in-List.result (map mention_of c.add_in_exprs-in-List.new.mentions.items
    ≡ map mention_of c.args.mentions.now.items ++ in_expr (scope_of c.args.scope) e))
    (sym (list_tree c.in-List.field-0 c.in-List.items))
    (rw c.deref-in-List.ensures.value at c.add_in_exprs-in-List.ensures))

pub add_in_expr-returns-in-Dict : goal.add_in_expr-returns-in-Dict
add_in_expr-returns-in-Dict t c = rw c.in-Dict.is
    (subst (λ (e : Expr). OnOk c.add_in_entries.result (map mention_of c.add_in_entries.new.mentions.items
    ≡ map mention_of c.args.mentions.now.items ++ in_expr (scope_of c.args.scope) e))
    (sym (dict_tree c.in-Dict.field-0 c.in-Dict.entries))
    (rw c.deref-in-Dict.ensures.value at c.add_in_entries.ensures))

pub add_in_expr-returns-in_ok-add_in_exprs-in-Call : goal.add_in_expr-returns-in_ok-add_in_exprs-in-Call
add_in_expr-returns-in_ok-add_in_exprs-in-Call t c =
    let s = scope_of c.args.scope in
    let r = c.add_in_values.result in
    let old = map mention_of c.args.mentions.now.items in
    let one = map mention_of c.add_in_expr-in-Call.new.mentions.items in
    let two = map mention_of c.add_in_exprs-in-Call.new.mentions.items in
    let three = map mention_of c.add_in_values.new.mentions.items in
    let callee = in_expr s (expr_of c.in-Call.callee.value) in
    let arguments = in_exprs s (exprs_of_list c.in-Call.arguments.items) in
    let values = in_values s (keywords_of_list c.in-Call.by_name.items) in
    rw c.in-Call.is (joined r old one three callee (arguments ++ values) _
    (rw c.deref-in-Call.ensures at c.in_ok-add_in_expr-in-Call.ensures)
    (ap (λ (e : Expr). in_expr s e) (call_tree c.in-Call.place c.in-Call.callee c.in-Call.arguments
    c.in-Call.by_name))
    (joined r one two three arguments values (arguments ++ values)
    (rw c.deref-in-Call-2.ensures.value at c.in_ok-add_in_exprs-in-Call.ensures) refl
    (rw c.deref-in-Call-3.ensures.value at c.add_in_values.ensures)))
