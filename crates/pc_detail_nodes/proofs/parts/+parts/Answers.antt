use Rattle.std.proofs.Common.{◌≡◌, ◌∙◌, ◌++◌, ◌∷◌, [], List, map, sym, subst, ap, inl, inr, false}
use Rattle.std.proofs.lemmas.List.{map-append}
use Rattle.std.specs.Prelude.{OnOk}
use Rattle.pc_tree.specs.Tree.{Expr, expr_of}
use Rattle.pc_tree.specs.Lists.{exprs_of_list, keywords_of_list}
use Rattle.pc_tree.specs.declared.tree.Expr.{Expr as RustExpr}
use Rattle.pc_tree.proofs.Trees.{tuple_tree, list_tree, dict_tree, call_tree}
use Rattle.pc_scope.specs.Expressions.{parts_in, parts_in_all, parts_in_keywords}
use Rattle.pc_detail_nodes.specs.NodesHeld.{expr_lent, parts_inside}
use Rattle.pc_detail_nodes.proofs.WalkedLists.{then_parts, then_rest, then_two, parts_of_expr}
use Rattle.pc_detail_nodes.proofs.parts.+parts.Goals as goal

pub add_parts-returns : goal.add_parts-returns
add_parts-returns t c =
    let e = expr_of c.args.expr.now in
    let old = c.args.parts.now.items in
    let pushed : map expr_lent c.push.new.self.items ≡ map expr_lent old ++ e ∷ [] =
    ap (map expr_lent) c.in_ok-push.ensures.items ∙ map-append expr_lent old _ in
    let all = then_rest (map expr_lent old) (map expr_lent c.push.new.self.items) (e ∷ []) (parts_inside e)
    (parts_in false e) (parts_of_expr e) pushed in
    subst (λ (es : List Expr). OnOk c.add_inside.result (map expr_lent c.add_inside.new.parts.items ≡ es)) all
    c.add_inside.ensures

pub add_inside-returns-in-Tuple : goal.add_inside-returns-in-Tuple
add_inside-returns-in-Tuple t c = rw c.in-Tuple.is
    (subst (λ (e : Expr). OnOk c.add_each.result
    (map expr_lent c.add_each.new.parts.items ≡ map expr_lent c.args.parts.now.items ++ parts_inside e))
    (sym (tuple_tree c.in-Tuple.field-0 c.in-Tuple.items)) (rw c.deref.ensures.value at c.add_each.ensures))

pub add_inside-returns-in-List : goal.add_inside-returns-in-List
add_inside-returns-in-List t c = rw c.in-List.is
    (subst (λ (e : Expr). OnOk c.add_each-in-List.result
    (map expr_lent c.add_each-in-List.new.parts.items ≡ map expr_lent c.args.parts.now.items ++ parts_inside e))
    (sym (list_tree c.in-List.field-0 c.in-List.items)) (rw c.deref-in-List.ensures.value at
    c.add_each-in-List.ensures))

pub add_inside-returns-in-Dict : goal.add_inside-returns-in-Dict
add_inside-returns-in-Dict t c = rw c.in-Dict.is
    (subst (λ (e : Expr). OnOk c.add_entries.result
    (map expr_lent c.add_entries.new.parts.items ≡ map expr_lent c.args.parts.now.items ++ parts_inside e))
    (sym (dict_tree c.in-Dict.field-0 c.in-Dict.entries)) (rw c.deref-in-Dict.ensures.value at c.add_entries.ensures))

pub add_inside-returns-in_ok-add_each-in-Call : goal.add_inside-returns-in_ok-add_each-in-Call
add_inside-returns-in_ok-add_each-in-Call t c =
    let callee = parts_in false (expr_of c.in-Call.callee.value) in
    let arguments = parts_in_all false (exprs_of_list c.in-Call.arguments.items) in
    let values = parts_in_keywords false (keywords_of_list c.in-Call.keywords.items) in
    let e = then_two (map expr_lent c.args.parts.now.items) (map expr_lent c.add_parts-in-Call.new.parts.items)
    (map expr_lent c.add_each-in-Call.new.parts.items) callee arguments values
    (rw c.deref-in-Call.ensures at c.in_ok-add_parts-in-Call.ensures)
    (rw c.deref-in-Call-2.ensures.value at c.in_ok-add_each-in-Call.ensures) in
    rw c.in-Call.is (subst (λ (x : Expr). OnOk c.add_values.result
    (map expr_lent c.add_values.new.parts.items ≡ map expr_lent c.args.parts.now.items ++ parts_inside x))
    (sym (call_tree c.in-Call.place c.in-Call.callee c.in-Call.arguments c.in-Call.keywords))
    (subst (λ (es : List Expr). OnOk c.add_values.result (map expr_lent c.add_values.new.parts.items ≡ es)) e
    (rw c.deref-in-Call-3.ensures.value at c.add_values.ensures)))

pub add_inside-returns-in_ok-add_parts-in-Binary : goal.add_inside-returns-in_ok-add_parts-in-Binary
add_inside-returns-in_ok-add_parts-in-Binary t c =
    let e = then_parts (map expr_lent c.args.parts.now.items) (map expr_lent c.add_parts-in-Binary.new.parts.items)
    (parts_in false (expr_of c.in-Binary.left.value)) (parts_in false (expr_of c.in-Binary.right.value))
    (rw c.deref-in-Binary.ensures at c.in_ok-add_parts-in-Binary.ensures) in
    rw c.in-Binary.is (subst (λ (es : List Expr). OnOk c.add_parts-in-Binary-2.result
    (map expr_lent c.add_parts-in-Binary-2.new.parts.items ≡ es)) e (rw c.deref-in-Binary-2.ensures at
    c.add_parts-in-Binary-2.ensures))

pub add_inside-returns-in_ok-add_parts-in-Compare : goal.add_inside-returns-in_ok-add_parts-in-Compare
add_inside-returns-in_ok-add_parts-in-Compare t c =
    let e = then_parts (map expr_lent c.args.parts.now.items) (map expr_lent c.add_parts-in-Compare.new.parts.items)
    (parts_in false (expr_of c.in-Compare.left.value)) (parts_in false (expr_of c.in-Compare.right.value))
    (rw c.deref-in-Compare.ensures at c.in_ok-add_parts-in-Compare.ensures) in
    rw c.in-Compare.is (subst (λ (es : List Expr). OnOk c.add_parts-in-Compare-2.result
    (map expr_lent c.add_parts-in-Compare-2.new.parts.items ≡ es)) e (rw c.deref-in-Compare-2.ensures at
    c.add_parts-in-Compare-2.ensures))

pub add_inside-returns-in_ok-add_parts-in-And : goal.add_inside-returns-in_ok-add_parts-in-And
add_inside-returns-in_ok-add_parts-in-And t c =
    let left = parts_in false (expr_of c.in-And.left.value) in
    let right = parts_in false (expr_of c.in-And.right.value) in
    let all = parts_inside (expr_of c.args.expr.now) in
    let same : all ≡ left ++ right = elim c.in-And.is [
      | inl w ↦
          ap (λ (x : RustExpr). parts_inside (expr_of x)) w.1
      | inr v ↦
          elim v [
            | inl w ↦ ap (λ (x : RustExpr). parts_inside (expr_of x)) w.1
            | inr w ↦
                ap (λ (x : RustExpr). parts_inside (expr_of x)) w.1
          ]
    ] in
    let e = then_rest (map expr_lent c.args.parts.now.items) (map expr_lent c.add_parts-in-And.new.parts.items)
    left right all same (rw c.deref-in-And.ensures at c.in_ok-add_parts-in-And.ensures) in
    subst (λ (es : List Expr). OnOk c.add_parts-in-And-2.result
    (map expr_lent c.add_parts-in-And-2.new.parts.items ≡ es)) e
    (rw c.deref-in-And-2.ensures at c.add_parts-in-And-2.ensures)
