use Rattle.std.proofs.Common.{◌≡◌, ◌++◌, sym, subst, ap, inl, inr, List}
use Rattle.std.specs.Prelude.{OnOk, ◌&&◌}
use Rattle.pc_tree.specs.Tree.{Expr, expr_of}
use Rattle.pc_tree.specs.Lists.{exprs_of_list, entries_of_list, keywords_of_list}
use Rattle.pc_tree.specs.declared.tree.Expr.{Expr as RustExpr}
use Rattle.pc_tree.specs.declared.code.Finding.{Finding}
use Rattle.pc_tree.proofs.Trees.{tuple_tree, list_tree, dict_tree, call_tree}
use Rattle.pc_scope.specs.Expressions.{parts_in, parts_in_entries, parts_in_keywords, is_instance_test}
use Rattle.pc_scope_findings.specs.Internal.SoughtParts.{is_judged, sought_among, some_parts, inner_parts}
use Rattle.pc_scope_findings.proofs.Seeking.{then_parts, then_rest, then_two, one_of_all, entry_more, value_more}
use Rattle.pc_scope_findings.proofs.parts.+parts.Goals as goal

pub seek_inside-returns-in-Tuple : goal.seek_inside-returns-in-Tuple
seek_inside-returns-in-Tuple t c = rw c.in-Tuple.is
    (subst (λ (e : Expr). OnOk c.seek_all.result (c.seek_all.new.found.items ≡ c.args.found.now.items ++ sought_among
    c.args.scopes.now.tables c.args.sought (inner_parts (is_judged c.args.sought) e)))
    (sym (tuple_tree c.in-Tuple.field-0 c.in-Tuple.items)) (rw c.deref.ensures.value at c.seek_all.ensures))

pub seek_inside-returns-in-List : goal.seek_inside-returns-in-List
seek_inside-returns-in-List t c = rw c.in-List.is
    (subst (λ (e : Expr). OnOk c.seek_all-in-List.result (c.seek_all-in-List.new.found.items ≡ c.args.found.now.items
    ++ sought_among c.args.scopes.now.tables c.args.sought (inner_parts (is_judged c.args.sought) e)))
    (sym (list_tree c.in-List.field-0 c.in-List.items)) (rw c.deref-in-List.ensures.value at
    c.seek_all-in-List.ensures))

pub seek_inside-returns-in-Dict : goal.seek_inside-returns-in-Dict
seek_inside-returns-in-Dict t c = rw c.in-Dict.is
    (subst (λ (e : Expr). OnOk c.seek_entries.result (c.seek_entries.new.found.items ≡ c.args.found.now.items
    ++ sought_among c.args.scopes.now.tables c.args.sought (inner_parts (is_judged c.args.sought) e)))
    (sym (dict_tree c.in-Dict.field-0 c.in-Dict.entries)) (rw c.deref-in-Dict.ensures.value at c.seek_entries.ensures))

pub seek_inside-returns-in_ok-seek_all-in-Call : goal.seek_inside-returns-in_ok-seek_all-in-Call
seek_inside-returns-in_ok-seek_all-in-Call t c =
    let j = is_judged c.args.sought in
    let callee = parts_in j (expr_of c.in-Call.callee.value) in
    let alone = j && is_instance_test (expr_of c.in-Call.callee.value) (exprs_of_list c.in-Call.arguments.items)
    (keywords_of_list c.in-Call.by_name.items) in
    let arguments = some_parts j alone (exprs_of_list c.in-Call.arguments.items) in
    let values = parts_in_keywords j (keywords_of_list c.in-Call.by_name.items) in
    let passed = rw (c.deref-in-Call-2.ensures, c.deref-in-Call-3.ensures.value, c.deref-in-Call-4.ensures.value) at
    c.passes_over-first_alone.ensures in
    let e = then_two c.args.scopes.now.tables c.args.sought c.args.found.now.items c.seek-in-Call.new.found.items
    c.seek_all-in-Call.new.found.items callee arguments values
    (rw c.deref-in-Call.ensures at c.in_ok-seek-in-Call.ensures)
    (rw (passed, c.deref-in-Call-5.ensures.value) at c.in_ok-seek_all-in-Call.ensures) in
    rw c.in-Call.is (subst (λ (x : Expr). OnOk c.seek_values.result
    (c.seek_values.new.found.items ≡ c.args.found.now.items ++ sought_among c.args.scopes.now.tables c.args.sought
    (inner_parts (is_judged c.args.sought) x)))
    (sym (call_tree c.in-Call.place c.in-Call.callee c.in-Call.arguments c.in-Call.by_name))
    (subst (λ (fs : List Finding). OnOk c.seek_values.result (c.seek_values.new.found.items ≡ fs)) e
    (rw c.deref-in-Call-6.ensures.value at c.seek_values.ensures)))

pub seek_all-loop-item-preserved : goal.seek_all-loop-item-preserved
seek_all-loop-item-preserved t c =
    let all = c.args.found.now.items ++ sought_among c.args.scopes.now.tables c.args.sought
    (some_parts (is_judged c.args.sought) c.args.first_alone (exprs_of_list c.args.items.now)) in
    one_of_all c.args.scopes.now.tables c.args.sought (is_judged c.args.sought) c.args.first_alone c.args.items.now
    c.loop-item.item-index c.item-item.result c.loop-item.found.items all c.seek.new.found.items
    c.if-first_alone.false c.loop-item-test.true c.item-item.is c.loop-item.invariant c.in_ok-seek.ensures

pub seek_entries-loop-entry-preserved : goal.seek_entries-loop-entry-preserved
seek_entries-loop-entry-preserved t c =
    let all = c.args.found.now.items ++ sought_among c.args.scopes.now.tables c.args.sought
    (parts_in_entries (is_judged c.args.sought) (entries_of_list c.args.entries.now)) in
    entry_more c.args.scopes.now.tables c.args.sought (is_judged c.args.sought) c.loop-entry.found.items all
    c.seek.new.found.items c.seek-in-loop-entry.new.found.items c.args.entries.now c.loop-entry.entry-index
    c.entry-item.result c.loop-entry-test.true c.entry-item.is c.loop-entry.invariant c.in_ok-seek.ensures
    c.in_ok-seek-2.ensures

pub seek_values-loop-argument-preserved : goal.seek_values-loop-argument-preserved
seek_values-loop-argument-preserved t c =
    let all = c.args.found.now.items ++ sought_among c.args.scopes.now.tables c.args.sought
    (parts_in_keywords (is_judged c.args.sought) (keywords_of_list c.args.by_name.now)) in
    value_more c.args.scopes.now.tables c.args.sought (is_judged c.args.sought) c.loop-argument.found.items all
    c.seek.new.found.items c.args.by_name.now c.loop-argument.argument-index c.argument-item.result
    c.loop-argument-test.true c.argument-item.is c.loop-argument.invariant c.in_ok-seek.ensures

pub seek_inside-returns-in_ok-seek-in-Binary : goal.seek_inside-returns-in_ok-seek-in-Binary
seek_inside-returns-in_ok-seek-in-Binary t c =
    let e = then_parts c.args.scopes.now.tables c.args.sought c.args.found.now.items c.seek-in-Binary.new.found.items
    (parts_in (is_judged c.args.sought) (expr_of c.in-Binary.left.value))
    (parts_in (is_judged c.args.sought) (expr_of c.in-Binary.right.value))
    (rw c.deref-in-Binary.ensures at c.in_ok-seek-in-Binary.ensures) in
    rw c.in-Binary.is (subst (λ (fs : List Finding). OnOk c.seek-in-Binary-2.result
    (c.seek-in-Binary-2.new.found.items ≡ fs)) e (rw c.deref-in-Binary-2.ensures at c.seek-in-Binary-2.ensures))

pub seek_inside-returns-in_ok-seek-in-Compare : goal.seek_inside-returns-in_ok-seek-in-Compare
seek_inside-returns-in_ok-seek-in-Compare t c =
    let e = then_parts c.args.scopes.now.tables c.args.sought c.args.found.now.items c.seek-in-Compare.new.found.items
    (parts_in (is_judged c.args.sought) (expr_of c.in-Compare.left.value))
    (parts_in (is_judged c.args.sought) (expr_of c.in-Compare.right.value))
    (rw c.deref-in-Compare.ensures at c.in_ok-seek-in-Compare.ensures) in
    rw c.in-Compare.is (subst (λ (fs : List Finding). OnOk c.seek-in-Compare-2.result
    (c.seek-in-Compare-2.new.found.items ≡ fs)) e (rw c.deref-in-Compare-2.ensures at c.seek-in-Compare-2.ensures))

pub seek_inside-returns-in_ok-seek-in-And : goal.seek_inside-returns-in_ok-seek-in-And
seek_inside-returns-in_ok-seek-in-And t c =
    let left = parts_in (is_judged c.args.sought) (expr_of c.in-And.left.value) in
    let right = parts_in (is_judged c.args.sought) (expr_of c.in-And.right.value) in
    let all = inner_parts (is_judged c.args.sought) (expr_of c.args.e.now) in
    let same : all ≡ left ++ right = elim c.in-And.is [
      | inl w ↦
          ap (λ (x : RustExpr). inner_parts (is_judged c.args.sought) (expr_of x)) w.1
      | inr v ↦
          elim v [
            | inl w ↦ ap (λ (x : RustExpr). inner_parts (is_judged c.args.sought) (expr_of x)) w.1
            | inr w ↦
                ap (λ (x : RustExpr). inner_parts (is_judged c.args.sought) (expr_of x)) w.1
          ]
    ] in
    let e = then_rest c.args.scopes.now.tables c.args.sought c.args.found.now.items c.seek-in-And.new.found.items left
    right all same (rw c.deref-in-And.ensures at c.in_ok-seek-in-And.ensures) in
    subst (λ (fs : List Finding). OnOk c.seek-in-And-2.result (c.seek-in-And-2.new.found.items ≡ fs)) e
    (rw c.deref-in-And-2.ensures at c.seek-in-And-2.ensures)
