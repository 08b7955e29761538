use Rattle.std.proofs.Common.{◌≡◌, ◌++◌, ◌∙◌, [], ◌+◌, sym, ap, inl, inr, List, append_assoc, arith, drop, false, rules}
use Rattle.pc_tree.specs.Tree.{Expr, expr_of}
use Rattle.pc_tree.specs.Lists.{exprs_of_list, entries_of_list, keywords_of_list}
use Rattle.pc_tree.specs.declared.tree.Entry.{Entry as RustEntry}
use Rattle.pc_tree.specs.declared.tree.Expr.{Expr as RustExpr}
use Rattle.pc_tree.specs.declared.tree.Expr.TheFolds.{the_lemmas}
use Rattle.pc_tree.specs.declared.tree.KeywordArgument.{KeywordArgument as RustKeyword}
use Rattle.pc_tree.proofs.Trees.{tuple_tree, list_tree, dict_tree, call_tree}
use Rattle.pc_scope.specs.Expressions.{parts_in, parts_in_all, parts_in_entries, parts_in_keywords}
use Rattle.pc_scope_findings.specs.Internal.SoughtParts.{inner_parts}
use Rattle.pc_detail_facts.specs.Held.{known_held, module_held}
use Rattle.pc_flow_details.specs.Kept.{flows_kept, taken_in}
use Rattle.pc_detail_rules.specs.Nodes.{owned}
use Rattle.pc_detail_rules.specs.Sinks.{SinkAt, sinks_in}
use Rattle.pc_flow_details.proofs.Kept.{both_taken, by_two, end_of, next_of, none_taken, on_whole, one_taken}
use Rattle.pc_flow_details.proofs.OwnFirst.{own_first}
use Rattle.pc_flow_details.proofs.SearchedSinks.{nothing_taken, on_same}
use Rattle.pc_flow_details.proofs.expression_sinks.+search.Goals as goal

pub search-returns : goal.search-returns
search-returns t c =
    let f = c.args.facts.now in
    let o = c.args.owner in
    let e = expr_of c.args.expr.now in
    on_whole f c.search_parts.result (flows_kept c.args.sinks.now) (flows_kept c.add_taken.new.sinks)
    (flows_kept c.search_parts.new.sinks) (sinks_in (module_held f) (known_held f) (owned o e))
    (taken_in f o (inner_parts false e)) (taken_in f o (parts_in false e))
    (ap (taken_in f o) (own_first e) ∙ one_taken f o e (inner_parts false e))
    c.in_ok-add_taken.ensures c.search_parts.ensures

-- ---- lists

pub search_each-loop-expr-preserved : goal.search_each-loop-expr-preserved
search_each-loop-expr-preserved t c =
    let f = c.args.facts.now in
    let o = c.args.owner in
    let own = parts_in false (expr_of c.expr-item.result) in
    let rest = parts_in_all false (exprs_of_list (drop (c.loop-expr.expr-index + 1) c.args.exprs.now)) in
    next_of f (λ (xs : List RustExpr). taken_in f o (parts_in_all false (exprs_of_list xs))) (taken_in f o own)
    c.args.exprs.now c.loop-expr.expr-index c.expr-item.result _ _ _ (both_taken f o own rest)
    c.loop-expr-test.true c.expr-item.is c.loop-expr.invariant c.in_ok-search.ensures

pub search_each-returns : goal.search_each-returns
search_each-returns t c =
    let f = c.args.facts.now in
    end_of f (λ (xs : List RustExpr). taken_in f c.args.owner (parts_in_all false (exprs_of_list xs))) c.args.exprs.now
    c.loop-expr.expr-index _ _ (none_taken f c.args.owner) c.loop-expr-test.false c.loop-expr.invariant

pub search_entries-loop-entry-preserved : goal.search_entries-loop-entry-preserved
search_entries-loop-entry-preserved t c =
    let f = c.args.facts.now in
    let o = c.args.owner in
    let rest = parts_in_entries false (entries_of_list (drop (c.loop-entry.entry-index + 1) c.args.entries.now)) in
    let key = parts_in false (expr_of c.entry-item.result.key) in
    let value = parts_in false (expr_of c.entry-item.result.value) in
    next_of f (λ (xs : List RustEntry). taken_in f o (parts_in_entries false (entries_of_list xs)))
    (taken_in f o key ++ taken_in f o value) c.args.entries.now c.loop-entry.entry-index c.entry-item.result _ _ _
    (both_taken f o key (value ++ rest) ∙ ap (λ (l : List SinkAt). taken_in f o key ++ l) (both_taken f o value rest)
    ∙ sym (append_assoc (taken_in f o key) (taken_in f o value) (taken_in f o rest)))
    c.loop-entry-test.true c.entry-item.is c.loop-entry.invariant
    (by_two f _ _ _ (taken_in f o key) (taken_in f o value) c.in_ok-search.ensures c.in_ok-search-2.ensures)

pub search_entries-returns : goal.search_entries-returns
search_entries-returns t c =
    let f = c.args.facts.now in
    end_of f (λ (xs : List RustEntry). taken_in f c.args.owner (parts_in_entries false (entries_of_list xs)))
    c.args.entries.now c.loop-entry.entry-index _ _ (none_taken f c.args.owner) c.loop-entry-test.false
    c.loop-entry.invariant

pub search_values-loop-keyword-preserved : goal.search_values-loop-keyword-preserved
search_values-loop-keyword-preserved t c =
    let f = c.args.facts.now in
    let o = c.args.owner in
    let own = parts_in false (expr_of c.keyword-item.result.value) in
    let rest = parts_in_keywords false
    (keywords_of_list (drop (c.loop-keyword.keyword-index + 1) c.args.keywords.now)) in
    next_of f (λ (xs : List RustKeyword). taken_in f o (parts_in_keywords false (keywords_of_list xs)))
    (taken_in f o own) c.args.keywords.now c.loop-keyword.keyword-index c.keyword-item.result _ _ _
    (both_taken f o own rest) c.loop-keyword-test.true c.keyword-item.is c.loop-keyword.invariant
    c.in_ok-search.ensures

pub search_values-returns : goal.search_values-returns
search_values-returns t c =
    let f = c.args.facts.now in
    end_of f (λ (xs : List RustKeyword). taken_in f c.args.owner (parts_in_keywords false (keywords_of_list xs)))
    c.args.keywords.now c.loop-keyword.keyword-index _ _ (none_taken f c.args.owner) c.loop-keyword-test.false
    c.loop-keyword.invariant

-- ---- no parts

pub search_parts-returns-in-Name : goal.search_parts-returns-in-Name
search_parts-returns-in-Name t c =
    let parts = λ (x : RustExpr). inner_parts false (expr_of x) in
    let none : inner_parts false (expr_of c.args.expr.now) ≡ [] = elim c.in-Name.is [
      | inl w ↦ ap parts w.1
      | inr v ↦
          elim v [
            | inl w ↦ ap parts w.2
            | inr w ↦ ap parts w.2
          ]
    ] in
    nothing_taken c.args.facts.now c.args.owner (flows_kept c.args.sinks.now)
    (inner_parts false (expr_of c.args.expr.now)) none

pub search_parts-returns-in-Name-2 : goal.search_parts-returns-in-Name-2
search_parts-returns-in-Name-2 t c =
    let parts = λ (x : RustExpr). inner_parts false (expr_of x) in
    let none : inner_parts false (expr_of c.args.expr.now) ≡ [] = elim c.in-Name.is [
      | inl w ↦ ap parts w.1
      | inr v ↦
          elim v [
            | inl w ↦ ap parts w.2
            | inr w ↦ ap parts w.2
          ]
    ] in
    nothing_taken c.args.facts.now c.args.owner (flows_kept c.args.sinks.now)
    (inner_parts false (expr_of c.args.expr.now)) none

pub search_parts-returns-in-Name-3 : goal.search_parts-returns-in-Name-3
search_parts-returns-in-Name-3 t c =
    let parts = λ (x : RustExpr). inner_parts false (expr_of x) in
    let none : inner_parts false (expr_of c.args.expr.now) ≡ [] = elim c.in-Name.is [
      | inl w ↦ ap parts w.1
      | inr v ↦
          elim v [
            | inl w ↦ ap parts w.2
            | inr w ↦ ap parts w.2
          ]
    ] in
    nothing_taken c.args.facts.now c.args.owner (flows_kept c.args.sinks.now)
    (inner_parts false (expr_of c.args.expr.now)) none

pub search_parts-returns-in-True : goal.search_parts-returns-in-True
search_parts-returns-in-True t c =
    let parts = λ (x : RustExpr). inner_parts false (expr_of x) in
    let none : inner_parts false (expr_of c.args.expr.now) ≡ [] = elim c.in-True.is [
      | inl w ↦ ap parts w.1
      | inr v ↦
          elim v [
            | inl w ↦ ap parts w.1
            | inr w ↦ ap parts w.1
          ]
    ] in
    nothing_taken c.args.facts.now c.args.owner (flows_kept c.args.sinks.now)
    (inner_parts false (expr_of c.args.expr.now)) none

pub search_parts-returns-in-True-2 : goal.search_parts-returns-in-True-2
search_parts-returns-in-True-2 t c =
    let parts = λ (x : RustExpr). inner_parts false (expr_of x) in
    let none : inner_parts false (expr_of c.args.expr.now) ≡ [] = elim c.in-True.is [
      | inl w ↦ ap parts w.1
      | inr v ↦
          elim v [
            | inl w ↦ ap parts w.1
            | inr w ↦ ap parts w.1
          ]
    ] in
    nothing_taken c.args.facts.now c.args.owner (flows_kept c.args.sinks.now)
    (inner_parts false (expr_of c.args.expr.now)) none

pub search_parts-returns-in-True-3 : goal.search_parts-returns-in-True-3
search_parts-returns-in-True-3 t c =
    let parts = λ (x : RustExpr). inner_parts false (expr_of x) in
    let none : inner_parts false (expr_of c.args.expr.now) ≡ [] = elim c.in-True.is [
      | inl w ↦ ap parts w.1
      | inr v ↦
          elim v [
            | inl w ↦ ap parts w.1
            | inr w ↦ ap parts w.1
          ]
    ] in
    nothing_taken c.args.facts.now c.args.owner (flows_kept c.args.sinks.now)
    (inner_parts false (expr_of c.args.expr.now)) none

-- ---- a list of parts

pub search_parts-returns-in-Tuple : goal.search_parts-returns-in-Tuple
search_parts-returns-in-Tuple t c =
    let f = c.args.facts.now in
    let o = c.args.owner in
    on_same f c.search_each.result (flows_kept c.args.sinks.now) (flows_kept c.search_each.new.sinks)
    (taken_in f o (parts_in_all false (exprs_of_list c.in-Tuple.items.items)))
    (taken_in f o (inner_parts false (expr_of c.args.expr.now)))
    (ap (λ (x : RustExpr). taken_in f o (inner_parts false (expr_of x))) c.in-Tuple.is
    ∙ ap (λ (e : Expr). taken_in f o (inner_parts false e)) (tuple_tree c.in-Tuple.field-0 c.in-Tuple.items))
    (rw c.deref.ensures.value at c.search_each.ensures)

pub search_parts-returns-in-List : goal.search_parts-returns-in-List
search_parts-returns-in-List t c =
    let f = c.args.facts.now in
    let o = c.args.owner in
    on_same f c.search_each-in-List.result (flows_kept c.args.sinks.now) (flows_kept c.search_each-in-List.new.sinks)
    (taken_in f o (parts_in_all false (exprs_of_list c.in-List.items.items)))
    (taken_in f o (inner_parts false (expr_of c.args.expr.now)))
    (ap (λ (x : RustExpr). taken_in f o (inner_parts false (expr_of x))) c.in-List.is
    ∙ ap (λ (e : Expr). taken_in f o (inner_parts false e)) (list_tree c.in-List.field-0 c.in-List.items))
    (rw c.deref-in-List.ensures.value at c.search_each-in-List.ensures)

pub search_parts-returns-in-Dict : goal.search_parts-returns-in-Dict
search_parts-returns-in-Dict t c =
    let f = c.args.facts.now in
    let o = c.args.owner in
    on_same f c.search_entries.result (flows_kept c.args.sinks.now) (flows_kept c.search_entries.new.sinks)
    (taken_in f o (parts_in_entries false (entries_of_list c.in-Dict.entries.items)))
    (taken_in f o (inner_parts false (expr_of c.args.expr.now)))
    (ap (λ (x : RustExpr). taken_in f o (inner_parts false (expr_of x))) c.in-Dict.is
    ∙ ap (λ (e : Expr). taken_in f o (inner_parts false e)) (dict_tree c.in-Dict.field-0 c.in-Dict.entries))
    (rw c.deref-in-Dict.ensures.value at c.search_entries.ensures)

-- ---- two parts

pub search_parts-returns-in_ok-search-in-Binary : goal.search_parts-returns-in_ok-search-in-Binary
search_parts-returns-in_ok-search-in-Binary t c =
    let f = c.args.facts.now in
    let o = c.args.owner in
    let left = parts_in false (expr_of c.in-Binary.left.value) in
    let right = parts_in false (expr_of c.in-Binary.right.value) in
    on_whole f c.search-in-Binary-2.result (flows_kept c.args.sinks.now) (flows_kept c.search-in-Binary.new.sinks)
    (flows_kept c.search-in-Binary-2.new.sinks) (taken_in f o left) (taken_in f o right)
    (taken_in f o (inner_parts false (expr_of c.args.expr.now)))
    (ap (λ (x : RustExpr). taken_in f o (inner_parts false (expr_of x))) c.in-Binary.is ∙ both_taken f o left right)
    (rw c.deref-in-Binary.ensures at c.in_ok-search-in-Binary.ensures)
    (rw c.deref-in-Binary-2.ensures at c.search-in-Binary-2.ensures)

pub search_parts-returns-in_ok-search-in-Compare : goal.search_parts-returns-in_ok-search-in-Compare
search_parts-returns-in_ok-search-in-Compare t c =
    let f = c.args.facts.now in
    let o = c.args.owner in
    let left = parts_in false (expr_of c.in-Compare.left.value) in
    let right = parts_in false (expr_of c.in-Compare.right.value) in
    on_whole f c.search-in-Compare-2.result (flows_kept c.args.sinks.now) (flows_kept c.search-in-Compare.new.sinks)
    (flows_kept c.search-in-Compare-2.new.sinks) (taken_in f o left) (taken_in f o right)
    (taken_in f o (inner_parts false (expr_of c.args.expr.now)))
    (ap (λ (x : RustExpr). taken_in f o (inner_parts false (expr_of x))) c.in-Compare.is ∙ both_taken f o left right)
    (rw c.deref-in-Compare.ensures at c.in_ok-search-in-Compare.ensures)
    (rw c.deref-in-Compare-2.ensures at c.search-in-Compare-2.ensures)

pub search_parts-returns-in_ok-search-in-And : goal.search_parts-returns-in_ok-search-in-And
search_parts-returns-in_ok-search-in-And t c =
    let f = c.args.facts.now in
    let o = c.args.owner in
    let left = parts_in false (expr_of c.in-And.left.value) in
    let right = parts_in false (expr_of c.in-And.right.value) in
    let same : inner_parts false (expr_of c.args.expr.now) ≡ left ++ right = elim c.in-And.is [
      | inl w ↦ ap (λ (x : RustExpr). inner_parts false (expr_of x)) w.1
      | inr v ↦
          elim v [
            | inl w ↦ ap (λ (x : RustExpr). inner_parts false (expr_of x)) w.1
            | inr w ↦ ap (λ (x : RustExpr). inner_parts false (expr_of x)) w.1
          ]
    ] in
    on_whole f c.search-in-And-2.result (flows_kept c.args.sinks.now) (flows_kept c.search-in-And.new.sinks)
    (flows_kept c.search-in-And-2.new.sinks) (taken_in f o left) (taken_in f o right)
    (taken_in f o (inner_parts false (expr_of c.args.expr.now)))
    (ap (taken_in f o) same ∙ both_taken f o left right)
    (rw c.deref-in-And.ensures at c.in_ok-search-in-And.ensures)
    (rw c.deref-in-And-2.ensures at c.search-in-And-2.ensures)

-- ---- calls

pub search_parts-returns-in_ok-search_each-in-Call : goal.search_parts-returns-in_ok-search_each-in-Call
search_parts-returns-in_ok-search_each-in-Call t c =
    let f = c.args.facts.now in
    let o = c.args.owner in
    let callee = parts_in false (expr_of c.in-Call.callee.value) in
    let arguments = parts_in_all false (exprs_of_list c.in-Call.arguments.items) in
    let values = parts_in_keywords false (keywords_of_list c.in-Call.keywords.items) in
    on_whole f c.search_values.result (flows_kept c.args.sinks.now) (flows_kept c.search_each-in-Call.new.sinks)
    (flows_kept c.search_values.new.sinks) (taken_in f o callee ++ taken_in f o arguments) (taken_in f o values)
    (taken_in f o (inner_parts false (expr_of c.args.expr.now)))
    (ap (λ (x : RustExpr). taken_in f o (inner_parts false (expr_of x))) c.in-Call.is
    ∙ ap (λ (e : Expr). taken_in f o (inner_parts false e))
    (call_tree c.in-Call.place c.in-Call.callee c.in-Call.arguments c.in-Call.keywords)
    ∙ both_taken f o callee (arguments ++ values)
    ∙ ap (λ (l : List SinkAt). taken_in f o callee ++ l) (both_taken f o arguments values)
    ∙ sym (append_assoc (taken_in f o callee) (taken_in f o arguments) (taken_in f o values)))
    (by_two f (flows_kept c.args.sinks.now) (flows_kept c.search-in-Call.new.sinks)
    (flows_kept c.search_each-in-Call.new.sinks) (taken_in f o callee) (taken_in f o arguments)
    (rw c.deref-in-Call.ensures at c.in_ok-search-in-Call.ensures)
    (rw c.deref-in-Call-2.ensures.value at c.in_ok-search_each-in-Call.ensures))
    (rw c.deref-in-Call-3.ensures.value at c.search_values.ensures)

pub search_parts-search_each-requires-in-Call : goal.search_parts-search_each-requires-in-Call
search_parts-search_each-requires-in-Call t c =
    (first_of (search (rules, the_lemmas), grind (the_lemmas, arith)), c.requires)

pub search_parts-search_values-requires : goal.search_parts-search_values-requires
search_parts-search_values-requires t c =
    (first_of (search (rules, the_lemmas), grind (the_lemmas, arith)), c.requires)
