use Rattle.std.proofs.Common.{◌≡◌, ◌∙◌, [], ap, inl, inr, refl, sym}
use Rattle.pc_tree.specs.Tree.{expr_of, name_of, stmt_of, stmt_of_kind, target_of}
use Rattle.pc_tree.specs.declared.tree.Stmt.{Stmt as RustStmt}
use Rattle.pc_tree.specs.declared.tree.StmtKind.{StmtKind}
use Rattle.pc_detail_facts.specs.declared.definitions.Body.{Body as RustBody}
use Rattle.pc_detail_facts.specs.declared.facts.Facts.{Facts}
use Rattle.pc_detail_facts.specs.Held.{body_of, known_held, module_held}
use Rattle.pc_flow_details.specs.Kept.{FlowDetails, first_of_both, flows_to_sinks, flows_kept}
use Rattle.pc_detail_rules.specs.Sinks.{assigned_sinks, sinks_of_stmt}
use Rattle.pc_tree.specs.Depth.{place_of}
use Rattle.pc_tree.specs.declared.tree.Expr.{Expr as RustExpr}
use Rattle.pc_detail_texts.specs.Details as detail
use Rattle.pc_flow_details.proofs.Arguments.{nothing_into}
use Rattle.pc_flow_details.proofs.EachSink.{on_same}
use Rattle.pc_flow_details.proofs.LocalsHeld.{local_sunk}
use Rattle.pc_flow_details.proofs.sinks.add_statement.Goals as goal

module _ (f : Facts) (b : RustBody) (s : RustStmt) (x : FlowDetails) where
  -- a statement of a kind without sinks adds none
  none_at : (k : StmtKind) → s.kind ≡ k → sinks_of_stmt (module_held f) (known_held f) (body_of b) (stmt_of_kind s.first k) ≡ []
      → x ≡ first_of_both x (flows_to_sinks f (sinks_of_stmt (module_held f) (known_held f) (body_of b) (stmt_of s)))
  none_at k is none = nothing_into f x (sinks_of_stmt (module_held f) (known_held f) (body_of b) (stmt_of s))
      (ap (λ (y : StmtKind). sinks_of_stmt (module_held f) (known_held f) (body_of b) (stmt_of_kind s.first y)) is ∙ none)

pub returns-in-Pass : goal.returns-in-Pass
returns-in-Pass c =
    let none = none_at c.args.facts.now c.args.body c.args.statement.now (flows_kept c.args.sinks.now) in
    elim c.in-Pass.is [
      | inl e ↦ none _ e refl
      | inr v ↦
          elim v [
            | inl e ↦ none _ e refl
            | inr e ↦ none _ e refl
          ]
    ]

pub returns-in-Pass-2 : goal.returns-in-Pass-2
returns-in-Pass-2 c =
    let none = none_at c.args.facts.now c.args.body c.args.statement.now (flows_kept c.args.sinks.now) in
    elim c.in-Pass.is [
      | inl e ↦ none _ e refl
      | inr v ↦
          elim v [
            | inl e ↦ none _ e refl
            | inr e ↦ none _ e refl
          ]
    ]

pub returns-in-Pass-3 : goal.returns-in-Pass-3
returns-in-Pass-3 c =
    let none = none_at c.args.facts.now c.args.body c.args.statement.now (flows_kept c.args.sinks.now) in
    elim c.in-Pass.is [
      | inl e ↦ none _ e refl
      | inr v ↦
          elim v [
            | inl e ↦ none _ e refl
            | inr e ↦ none _ e refl
          ]
    ]

pub returns-in-Assert : goal.returns-in-Assert
returns-in-Assert c =
    let none = none_at c.args.facts.now c.args.body c.args.statement.now (flows_kept c.args.sinks.now) in
    elim c.in-Assert.is [
      | inl w ↦ none _ w.2 refl
      | inr w ↦ none _ w.1 refl
    ]

pub returns-in-Assert-2 : goal.returns-in-Assert-2
returns-in-Assert-2 c =
    let none = none_at c.args.facts.now c.args.body c.args.statement.now (flows_kept c.args.sinks.now) in
    elim c.in-Assert.is [
      | inl w ↦ none _ w.2 refl
      | inr w ↦ none _ w.1 refl
    ]

pub returns-in-While : goal.returns-in-While
returns-in-While c =
    let none = none_at c.args.facts.now c.args.body c.args.statement.now (flows_kept c.args.sinks.now) in
    elim c.in-While.is [
      | inl w ↦ none _ w.2 refl
      | inr w ↦ none _ w.2 refl
    ]

pub returns-in-While-2 : goal.returns-in-While-2
returns-in-While-2 c =
    let none = none_at c.args.facts.now c.args.body c.args.statement.now (flows_kept c.args.sinks.now) in
    elim c.in-While.is [
      | inl w ↦ none _ w.2 refl
      | inr w ↦ none _ w.2 refl
    ]

pub returns-in-Annotated : goal.returns-in-Annotated
returns-in-Annotated c =
    let f = c.args.facts.now in
    let b = body_of c.args.body in
    let s = c.args.statement.now in
    on_same f _ _ _ _ (sinks_of_stmt (module_held f) (known_held f) b (stmt_of s))
    (local_sunk detail.a_local c.args.locals.now b.function _ _ _ (name_of c.in-Annotated.name).text c.get.result
    c.requires.locals c.value_place-place-in-Annotated.ensures c.as_str-name.ensures.value c.get.ensures
    ∙ sym (ap (λ (k : StmtKind). sinks_of_stmt (module_held f) (known_held f) b (stmt_of_kind s.first k))
    c.in-Annotated.is)) c.add_only-in-Annotated.ensures

pub returns-in-Assign : goal.returns-in-Assign
returns-in-Assign c =
    let f = c.args.facts.now in
    let b = body_of c.args.body in
    let s = c.args.statement.now in
    on_same f _ _ _ _ (sinks_of_stmt (module_held f) (known_held f) b (stmt_of s))
    (ap (λ (x : RustExpr). assigned_sinks (module_held f) (known_held f) b.function (target_of c.in-Assign.target) (expr_of x))
    c.deref.ensures
    ∙ sym (ap (λ (k : StmtKind). sinks_of_stmt (module_held f) (known_held f) b (stmt_of_kind s.first k))
    c.in-Assign.is)) (c.add_assigned.ensures b.function c.requires.locals)

pub returns-in-For : goal.returns-in-For
returns-in-For c =
    let f = c.args.facts.now in
    let b = body_of c.args.body in
    let s = c.args.statement.now in
    on_same f _ _ _ _ (sinks_of_stmt (module_held f) (known_held f) b (stmt_of s))
    (local_sunk detail.a_loop_target c.args.locals.now b.function _ _ _ (name_of c.in-For.name).text c.get-in-For.result
    c.requires.locals (c.place.ensures ∙ ap (λ (x : RustExpr). place_of (expr_of x)) c.deref-in-For.ensures)
    c.as_str-name-in-For.ensures.value c.get-in-For.ensures
    ∙ sym (ap (λ (k : StmtKind). sinks_of_stmt (module_held f) (known_held f) b (stmt_of_kind s.first k))
    c.in-For.is)) c.add_only-in-For.ensures
