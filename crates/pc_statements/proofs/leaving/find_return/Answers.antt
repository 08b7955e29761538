use Rattle.std.proofs.Common.{◌≡◌, ◌∙◌, ◌++◌, ◌∷◌, [], List, Some, sym, ap, subst}
use Rattle.pc_source.specs.declared.place.Place.{Place}
use Rattle.pc_tree.specs.Tree.{Expr, expr_of, option_expr_of}
use Rattle.pc_tree.specs.Depth.{place_of}
use Rattle.pc_types.specs.Tree.{Tree, NoneType}
use Rattle.pc_notes.specs.Notes.{Note, notes_of}
use Rattle.pc_rules.specs.Operations.{clean}
use Rattle.pc_rules.specs.Computed.Expressions.{flows_of}
use Rattle.pc_rules.specs.Computed.Findings.{flows_at}
use Rattle.pc_rules.specs.Computed.Standing.{Standing, finds_in, label_in}
use Rattle.pc_rules.specs.declared.label.Label.{Label as RustLabel}
use Rattle.pc_rules.specs.Computed.ModuleParents.{class_parents}
use Rattle.pc_module_rules.specs.Computed.Statements.{BodyContext, return_finds}
use Rattle.pc_walk.specs.declared.context.BodyContext.{BodyContext as RustBodyContext}
use Rattle.pc_walk.specs.Walks.{body_context_in, standing_in}
use Rattle.pc_walk.proofs.Bound.{flow_found}
use Rattle.pc_walk.proofs.Walks.{grown, goes_further, found_by, found_then}
use Rattle.pc_statements.proofs.leaving.find_return.Goals as goal

-- a value that flows into the return type
returned : (f : BodyContext) (k : Standing) (first : Place) (e : Expr) (p : Place) (t : Tree) → t ≡ f.returned
    → p ≡ place_of e
    → finds_in k (Some t) e ++ flows_at p (flows_of f.context.bases (label_in k (Some t) e) (f.returned ∷ []))
    ≡ return_finds f k first (Some e)
returned f k first e p t i j =
    let into = f.returned ∷ [] in
    ap (λ x. finds_in k (Some x) e ++ flows_at p (flows_of f.context.bases (label_in k (Some x) e) into)) i
    ∙ ap (λ x. finds_in k (Some f.returned) e
    ++ flows_at x (flows_of f.context.bases (label_in k (Some f.returned) e) into)) j

pub returns-in_ok-find_flow_in-in-None-clause-finds : goal.returns-in_ok-find_flow_in-in-None-clause-finds
returns-in_ok-find_flow_in-in-None-clause-finds g c =
    let S = g.S.TypeStore in
    let w = c.args.walk.now in
    let none = c.in_ok-none-in-None in
    let l : RustLabel _ = record { ty = none.none; codes = c.new.result } in
    let flow = c.in_ok-find_flow_in-in-None in
    let found = flow_found S.tree (class_parents w.context.globals.now) c.args.first l (clean NoneType)
    w.context.returned.now flow.field-0
    (notes_of w.found.now) (notes_of c.find_flow_in.new.walk.found.now)
    (λ i. record { type = none.ensures.value.1 i; codes = c.new.ensures.items i }) flow.ensures.value
    flow.ensures.found in
    rw c.in-None.is (found_by S _ _ _ _ c.requires
    (goes_further (grown c.none.ensures.kept) c.find_flow_in.ensures.goes_on) c.find_flow_in.ensures.declared found)

pub returns-in_ok-find_flow_in-in-Some-clause-finds : goal.returns-in_ok-find_flow_in-in-Some-clause-finds
returns-in_ok-find_flow_in-in-Some-clause-finds g c =
    let S = g.S.TypeStore in
    let old = c.args.walk.now in
    let mid = c.type_in.new.walk in
    let env = c.args.env.now in
    let typed = c.in_ok-label-in-Some.ensures in
    let F = body_context_in S old in
    let K = standing_in S old env in
    let copied = c.in_ok-copy-in-Some in
    let want = Some (S.tree copied.field-0) in
    let m = label_in K want (expr_of c.deref.result.now) in
    let into = old.context.returned.now in
    let bases = (class_parents old.context.globals.now) in
    let flow = c.in_ok-find_flow_in-in-Some in
    let flowed : BodyContext → Standing → List Note = λ f k. flows_at c.place.result
    (flows_of bases m (S.tree into ∷ [])) in
    let pushed = subst (λ (f : RustBodyContext _). notes_of c.find_flow_in-in-Some.new.walk.found.now
    ≡ notes_of mid.found.now ++ flows_at c.place.result (flows_of (class_parents f.globals.now) m
    (S.tree into ∷ [])))
    c.type_in.ensures.goes_on.context (flow_found S.tree (class_parents mid.context.globals.now) c.place.result
    c.in_ok-label-in-Some.label m into flow.field-0
    (notes_of mid.found.now) (notes_of c.find_flow_in-in-Some.new.walk.found.now) typed.labelled.label.is
    flow.ensures.value
    flow.ensures.found) in
    let place = c.place.ensures ∙ ap (λ x. place_of (expr_of x)) (c.deref-in-Some.ensures ∙ sym c.deref.ensures) in
    let is = returned F K c.args.first (expr_of c.deref.result.now) c.place.result (S.tree copied.field-0)
    copied.ensures.1 place
    ∙ ap (λ x. return_finds F K c.args.first (Some (expr_of x))) c.deref.ensures
    ∙ ap (λ v. return_finds F K c.args.first (option_expr_of v)) (sym c.in-Some.is) in
    found_then S old mid _ env env _ flowed _ c.type_in.ensures.goes_on c.find_flow_in-in-Some.ensures.goes_on
    typed.finds
    (found_by S mid _ env flowed typed.finds.stands c.find_flow_in-in-Some.ensures.goes_on
    c.find_flow_in-in-Some.ensures.declared pushed) is
