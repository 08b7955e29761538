use Rattle.std.proofs.Common.{◌∙◌, Bool, List, Option, ap₂, map, subst, sym}
use Rattle.std.specs.BTreeMap.{get}
use Rattle.std.specs.Prelude.{is_some}
use Rattle.pc_types.specs.Tree.{Tree}
use Rattle.pc_notes.specs.Texts.{place_cmp}
use Rattle.pc_detail_texts.specs.Details.{Detail}
use Rattle.pc_detail_facts.specs.declared.definitions.OwnedExpr.{OwnedExpr as RustOwned}
use Rattle.pc_details.specs.ByCode.{expr_rule, target_rule}
use Rattle.pc_detail_facts.specs.Held.{ShowsDetail, known_held, module_held, owned_of}
use Rattle.pc_detail_rules.specs.Names.{first_of_all}
use Rattle.pc_detail_nodes.specs.NodesHeld.{exprs_held, target_lent, targets_held}
use Rattle.pc_detail_facts.proofs.Results.{if_ok}
use Rattle.pc_details.proofs.OverrideChain.{first_found}
use Rattle.pc_details.proofs.WalkHeld.{shown_then}
use Rattle.pc_details.proofs.walked.WalkedModule.of_values.Goals as goal

pub returns-then-is_some : goal.returns-then-is_some
returns-then-is_some c =
    let f = c.args.self.now.facts.now in
    let n = c.args.self.now.nodes in
    let p = c.args.place in
    let callee = is_some (get place_cmp n.callees p) in
    first_found f (first_of_all (target_rule (module_held f) (known_held f) c.args.code)
    (map target_lent (targets_held n p)))
    (first_of_all (expr_rule (module_held f) (known_held f) callee c.args.code) (map owned_of (exprs_held n p)))
    c.in_ok-found.found (sym c.is_some.ensures ∙ c.if-is_some.true) c.in_ok-found.ensures

pub returns : goal.returns
returns c =
    let f = c.args.self.now.facts.now in
    let n = c.args.self.now.nodes in
    let p = c.args.place in
    let callee = is_some (get place_cmp n.callees p) in
    let targets = first_of_all (target_rule (module_held f) (known_held f) c.args.code)
    (map target_lent (targets_held n p)) in
    let exprs = first_of_all (expr_rule (module_held f) (known_held f) callee c.args.code)
    (map owned_of (exprs_held n p)) in
    if_ok c.of_exprs.result (λ made h. shown_then f targets exprs c.in_ok-found.found made
    (sym c.is_some.ensures ∙ c.if-is_some.false) c.in_ok-found.ensures
    (subst (λ (d : Option (Detail Tree)). ShowsDetail f d made)
    (ap₂ (λ (b : Bool) (es : List RustOwned). first_of_all (expr_rule (module_held f) (known_held f) b c.args.code)
    (map owned_of es)) c.is_callee_at-is_callee.ensures c.exprs_at-exprs.ensures) h)) c.of_exprs.ensures
