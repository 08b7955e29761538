use Rattle.std.proofs.Common.{◌∙◌, ◌+◌, List, Option, ap, arith, drop, map, sym}
use Rattle.std.proofs.lemmas.List.{drop_all}
use Rattle.std.specs.Option.{option_map}
use Rattle.pc_types.specs.Tree.{Tree}
use Rattle.pc_detail_texts.specs.Details.{Detail}
use Rattle.pc_detail_texts.specs.Mapped.{map_detail}
use Rattle.pc_detail_facts.specs.declared.definitions.OwnedExpr.{OwnedExpr as RustOwned}
use Rattle.pc_details.specs.ByCode.{expr_rule}
use Rattle.pc_detail_facts.specs.Held.{known_held, module_held, owned_of, text_held}
use Rattle.pc_detail_rules.specs.Names.{first_of_all}
use Rattle.pc_detail_facts.proofs.Held.{drop_next}
use Rattle.pc_details.proofs.OverrideChain.{first_found, later_found}
use Rattle.pc_details.proofs.by_code.of_exprs.Goals as goal

pub returns-then-is_some : goal.returns-then-is_some
returns-then-is_some c =
    let facts = c.args.facts.now in
    let rule = expr_rule (module_held facts) (known_held facts) c.args.is_callee c.args.code in
    let xs = c.args.exprs.now in
    let i = c.loop-owned.owned-index in
    let x = c.owned-item.result in
    let all = λ (l : List RustOwned). first_of_all rule (map owned_of l) in
    first_found facts (rule (owned_of x)) (all (drop (i + 1) xs)) c.in_ok-found.found
    (sym c.is_some.ensures ∙ c.if-is_some.true) c.in_ok-found.ensures
    ∙ ap (λ (o : Option (Detail Tree)). option_map (map_detail (text_held facts)) o)
    (sym (ap all (drop_next xs i x c.loop-owned-test.true c.owned-item.is)) ∙ c.loop-owned.invariant)

pub loop-owned-preserved : goal.loop-owned-preserved
loop-owned-preserved c =
    let facts = c.args.facts.now in
    let rule = expr_rule (module_held facts) (known_held facts) c.args.is_callee c.args.code in
    let xs = c.args.exprs.now in
    let i = c.loop-owned.owned-index in
    let x = c.owned-item.result in
    let all = λ (l : List RustOwned). first_of_all rule (map owned_of l) in
    sym (later_found facts (rule (owned_of x)) (all (drop (i + 1) xs)) c.in_ok-found.found
    (sym c.is_some.ensures ∙ c.if-is_some.false) c.in_ok-found.ensures)
    ∙ sym (ap all (drop_next xs i x c.loop-owned-test.true c.owned-item.is)) ∙ c.loop-owned.invariant

pub returns : goal.returns
returns c =
    let facts = c.args.facts.now in
    let rule = expr_rule (module_held facts) (known_held facts) c.args.is_callee c.args.code in
    let xs = c.args.exprs.now in
    let all = λ (l : List RustOwned). first_of_all rule (map owned_of l) in
    ap (λ (o : Option (Detail Tree)). option_map (map_detail (text_held facts)) o)
    (sym (ap all (drop_all c.loop-owned.owned-index xs (omega arith))) ∙ c.loop-owned.invariant)
