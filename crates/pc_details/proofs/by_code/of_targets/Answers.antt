use Rattle.std.proofs.Common.{◌∙◌, ◌+◌, List, Option, ap, arith, drop, map, sym}
use Rattle.std.proofs.lemmas.List.{drop_all}
use Rattle.std.specs.Borrow.{Bor}
use Rattle.std.specs.Option.{option_map}
use Rattle.pc_tree.specs.declared.tree.Target.{Target as RustTarget}
use Rattle.pc_types.specs.Tree.{Tree}
use Rattle.pc_detail_texts.specs.Details.{Detail}
use Rattle.pc_detail_texts.specs.Mapped.{map_detail}
use Rattle.pc_details.specs.ByCode.{target_rule}
use Rattle.pc_detail_facts.specs.Held.{known_held, module_held, text_held}
use Rattle.pc_detail_rules.specs.Names.{first_of_all}
use Rattle.pc_detail_nodes.specs.NodesHeld.{target_lent}
use Rattle.pc_detail_facts.proofs.Held.{drop_next}
use Rattle.pc_details.proofs.OverrideChain.{first_found, later_found}
use Rattle.pc_details.proofs.by_code.of_targets.Goals as goal

pub returns-then-is_some : goal.returns-then-is_some
returns-then-is_some c =
    let facts = c.args.facts.now in
    let rule = target_rule (module_held facts) (known_held facts) c.args.code in
    let xs = c.targets_at-target-items.result.now in
    let i = c.loop-target.target-index in
    let x = c.target-item.result in
    let all = λ (l : List (Bor RustTarget)). first_of_all rule (map target_lent l) in
    first_found facts (rule (target_lent x)) (all (drop (i + 1) xs)) c.in_ok-found.found
    (sym c.is_some.ensures ∙ c.if-is_some.true) c.in_ok-found.ensures
    ∙ ap (λ (o : Option (Detail Tree)). option_map (map_detail (text_held facts)) o)
    (sym (ap all (drop_next xs i x c.loop-target-test.true c.target-item.is)) ∙ c.loop-target.invariant
    ∙ ap all c.targets_at-target-items.ensures)

pub loop-target-preserved : goal.loop-target-preserved
loop-target-preserved c =
    let facts = c.args.facts.now in
    let rule = target_rule (module_held facts) (known_held facts) c.args.code in
    let xs = c.targets_at-target-items.result.now in
    let i = c.loop-target.target-index in
    let x = c.target-item.result in
    let all = λ (l : List (Bor RustTarget)). first_of_all rule (map target_lent l) in
    sym (later_found facts (rule (target_lent x)) (all (drop (i + 1) xs)) c.in_ok-found.found
    (sym c.is_some.ensures ∙ c.if-is_some.false) c.in_ok-found.ensures)
    ∙ sym (ap all (drop_next xs i x c.loop-target-test.true c.target-item.is)) ∙ c.loop-target.invariant

pub returns : goal.returns
returns c =
    let facts = c.args.facts.now in
    let rule = target_rule (module_held facts) (known_held facts) c.args.code in
    let xs = c.targets_at-target-items.result.now in
    let all = λ (l : List (Bor RustTarget)). first_of_all rule (map target_lent l) in
    ap (λ (o : Option (Detail Tree)). option_map (map_detail (text_held facts)) o)
    (sym (ap all (drop_all c.loop-target.target-index xs (omega arith))) ∙ c.loop-target.invariant
    ∙ ap all c.targets_at-target-items.ensures)
