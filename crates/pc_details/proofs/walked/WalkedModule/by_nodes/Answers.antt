use Rattle.std.proofs.Common.{◌∙◌, Option, subst, sym}
use Rattle.std.specs.Option.{option_and_then}
use Rattle.pc_types.specs.Tree.{Tree}
use Rattle.pc_detail_texts.specs.Details.{Detail}
use Rattle.pc_details.specs.ByCode.{ann_rule, function_rule, values_rule}
use Rattle.pc_detail_rules.specs.Explains.{is_callee_at}
use Rattle.pc_detail_facts.specs.Held.{ShowsDetail, known_held, module_held}
use Rattle.pc_detail_rules.specs.Names.{first_of_all}
use Rattle.pc_detail_rules.specs.Nodes.{anns_at, body_named_at, exprs_at, targets_at}
use Rattle.pc_detail_rules.specs.Overrides.{detail_or}
use Rattle.pc_detail_facts.proofs.Results.{if_ok}
use Rattle.pc_details.proofs.OverrideChain.{first_found}
use Rattle.pc_details.proofs.WalkHeld.{anns_held_there, function_held_there, shown_then, values_held_there}
use Rattle.pc_details.proofs.walked.WalkedModule.by_nodes.Goals as goal

pub of_anns-requires : goal.of_anns-requires
of_anns-requires c = c.requires.1.0.facts

pub of_function-requires : goal.of_function-requires
of_function-requires c = c.requires.1.0.facts

pub of_values-requires-clause-facts : goal.of_values-requires-clause-facts
of_values-requires-clause-facts c = c.requires.1.0.facts

pub of_values-requires-clause-bound : goal.of_values-requires-clause-bound
of_values-requires-clause-bound c = c.requires.1.0.bound

pub returns-then-is_some : goal.returns-then-is_some
returns-then-is_some c =
    let f = c.args.self.now.facts.now in
    let m = module_held f in
    let k = known_held f in
    let x = c.args.finding in
    let anns = first_of_all (ann_rule m x.code) (anns_at m x.place) in
    let functions = option_and_then (function_rule m x.code) (body_named_at m x.place) in
    let values = values_rule m k (is_callee_at m x.place) x.code (targets_at m x.place) (exprs_at m x.place) in
    first_found f anns (detail_or functions values) c.in_ok-found.found (sym c.is_some.ensures ∙ c.if-is_some.true)
    (subst (λ (d : Option (Detail Tree)). ShowsDetail f d c.in_ok-found.found)
    (anns_held_there m k c.requires.0 c.args.self.now.nodes c.requires.1.0.nodes x c.requires.1.1)
    c.in_ok-found.ensures)

pub returns-then-is_some-2 : goal.returns-then-is_some-2
returns-then-is_some-2 c =
    let f = c.args.self.now.facts.now in
    let m = module_held f in
    let k = known_held f in
    let h = c.requires.1.0.nodes in
    let x = c.args.finding in
    let anns = first_of_all (ann_rule m x.code) (anns_at m x.place) in
    let functions = option_and_then (function_rule m x.code) (body_named_at m x.place) in
    let values = values_rule m k (is_callee_at m x.place) x.code (targets_at m x.place) (exprs_at m x.place) in
    shown_then f anns (detail_or functions values) c.in_ok-found.found c.in_ok-found-2.found
    (sym c.is_some.ensures ∙ c.if-is_some.false)
    (subst (λ (d : Option (Detail Tree)). ShowsDetail f d c.in_ok-found.found)
    (anns_held_there m k c.requires.0 c.args.self.now.nodes h x c.requires.1.1) c.in_ok-found.ensures)
    (first_found f functions values c.in_ok-found-2.found (sym c.is_some-2.ensures ∙ c.if-is_some-2.true)
    (subst (λ (d : Option (Detail Tree)). ShowsDetail f d c.in_ok-found-2.found)
    (function_held_there m k c.requires.0 c.args.self.now.nodes h x c.requires.1.1) c.in_ok-found-2.ensures))

pub returns : goal.returns
returns c =
    let f = c.args.self.now.facts.now in
    let m = module_held f in
    let k = known_held f in
    let h = c.requires.1.0.nodes in
    let x = c.args.finding in
    let anns = first_of_all (ann_rule m x.code) (anns_at m x.place) in
    let functions = option_and_then (function_rule m x.code) (body_named_at m x.place) in
    let values = values_rule m k (is_callee_at m x.place) x.code (targets_at m x.place) (exprs_at m x.place) in
    if_ok c.of_values.result (λ made e. shown_then f anns (detail_or functions values) c.in_ok-found.found made
    (sym c.is_some.ensures ∙ c.if-is_some.false)
    (subst (λ (d : Option (Detail Tree)). ShowsDetail f d c.in_ok-found.found)
    (anns_held_there m k c.requires.0 c.args.self.now.nodes h x c.requires.1.1) c.in_ok-found.ensures)
    (shown_then f functions values c.in_ok-found-2.found made (sym c.is_some-2.ensures ∙ c.if-is_some-2.false)
    (subst (λ (d : Option (Detail Tree)). ShowsDetail f d c.in_ok-found-2.found)
    (function_held_there m k c.requires.0 c.args.self.now.nodes h x c.requires.1.1) c.in_ok-found-2.ensures)
    (subst (λ (d : Option (Detail Tree)). ShowsDetail f d made)
    (values_held_there m k c.requires.0 c.args.self.now.nodes h x c.requires.1.1) e))) c.of_values.ensures
