use Rattle.std.proofs.Common.{◌∙◌, Bool, Some, subst, sym}
use Rattle.std.specs.Prelude.{IfOk, if◌then◌else◌}
use Rattle.pc_tree.specs.Lists.{exprs_of_list}
use Rattle.pc_scope.specs.Resolution.{resolve}
use Rattle.pc_detail_texts.specs.Details as detail
use Rattle.pc_detail_rules.specs.Calls.{length_of_first}
use Rattle.pc_detail_facts.specs.Held.{ShowsDetail, known_held, module_held}
use Rattle.pc_type_details.proofs.calls.builtin_of.Goals as goal

pub returns-then-calls_length : goal.returns-then-calls_length
returns-then-calls_length c =
    let f = c.args.facts.now in
    let names = resolve (module_held f) c.args.owner in
    subst (λ (b : Bool). IfOk c.length_detail.result (ShowsDetail f (if b
    then length_of_first (module_held f) (known_held f) names (exprs_of_list c.args.arguments.now)
    else Some detail.range_elsewhere))) (sym (sym c.calls_length.ensures ∙ c.if-calls_length.true))
    (c.length_detail.ensures names)
