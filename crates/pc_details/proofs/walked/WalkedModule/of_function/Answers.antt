use Rattle.std.proofs.Common.{Option, subst}
use Rattle.std.specs.Option.{option_and_then, option_map}
use Rattle.std.specs.Prelude.{IfOk}
use Rattle.pc_detail_facts.specs.declared.definitions.Body.{Body as RustBody}
use Rattle.pc_details.specs.ByCode.{function_rule}
use Rattle.pc_detail_facts.specs.Held.{ShowsDetail, body_of, module_held}
use Rattle.pc_details.proofs.walked.WalkedModule.of_function.Goals as goal

pub returns-in-Some : goal.returns-in-Some
returns-in-Some c =
    let f = c.args.self.now.facts.now in
    subst (λ (o : Option RustBody). IfOk c.function_detail.result (ShowsDetail f
    (option_and_then (function_rule (module_held f) c.args.code) (option_map body_of o)))) c.in-Some.ensures
    c.function_detail.ensures
