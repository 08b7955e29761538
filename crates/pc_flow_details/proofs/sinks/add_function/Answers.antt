use Rattle.std.proofs.Common.{map, refl}
use Rattle.std.specs.Prelude.{flat_map}
use Rattle.pc_tree.specs.Tree.{param_of, stmts_of_list}
use Rattle.pc_detail_facts.specs.Held.{body_of, known_held, module_held}
use Rattle.pc_detail_rules.specs.Nodes.{function_name, stmts_in_suite}
use Rattle.pc_detail_rules.specs.Sinks.{parameter_default, sinks_of_body, sinks_of_stmt}
use Rattle.pc_flow_details.proofs.Kept.{on_whole}
use Rattle.pc_flow_details.proofs.sinks.add_function.Goals as goal

pub returns : goal.returns
returns c =
    let f = c.args.facts.now in
    let name = function_name (module_held f) (body_of c.args.body) in
    on_whole f _ _ _ _ (flat_map (parameter_default name) (map param_of c.args.body.function.now.params.items))
    (flat_map (sinks_of_stmt (module_held f) (known_held f) (body_of c.args.body))
    (stmts_in_suite (stmts_of_list c.args.body.function.now.body.items)))
    (sinks_of_body (module_held f) (known_held f) (body_of c.args.body)) refl
    (rw c.deref.ensures.value at c.in_ok-add_parameters.ensures) (rw c.deref-2.ensures.value at c.add_suite.ensures)
