use Rattle.std.proofs.Common.{◌∙◌, ap, sym}
use Rattle.std.specs.Option.{option_map}
use Rattle.pc_tree.specs.Tree.{name_of}
use Rattle.pc_detail_facts.specs.Held.{function_lent, module_held}
use Rattle.pc_detail_facts.proofs.Results.{none_left}
use Rattle.pc_name_details.proofs.UseSteps.{not_name, unassigned_none, unassigned_outside, unassigned_shown}
use Rattle.pc_name_details.proofs.uses.unassigned_detail.Goals as goal

pub returns-in_default : goal.returns-in_default
returns-in_default c = unassigned_none c.args.facts.now (module_held c.args.facts.now) c.args.owned.owner _
    (not_name c.args.owned.expr.now c.in_default.not-Name)

pub returns-in_default-function_of : goal.returns-in_default-function_of
returns-in_default-function_of c = rw c.in-Name.is (unassigned_outside c.args.facts.now (module_held c.args.facts.now)
    c.args.owned.owner (name_of c.in-Name.name)
    (sym (ap (option_map function_lent) (none_left c.function_of.result c.in_default-function_of.not-Some)) ∙ c.function_of.ensures))

pub returns : goal.returns
returns c = rw c.in-Name.is (unassigned_shown c.args.facts.now (module_held c.args.facts.now) c.args.owned.owner
    (name_of c.in-Name.name) (function_lent c.in-Some.def) _ c.as_str-word.result.now _
    (sym (ap (option_map function_lent) c.in-Some.is) ∙ c.function_of.ensures) c.in_ok-words.ensures
    c.as_str-word.ensures.value c.in_ok-places.ensures)
