use Rattle.std.specs.Option.{option_map}
use Rattle.pc_tree.specs.declared.code.Code.TheVariants.{E05}
use Rattle.pc_tree.specs.Tree.{stmt_of}
use Rattle.pc_scope_findings.specs.Unreached.{first_token_place}
use Rattle.pc_name_details.specs.Naming.{behind_rule}
use Rattle.pc_detail_facts.specs.Held.{stmt_lent}
use Rattle.pc_name_details.specs.Offered.{of_code, at_place}
use Rattle.pc_detail_rules.specs.Statements.{loose_detail}
use Rattle.pc_name_details.proofs.Offered.{added_both}
use Rattle.pc_detail_facts.proofs.Results.{on_ok}
use Rattle.pc_name_details.proofs.leaving.add_statement.Goals as goal

pub returns : goal.returns
returns c =
    let s = stmt_of c.args.statement.now in
    on_ok c.add_loose.result (λ k. added_both c.args.facts.now (behind_rule (option_map stmt_lent c.args.before) s)
    (of_code E05 (at_place (first_token_place s) (loose_detail s))) c.args.offers.now c.add_unreached.new.offers
    c.add_loose.new.offers c.in_ok-add_unreached.ensures k) c.add_loose.ensures
