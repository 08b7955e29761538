use Rattle.std.proofs.Common.{◌∙◌, List, ap, map, subst}
use Rattle.std.specs.Borrow.{Bor}
use Rattle.pc_tree.specs.declared.code.Code.TheVariants.{E24}
use Rattle.pc_tree.specs.declared.tree.Name.{Name as RustName}
use Rattle.pc_tree.specs.Lists.{name_seen}
use Rattle.pc_tree.specs.Tree.{Name}
use Rattle.pc_detail_rules.specs.Names.{late_among}
use Rattle.pc_name_details.specs.Offered.{AddsDetails, of_code}
use Rattle.pc_detail_facts.proofs.Results.{on_ok}
use Rattle.pc_name_details.proofs.naming.add_late_names.Goals as goal

pub returns : goal.returns
returns c = on_ok c.add_all_late.result (λ k. subst (λ (ns : List Name). AddsDetails c.args.facts.now
    (of_code E24 (λ p. late_among p ns)) c.args.offers.now c.add_all_late.new.offers)
    (ap (λ (l : List (Bor RustName)). map name_seen l) c.deref.ensures.value ∙ c.in_ok-names.ensures) k)
    c.add_all_late.ensures
