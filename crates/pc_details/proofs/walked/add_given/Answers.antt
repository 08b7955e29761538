use Rattle.std.proofs.Common.{List, subst, sym}
use Rattle.std.proofs.lemmas.Result.{on_ok_weaker}
use Rattle.pc_tree.specs.Lists.{keywords_of_list}
use Rattle.pc_scope.specs.Expressions.{keyword_names}
use Rattle.pc_detail_facts.specs.Held.{owned_of}
use Rattle.pc_detail_rules.specs.Names.{Together, arguments_together}
use Rattle.pc_name_details.specs.Naming.{arguments_named, given_rule}
use Rattle.pc_name_details.specs.Offered.{AddsDetails}
use Rattle.pc_details.proofs.WalkHeld.{none_given, one_given}
use Rattle.pc_details.proofs.walked.add_given.Goals as goal

pub returns-in-Some : goal.returns-in-Some
returns-in-Some c =
    let f = c.args.facts.now in
    let old = c.args.offers.now in
    let new = c.add_arguments.new.offers in
    let given = arguments_named (keyword_names (keywords_of_list c.in-Some.keywords.now)) in
    on_ok_weaker c.add_arguments.result (λ h. subst (λ (ts : List Together). AddsDetails f (given_rule ts) old new)
    c.in-Some.ensures (one_given f given old new h)) c.add_arguments.ensures

pub returns-in-None : goal.returns-in-None
returns-in-None c = none_given c.args.facts.now (arguments_together (owned_of c.args.owned)) c.args.offers.now
    (sym c.in-None.ensures)
