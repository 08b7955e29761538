use Rattle.std.proofs.Common.{◌∙◌, sym}
use Rattle.pc_tree.specs.declared.code.Code.TheVariants.{E24}
use Rattle.pc_tree.specs.Tree.{name_of}
use Rattle.pc_detail_texts.specs.Details as detail
use Rattle.std.specs.Option.{option_map}
use Rattle.pc_detail_rules.specs.Names.{first_named, late_after, place_of_name}
use Rattle.pc_name_details.proofs.NamingSteps.{late_shown}
use Rattle.pc_name_details.proofs.Offered.{one_added, shut_added}
use Rattle.pc_detail_facts.proofs.Results.{on_ok}
use Rattle.pc_name_details.proofs.naming.add_late.Goals as goal

pub returns-then-not-wants : goal.returns-then-not-wants
returns-then-not-wants c = λ before h. shut_added c.args.facts.now E24 c.args.name.now.place
    (late_after before (name_of c.args.name.now)) c.args.offers.now (sym c.wants.ensures ∙ c.if-not-wants.true)

pub returns : goal.returns
returns c = λ before h.
    let n = name_of c.args.name.now in
    on_ok c.keep.result (λ k. one_added c.args.facts.now E24 c.args.name.now.place
    (detail.late_annotation n.text (option_map place_of_name (first_named n.text before))) c.args.offers.now
    c.keep.new.self _ (sym c.wants.ensures ∙ c.if-not-wants.false) k
    (late_shown before c.args.first.now n c.as_str-word.result.now _ _ c.in_ok-words.ensures c.as_str-word.ensures.value
    c.get.ensures h)) c.keep.ensures
