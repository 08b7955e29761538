use Rattle.std.proofs.Common.{◌∙◌, None, Some, refl, sym}
use Rattle.std.specs.Option.{option_map}
use Rattle.pc_tree.specs.declared.code.Code.TheVariants.{E07}
use Rattle.pc_tree.specs.Tree.{name_of}
use Rattle.pc_detail_texts.specs.Details as detail
use Rattle.pc_detail_rules.specs.Names.{first_named, place_of_name}
use Rattle.pc_name_details.specs.Naming.{base_rule}
use Rattle.pc_name_details.proofs.NamingSteps.{base_shown}
use Rattle.pc_name_details.proofs.Offered.{none_added, one_added, shut_added}
use Rattle.pc_detail_facts.proofs.Results.{none_left, on_ok}
use Rattle.pc_name_details.proofs.module_names.add_base.Goals as goal

pub returns-in_default : goal.returns-in_default
returns-in_default c = λ names h. rw (none_left c.args.base.now c.in_default.not-Some) (none_added c.args.facts.now
    (base_rule names None) c.args.offers.now (λ f. refl))

pub returns-then-not-wants : goal.returns-then-not-wants
returns-then-not-wants c = λ names h.
    let n = name_of c.in-Some.base in
    rw c.in-Some.is (shut_added c.args.facts.now E07 n.place
    (Some (detail.base n.text (option_map place_of_name (first_named n.text names)))) c.args.offers.now
    (sym c.wants.ensures ∙ c.if-not-wants.true))

pub returns : goal.returns
returns c = λ names h.
    let n = name_of c.in-Some.base in
    rw c.in-Some.is (on_ok c.keep.result (λ k. one_added c.args.facts.now E07 n.place
    (detail.base n.text (option_map place_of_name (first_named n.text names))) c.args.offers.now c.keep.new.self _
    (sym c.wants.ensures ∙ c.if-not-wants.false) k
    (base_shown names c.args.classes.now n c.as_str-word.result.now _ _ c.in_ok-words.ensures c.as_str-word.ensures.value
    c.get.ensures h)) c.keep.ensures)
