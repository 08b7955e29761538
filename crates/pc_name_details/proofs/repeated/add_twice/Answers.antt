use Rattle.std.proofs.Common.{◌∙◌, Option, ap, subst, sym}
use Rattle.std.specs.Option.{option_map}
use Rattle.pc_tree.specs.declared.code.Code.TheVariants.{E01}
use Rattle.pc_tree.specs.Tree.{name_of}
use Rattle.pc_detail_texts.specs.Details as detail
use Rattle.pc_detail_texts.specs.Details.{Detail, Earlier}
use Rattle.pc_detail_texts.specs.Shown.{earlier_of_value}
use Rattle.pc_detail_texts.specs.Shortened.{shortened}
use Rattle.pc_detail_rules.specs.Names.{twice_after}
use Rattle.pc_name_details.specs.Naming.{together_of}
use Rattle.pc_name_details.specs.Offered.{AddsDetails, of_code, at_place}
use Rattle.pc_name_details.proofs.Offered.{nothing_added, one_added, shut_added}
use Rattle.pc_detail_facts.proofs.Results.{on_ok}
use Rattle.pc_name_details.proofs.repeated.add_twice.Goals as goal

pub returns-then-not-wants : goal.returns-then-not-wants
returns-then-not-wants c = λ before h. shut_added c.args.facts.now E01 c.args.name.now.place
    (twice_after (together_of c.args.together before) before (name_of c.args.name.now)) c.args.offers.now
    (sym c.wants.ensures ∙ c.if-not-wants.true)

pub returns-in-None : goal.returns-in-None
returns-in-None c = λ before h.
    let text = (name_of c.args.name.now).text in
    subst (λ (e : Option Earlier). AddsDetails c.args.facts.now (of_code E01 (at_place c.args.name.now.place
    (option_map (detail.twice text) e))) c.args.offers.now c.args.offers.now) (c.in-None.ensures before h)
    (nothing_added c.args.facts.now E01 c.args.name.now.place c.args.offers.now)

pub returns-in_ok-words-in-Some : goal.returns-in_ok-words-in-Some
returns-in_ok-words-in-Some c = λ before h.
    let text = (name_of c.args.name.now).text in
    on_ok c.keep.result (λ k. subst (λ (e : Option Earlier). AddsDetails c.args.facts.now (of_code E01
    (at_place c.args.name.now.place (option_map (detail.twice text) e))) c.args.offers.now c.keep.new.self)
    (c.in-Some.ensures before h) (one_added c.args.facts.now E01 c.args.name.now.place
    (detail.twice text (earlier_of_value c.in-Some.earlier)) c.args.offers.now c.keep.new.self _
    (sym c.wants.ensures ∙ c.if-not-wants.false) k
    (ap (λ w. detail.twice w (earlier_of_value c.in-Some.earlier)) (c.in_ok-words-in-Some.ensures ∙ ap shortened c.as_str.ensures.value))))
    c.keep.ensures
