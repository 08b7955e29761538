use Rattle.std.proofs.Common.{◌∙◌, Some, ap, ap₂, sym}
use Rattle.pc_tree.specs.declared.code.Code.TheVariants.{E31}
use Rattle.pc_tree.specs.Tree.{param_of}
use Rattle.pc_detail_texts.specs.Details as detail
use Rattle.pc_detail_texts.specs.Shortened.{shortened}
use Rattle.pc_detail_rules.specs.Names.{default_order_after}
use Rattle.pc_name_details.proofs.Offered.{nothing_added, one_added, shut_added}
use Rattle.pc_detail_facts.proofs.Results.{none_left, on_ok}
use Rattle.pc_name_details.proofs.naming.add_default_order.Goals as goal

pub returns-in_default : goal.returns-in_default
returns-in_default c = rw (none_left c.args.before c.in_default.not-Some) (nothing_added c.args.facts.now E31
    c.args.param.now.name.place c.args.offers.now)

pub returns-then-not-wants : goal.returns-then-not-wants
returns-then-not-wants c = rw c.in-Some.is (shut_added c.args.facts.now E31 c.args.param.now.name.place
    (Some (default_order_after (param_of c.args.param.now).name (param_of c.in-Some.before.now))) c.args.offers.now
    (sym c.wants.ensures ∙ c.if-not-wants.true))

pub returns : goal.returns
returns c = rw c.in-Some.is (on_ok c.keep.result (λ k. one_added c.args.facts.now E31 c.args.param.now.name.place
    (default_order_after (param_of c.args.param.now).name (param_of c.in-Some.before.now)) c.args.offers.now
    c.keep.new.self _ (sym c.wants.ensures ∙ c.if-not-wants.false) k
    (ap₂ (λ v w. detail.default_order v w c.in-Some.before.now.name.place)
    (c.in_ok-words.ensures ∙ ap shortened c.as_str.ensures.value) (c.in_ok-words-2.ensures ∙ ap shortened c.as_str-2.ensures.value)))
    c.keep.ensures)
