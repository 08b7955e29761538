use Rattle.std.proofs.Common.{◌∙◌, Some, ap, sym}
use Rattle.pc_tree.specs.declared.code.Code.TheVariants.{E29}
use Rattle.pc_tree.specs.Tree.{name_of}
use Rattle.pc_detail_texts.specs.Details as detail
use Rattle.pc_detail_texts.specs.Shortened.{shortened}
use Rattle.pc_name_details.proofs.Offered.{one_added, shut_added}
use Rattle.pc_detail_facts.proofs.Results.{on_ok}
use Rattle.pc_name_details.proofs.naming.add_reserved.Goals as goal

pub returns-then-not-wants : goal.returns-then-not-wants
returns-then-not-wants c = shut_added c.args.facts.now E29 c.args.name.now.place
    (Some (detail.reserved (name_of c.args.name.now).text)) c.args.offers.now (sym c.wants.ensures ∙ c.if-not-wants.true)

pub returns : goal.returns
returns c = on_ok c.keep.result (λ k. one_added c.args.facts.now E29 c.args.name.now.place
    (detail.reserved (name_of c.args.name.now).text) c.args.offers.now c.keep.new.self _ (sym c.wants.ensures ∙ c.if-not-wants.false) k
    (ap detail.reserved (c.in_ok-words.ensures ∙ ap shortened c.as_str.ensures.value))) c.keep.ensures
