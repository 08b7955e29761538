use Rattle.std.proofs.Common.{◌∙◌, Some, ap, sym}
use Rattle.pc_tree.specs.declared.code.Code.TheVariants.{E02}
use Rattle.std.specs.Prelude.{codes}
use Rattle.pc_detail_texts.specs.Details as detail
use Rattle.pc_name_details.proofs.Offered.{one_added, shut_added}
use Rattle.pc_detail_facts.proofs.Results.{on_ok}
use Rattle.pc_name_details.proofs.module_names.add_decorator.Goals as goal

pub returns-then-not-wants : goal.returns-then-not-wants
returns-then-not-wants c = shut_added c.args.facts.now E02 c.args.class.now.decorator
    (Some (detail.unknown_name (codes "dataclass") detail.not_imported)) c.args.offers.now (sym c.wants.ensures ∙ c.if-not-wants.true)

pub returns : goal.returns
returns c = on_ok c.keep.result (λ k. one_added c.args.facts.now E02 c.args.class.now.decorator
    (detail.unknown_name (codes "dataclass") detail.not_imported) c.args.offers.now c.keep.new.self _ (sym c.wants.ensures ∙ c.if-not-wants.false) k
    (ap (λ w. detail.unknown_name w detail.not_imported) c.in_ok-words.ensures)) c.keep.ensures
