use Rattle.std.proofs.Common.{◌∙◌, ap, sym}
use Rattle.std.specs.Option.{option_map}
use Rattle.pc_detail_texts.specs.Shown.{early_of_value}
use Rattle.pc_detail_facts.specs.Held.{text_held}
use Rattle.pc_name_details.proofs.UseSteps.{early_shown}
use Rattle.pc_name_details.proofs.uses.early_name_detail.Goals as goal

pub returns-in-Some : goal.returns-in-Some
returns-in-Some c = early_shown (text_held c.args.facts.now) c.in-Some.early _
    (ap (option_map early_of_value) (sym c.in-Some.is) ∙ c.in_ok-early.ensures)
