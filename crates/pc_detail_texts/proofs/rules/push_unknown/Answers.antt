use Rattle.std.proofs.Common.{string_bytes, codes}
use Rattle.pc_detail_texts.specs.Sentences.{elsewhere_text}
use Rattle.pc_detail_texts.specs.Shown.{words, elsewhere_of_value}
use Rattle.pc_detail_texts.proofs.Joined.{parts_and_one_ok}
use Rattle.pc_detail_texts.proofs.rules.push_unknown.Goals as goal

pub returns : goal.returns
returns c =
    parts_and_one_ok c.push_elsewhere.result (string_bytes c.args.text.now) (codes "nothing named ")
    (words c.args.name.now) (codes " is known here")
    (elsewhere_text (words c.args.name.now) (elsewhere_of_value c.args.elsewhere.now))
    (string_bytes c.push_around.new.text) (string_bytes c.push_elsewhere.new.text) c.in_ok-push_around.ensures c.push_elsewhere.ensures
