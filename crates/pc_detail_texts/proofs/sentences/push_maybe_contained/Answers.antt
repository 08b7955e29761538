use Rattle.std.proofs.Common.{string_bytes, codes}
use Rattle.pc_detail_texts.specs.Sentences.{between_text}
use Rattle.pc_detail_texts.specs.Shown.{words}
use Rattle.pc_detail_texts.proofs.Joined.{three_ok}
use Rattle.pc_detail_texts.proofs.sentences.push_maybe_contained.Goals as goal

pub returns : goal.returns
returns c =
    three_ok c.push_text-2.result (string_bytes c.args.text.now) (codes "whether ")
    (between_text (words c.args.sought.now) (codes "in") (words c.args.object.now)) (codes " is defined")
    (string_bytes c.push_text.new.text) (string_bytes c.push_between.new.text) (string_bytes c.push_text-2.new.text)
    c.in_ok-push_text.ensures c.in_ok-push_between.ensures c.push_text-2.ensures
