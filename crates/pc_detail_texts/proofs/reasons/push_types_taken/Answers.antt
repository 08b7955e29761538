use Rattle.std.proofs.Common.{◌++◌, string_bytes, codes, decimal}
use Rattle.pc_detail_texts.specs.Sentences.{counted}
use Rattle.pc_detail_texts.specs.Shown.{words}
use Rattle.pc_detail_texts.proofs.Joined.{parts_and_two_ok}
use Rattle.pc_detail_texts.proofs.reasons.push_types_taken.Goals as goal

pub returns : goal.returns
returns c =
    parts_and_two_ok c.push_number.result (string_bytes c.args.text.now) (words c.args.name.now) (codes " takes ")
    (counted c.args.counts.takes (codes "type")) (codes " and is given " ++ decimal c.args.counts.given)
    (string_bytes c.push_around.new.text) (string_bytes c.push_counted.new.text) (string_bytes c.push_number.new.text)
    c.in_ok-push_around.ensures c.in_ok-push_counted.ensures c.push_number.ensures
