use Rattle.std.proofs.Common.{◌++◌, string_bytes, codes, decimal}
use Rattle.pc_detail_texts.specs.Sentences.{function_text, counted}
use Rattle.pc_detail_texts.specs.Shown.{function_of_value}
use Rattle.pc_detail_texts.proofs.Joined.{parts_and_two_ok}
use Rattle.pc_detail_texts.proofs.reasons.push_other_count.Goals as goal

pub returns : goal.returns
returns c =
    parts_and_two_ok c.push_number.result (string_bytes c.args.text.now) (function_text (function_of_value c.args.method.now)) (codes " has ")
    (counted c.args.above (codes "parameter")) (codes ", not " ++ decimal c.args.here)
    (string_bytes c.push_function_and.new.text) (string_bytes c.push_counted.new.text) (string_bytes c.push_number.new.text)
    c.in_ok-push_function_and.ensures c.in_ok-push_counted.ensures c.push_number.ensures
