use Rattle.std.proofs.Common.{◌++◌, string_bytes, codes}
use Rattle.pc_detail_texts.specs.Sentences.{function_text}
use Rattle.pc_detail_texts.specs.Shown.{words, function_of_value}
use Rattle.pc_detail_texts.proofs.Joined.{two_ok}
use Rattle.pc_detail_texts.proofs.reasons.push_differs.Goals as goal

pub returns : goal.returns
returns c =
    two_ok c.push_pair.result (string_bytes c.args.text.now) (function_text (function_of_value c.args.above.now))
    (c.args.verb.now ++ (words c.args.theirs.now ++ (codes ", not " ++ words c.args.ours.now)))
    (string_bytes c.push_function.new.text) (string_bytes c.push_pair.new.text) c.in_ok-push_function.ensures c.push_pair.ensures
