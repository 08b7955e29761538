use Rattle.std.proofs.Common.{string_bytes, codes}
use Rattle.pc_detail_texts.specs.Sentences.{function_text}
use Rattle.pc_detail_texts.specs.Shown.{words, function_of_value}
use Rattle.pc_detail_texts.proofs.Joined.{five_and_one_ok}
use Rattle.pc_detail_texts.proofs.reasons.push_default_of.Goals as goal

pub returns : goal.returns
returns c =
    five_and_one_ok c.push_function.result (string_bytes c.args.text.now) (codes "parameter ") (words c.args.name.now)
    (codes ": ") (words c.args.into.now) (codes " of ") (function_text (function_of_value c.args.function.now))
    (string_bytes c.push_parameter.new.text) (string_bytes c.push_function.new.text) c.in_ok-push_parameter.ensures
    c.push_function.ensures
