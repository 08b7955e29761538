use Rattle.std.proofs.Common.{◌++◌, string_bytes, codes}
use Rattle.pc_detail_texts.specs.Sentences.{function_text}
use Rattle.pc_detail_texts.specs.Shown.{words, function_of_value}
use Rattle.pc_detail_texts.proofs.Joined.{two_ok}
use Rattle.pc_detail_texts.proofs.reasons.push_return.Goals as goal

pub returns : goal.returns
returns c =
    two_ok c.push_function_then.result (string_bytes c.args.text.now) (codes "the return of ")
    (function_text (function_of_value c.args.function.now) ++ (codes ": " ++ words c.args.into.now))
    (string_bytes c.push_text.new.text) (string_bytes c.push_function_then.new.text) c.in_ok-push_text.ensures c.push_function_then.ensures
