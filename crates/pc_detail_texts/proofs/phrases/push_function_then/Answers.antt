use Rattle.std.proofs.Common.{◌++◌, string_bytes}
use Rattle.pc_detail_texts.specs.Sentences.{function_text}
use Rattle.pc_detail_texts.specs.Shown.{words, function_of_value}
use Rattle.pc_detail_texts.proofs.Joined.{two_ok}
use Rattle.pc_detail_texts.proofs.phrases.push_function_then.Goals as goal

pub returns : goal.returns
returns c =
    two_ok c.push_named.result (string_bytes c.args.text.now) (function_text (function_of_value c.args.function.now))
    (c.args.between.now ++ words c.args.name.now)
    (string_bytes c.push_function.new.text) (string_bytes c.push_named.new.text) c.in_ok-push_function.ensures c.push_named.ensures
