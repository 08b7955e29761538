use Rattle.std.proofs.Common.{string_bytes}
use Rattle.pc_detail_texts.specs.Sentences.{function_text}
use Rattle.pc_detail_texts.specs.Shown.{function_of_value}
use Rattle.pc_detail_texts.proofs.Joined.{two_ok}
use Rattle.pc_detail_texts.proofs.phrases.push_function_and.Goals as goal

pub returns : goal.returns
returns c =
    two_ok c.push_text.result (string_bytes c.args.text.now) (function_text (function_of_value c.args.function.now))
    (c.args.after.now)
    (string_bytes c.push_function.new.text) (string_bytes c.push_text.new.text) c.in_ok-push_function.ensures c.push_text.ensures
