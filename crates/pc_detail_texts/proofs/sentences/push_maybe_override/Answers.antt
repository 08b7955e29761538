use Rattle.std.proofs.Common.{string_bytes, codes}
use Rattle.pc_detail_texts.specs.Sentences.{function_text, override_text}
use Rattle.pc_detail_texts.specs.Shown.{function_of_value, override_of_value}
use Rattle.pc_detail_texts.proofs.Joined.{two_ok}
use Rattle.pc_detail_texts.proofs.sentences.push_maybe_override.Goals as goal

pub returns : goal.returns
returns c =
    two_ok c.push_override.result (string_bytes c.args.text.now) (codes "whether this method fits, since ")
    (override_text (function_text (function_of_value c.args.above.now)) (override_of_value c.args.fault.now))
    (string_bytes c.push_text.new.text) (string_bytes c.push_override.new.text) c.in_ok-push_text.ensures c.push_override.ensures
