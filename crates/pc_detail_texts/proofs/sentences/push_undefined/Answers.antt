use Rattle.std.proofs.Common.{string_bytes, codes}
use Rattle.pc_detail_texts.specs.Sentences.{operation_text}
use Rattle.pc_detail_texts.specs.Shown.{operator_of_value}
use Rattle.pc_detail_texts.proofs.Joined.{two_ok}
use Rattle.pc_detail_texts.proofs.sentences.push_undefined.Goals as goal

pub returns : goal.returns
returns c =
    two_ok c.push_text.result (string_bytes c.args.text.now) (operation_text (operator_of_value c.args.operator.now))
    (codes " is not defined")
    (string_bytes c.push_operator.new.text) (string_bytes c.push_text.new.text) c.in_ok-push_operator.ensures c.push_text.ensures
