use Rattle.std.proofs.Common.{string_bytes, codes}
use Rattle.pc_detail_texts.specs.Sentences.{callable_text}
use Rattle.pc_detail_texts.specs.Shown.{words, callable_of_value}
use Rattle.pc_detail_texts.proofs.Joined.{five_and_one_ok}
use Rattle.pc_detail_texts.proofs.reasons.push_parameter_of.Goals as goal

pub returns : goal.returns
returns c =
    five_and_one_ok c.push_callable.result (string_bytes c.args.text.now) (codes "parameter ") (words c.args.name.now)
    (codes ": ") (words c.args.into.now) (codes " of ") (callable_text (callable_of_value c.args.callable.now))
    (string_bytes c.push_parameter.new.text) (string_bytes c.push_callable.new.text) c.in_ok-push_parameter.ensures
    c.push_callable.ensures
