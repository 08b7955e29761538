use Rattle.std.proofs.Common.{◌++◌, string_bytes, codes}
use Rattle.pc_detail_texts.specs.Sentences.{callable_text}
use Rattle.pc_detail_texts.specs.Shown.{words, callable_of_value}
use Rattle.pc_detail_texts.proofs.Joined.{two_ok}
use Rattle.pc_detail_texts.proofs.reasons.push_argument.Goals as goal

pub returns : goal.returns
returns c =
    two_ok c.push_callable_then.result (string_bytes c.args.text.now) (codes "the argument of ")
    (callable_text (callable_of_value c.args.callable.now) ++ (codes ": " ++ words c.args.into.now))
    (string_bytes c.push_text.new.text) (string_bytes c.push_callable_then.new.text) c.in_ok-push_text.ensures c.push_callable_then.ensures
