use Rattle.std.proofs.Common.{string_bytes, codes}
use Rattle.pc_detail_texts.specs.Sentences.{callable_text}
use Rattle.pc_detail_texts.specs.Shown.{words, callable_of_value}
use Rattle.pc_detail_texts.proofs.Joined.{parts_and_one_ok}
use Rattle.pc_detail_texts.proofs.reasons.push_given_twice.Goals as goal

pub returns : goal.returns
returns c =
    parts_and_one_ok c.push_callable.result (string_bytes c.args.text.now) (codes "two arguments for parameter ")
    (words c.args.name.now) (codes " of ")
    (callable_text (callable_of_value c.args.callable.now))
    (string_bytes c.push_around.new.text) (string_bytes c.push_callable.new.text) c.in_ok-push_around.ensures c.push_callable.ensures
