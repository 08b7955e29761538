use Rattle.std.proofs.Common.{string_bytes}
use Rattle.pc_detail_texts.specs.Sentences.{callable_text}
use Rattle.pc_detail_texts.specs.Shown.{callable_of_value}
use Rattle.pc_detail_texts.proofs.Joined.{two_ok}
use Rattle.pc_detail_texts.proofs.phrases.push_callable_and.Goals as goal

pub returns : goal.returns
returns c =
    two_ok c.push_text.result (string_bytes c.args.text.now) (callable_text (callable_of_value c.args.callable.now))
    (c.args.after.now)
    (string_bytes c.push_callable.new.text) (string_bytes c.push_text.new.text) c.in_ok-push_callable.ensures c.push_text.ensures
