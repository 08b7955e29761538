use Rattle.std.proofs.Common.{◌++◌, string_bytes, codes}
use Rattle.pc_detail_texts.specs.Sentences.{callable_text}
use Rattle.pc_detail_texts.specs.Shown.{callable_of_value}
use Rattle.pc_detail_texts.proofs.Joined.{two_ok}
use Rattle.pc_detail_texts.proofs.sentences.push_maybe_called.Goals as goal

pub returns : goal.returns
returns c =
    two_ok c.push_callable_and.result (string_bytes c.args.text.now) (codes "whether ")
    (callable_text (callable_of_value c.args.callable.now) ++ codes " can be called")
    (string_bytes c.push_text.new.text) (string_bytes c.push_callable_and.new.text) c.in_ok-push_text.ensures c.push_callable_and.ensures
