use Rattle.std.proofs.Common.{string_bytes, codes}
use Rattle.pc_detail_texts.specs.Sentences.{sink_text}
use Rattle.pc_detail_texts.specs.Shown.{words, sink_of_value}
use Rattle.pc_detail_texts.proofs.Joined.{parts_and_one_ok}
use Rattle.pc_detail_texts.proofs.sentences.push_maybe_flow.Goals as goal

pub returns : goal.returns
returns c =
    parts_and_one_ok c.push_sink.result (string_bytes c.args.text.now) (codes "whether ")
    (words c.args.flow.now.from) (codes " fits ")
    (sink_text (words c.args.flow.now.into) (sink_of_value c.args.flow.now.sink))
    (string_bytes c.push_around.new.text) (string_bytes c.push_sink.new.text) c.in_ok-push_around.ensures c.push_sink.ensures
