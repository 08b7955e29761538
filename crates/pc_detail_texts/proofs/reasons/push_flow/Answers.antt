use Rattle.std.proofs.Common.{string_bytes, codes}
use Rattle.pc_detail_texts.specs.Sentences.{flow_lead, flow_end}
use Rattle.pc_detail_texts.specs.Shown.{words, sink_of_value}
use Rattle.pc_detail_texts.proofs.Joined.{three_ok}
use Rattle.pc_detail_texts.proofs.reasons.push_flow.Goals as goal

pub returns : goal.returns
returns c =
    three_ok c.push_end.result (string_bytes c.args.text.now) (codes "cannot ")
    (flow_lead (words c.args.flow.now.from) (sink_of_value c.args.flow.now.sink)) (flow_end (words c.args.flow.now.into) (sink_of_value c.args.flow.now.sink))
    (string_bytes c.push_text.new.text) (string_bytes c.push_lead.new.text) (string_bytes c.push_end.new.text)
    c.in_ok-push_text.ensures c.in_ok-push_lead.ensures c.push_end.ensures
