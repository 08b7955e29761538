use Rattle.std.proofs.Common.{◌≡◌, ◌++◌}
use Rattle.serde_json.specs.View.{view}
use Rattle.pc_wire.specs.Frames.{frame}
use Rattle.pc_session.specs.Spelled.{IsSpelled}
use Rattle.pc_session.proofs.Sending.{spelled_next}
use Rattle.pc_session.proofs.steps.frames.Goals as goal

pub loop-reply-preserved : goal.loop-reply-preserved
loop-reply-preserved c =
    let spelled : IsSpelled (view c.reply-item.result) c.in_ok-text.text.items = record {
      compact = c.in_ok-text.ensures.text;
      if_shallow = c.in_ok-text.ensures.reads_back;
    } in
    let more : c.extend_from_slice.new.self.items ≡ c.loop-reply.bytes.items ++ frame c.in_ok-text.text.items =
    cc (
      c.in_ok-extend_from_slice.ensures.items,
      c.in_ok-framed.ensures,
      c.deref.ensures.value,
      c.deref-in-loop-reply.ensures.value,
    ) in
    spelled_next c.args.replies.now c.loop-reply.reply-index c.reply-item.result c.loop-reply.bytes.items
    c.in_ok-text.text.items c.extend_from_slice.new.self.items c.loop-reply-test.true c.reply-item.is
    c.loop-reply.invariant spelled more
