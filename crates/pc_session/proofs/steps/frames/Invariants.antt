use Rattle.std.proofs.Common.{map, take}
use Rattle.serde_json.specs.View.{view}
use Rattle.pc_session.specs.Spelled.{AreSpelled}
use Rattle.pc_session.proofs.steps.frames.Given as goal

abbrev pub invariant-loop-reply : goal.invariant-loop-reply
invariant-loop-reply l = AreSpelled (map view (take l.reply-index l.replies)) l.bytes.items
