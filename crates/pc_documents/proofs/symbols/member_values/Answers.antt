use Rattle.std.proofs.Common.{map, ap, ◌∙◌}
use Rattle.serde_json.specs.View.{view}
use Rattle.pc_documents.specs.Symbols.{shown_member}
use Rattle.pc_documents.proofs.Listing.{one_more}
use Rattle.pc_documents.proofs.symbols.member_values.Goals as goal

pub loop-member-preserved : goal.loop-member-preserved
loop-member-preserved c = record {
  values = ap (map view) c.in_ok-push.ensures.items
      ∙ one_more view (shown_member c.args.encoding c.args.text.now) c.args.members.now c.loop-member.member-index
      c.member-item.result c.loop-member.values.items c.in_ok-value.value c.loop-member-test.true c.member-item.is
      c.loop-member.invariant.values c.in_ok-value.ensures.value;
  known = c.in_ok-value.ensures.mark;
}
