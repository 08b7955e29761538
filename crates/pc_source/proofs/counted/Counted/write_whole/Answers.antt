use Rattle.std.proofs.Common.{◌<◌, ◌≤◌, ◌+◌, length, rules, ◌∙◌}
use Rattle.pc_source.proofs.Taking.{takes_more, counts_none}
use Rattle.pc_source.proofs.counted.Counted.write_whole.Goals as goal

pub loop-at-preserved : goal.loop-at-preserved
loop-at-preserved g c =
    let bytes = c.args.bytes.now in
    let at = c.loop-at.at in
    let count = c.in-Ok.count in
    let some : 0 < count = search rules in
    let within : at + count ≤ length bytes = search rules in
    record {
      within = within;
      taken = takes_more _ _ _ bytes at count within c.loop-at.invariant.taken c.in-Ok.ensures.bytes;
      failures = c.in-Ok.ensures.failures ∙ (counts_none _ count c.loop-at.self.failures some
          ∙ c.loop-at.invariant.failures);
    }
