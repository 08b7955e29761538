use Rattle.std.proofs.Common.{◌≡◌, ◌≤◌, length, reverse}
use Rattle.pc_layout.specs.Placing.{levels_up_to}
use Rattle.pc_layout.proofs.levels.Levels.close.Given as goal

abbrev pub invariant-loop-self : goal.invariant-loop-self
invariant-loop-self l = record {
  leads : levels_up_to l.column (reverse l.fn.self.suites.items) ≡ levels_up_to l.column (reverse l.self.suites.items);
  fewer : length l.self.suites.items ≤ l.before;
  colon : l.self.after_colon ≡ l.fn.self.after_colon;
  def : l.self.after_def ≡ l.fn.self.after_def;
  before : l.before ≡ length l.fn.self.suites.items;
}

abbrev pub decreases-loop-self : goal.decreases-loop-self
decreases-loop-self l = length l.self.suites.items
