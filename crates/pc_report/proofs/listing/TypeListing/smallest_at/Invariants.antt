use Rattle.std.proofs.Common.{take}
use Rattle.std.specs.Prelude.{option_map}
use Rattle.pc_report.specs.TypeListing.{IsSmallestAt}
use Rattle.pc_report.proofs.listing.TypeListing.smallest_at.Given as goal

abbrev pub invariant-loop-row : goal.invariant-loop-row
invariant-loop-row l = IsSmallestAt l.fn.byte (take l.row-index l.row-items) (option_map (λ r. r.now) l.smallest)
