use Rattle.pc_top.proofs.OneListing.{one_listing, one_listing_text}
use Rattle.pc_top.proofs.laws.one_listing_of_types.Goals as goal

pub returns-clause-rows : goal.returns-clause-rows
returns-clause-rows c = one_listing

pub returns-clause-written : goal.returns-clause-written
returns-clause-written c = one_listing_text
