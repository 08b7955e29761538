use Rattle.std.proofs.Common.{Some, None, ap, refl}
use Rattle.pc_report.specs.declared.listing.TypeRow.{TypeRow}
use Rattle.pc_top.proofs.types.type_at.Goals as goal

pub returns-in-None-clause-found : goal.returns-in-None-clause-found
returns-in-None-clause-found c = record {
  rows = c.in_ok-listing.listing;
  lists = c.in_ok-listing.ensures.lists;
  smallest = None;
  is_smallest = c.in-None.ensures;
  content = refl;
}

pub returns-clause-found : goal.returns-clause-found
returns-clause-found c =
    let row : TypeRow = c.in-Some.row.now in
    record {
      rows = c.in_ok-listing.listing;
      lists = c.in_ok-listing.ensures.lists;
      smallest = Some row;
      is_smallest = c.in-Some.ensures;
      content = ap Some c.in_ok-share-in-Some.ensures;
    }
