use Rattle.std.proofs.Common.{◌≡◌, map, take}
use Rattle.std.specs.List.{AllByRecursion}
use Rattle.pc_source.specs.Lines.{line_of, column_of}
use Rattle.pc_report.specs.TypeListing.{fact_of, row_facts, HasPosition}
use Rattle.pc_report.proofs.listing.placed.Given as goal

abbrev pub invariant-loop-entry : goal.invariant-loop-entry
invariant-loop-entry l = record {
  facts : row_facts l.rows.items ≡ map fact_of (take l.entry-index l.entries);
  placed : AllByRecursion (HasPosition l.source) l.rows.items;
  text : l.text ≡ l.source;
  line : l.position.line ≡ line_of l.source l.position.byte;
  column : l.position.column ≡ column_of l.source l.position.byte;
}
