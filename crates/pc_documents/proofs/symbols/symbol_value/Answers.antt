use Rattle.std.proofs.Common.{map}
use Rattle.serde_json.specs.View.{view}
use Rattle.pc_tree.specs.Tree.{name_of}
use Rattle.pc_documents.proofs.Listing.{symbol_is}
use Rattle.pc_documents.proofs.symbols.symbol_value.Goals as goal

pub returns : goal.returns
returns c = symbol_is view c.args.kind (name_of c.args.name.now) c.as_str.result.now (map view c.args.parts.items)
    c.args.first c.args.from c.args.to (view c.in_ok-range.range) (view c.in_ok-chosen.chosen) c.as_str.ensures.value
    c.in_ok-range.ensures c.in_ok-chosen.ensures c.named_value.result c.named_value.ensures
