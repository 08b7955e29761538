use Rattle.std.proofs.Common.{subst, List, ℕ, map, Contains}
use Rattle.pc_tree.specs.Tree.{module_of}
use Rattle.pc_front.specs.Bytes.{IsModuleOf}
use Rattle.pc_report.specs.TypeListing.{ListsTypes, fact_of}
use Rattle.pc_top.proofs.ModuleTypes.{lists_from}
use Rattle.pc_top.proofs.types.types_of.Goals as goal

pub returns-clause-lists : goal.returns-clause-lists
returns-clause-lists c =
    let m = module_of c.in_ok-module.module in
    let facts = map fact_of c.in_ok-entries.entries.items in
    let rows = c.in_ok-listing.listing in
    lists_from c.args.bytes.now m (subst (λ (l : List ℕ). IsModuleOf l m) c.in_ok-source.ensures.text
    c.in_ok-module.ensures.read) facts rows c.in_ok-entries.ensures
    (subst (λ (l : List ℕ). ListsTypes l (Contains facts) rows) c.in_ok-source.ensures.text c.in_ok-listing.ensures)
