use Rattle.std.proofs.Common.{◌≡◌, List, Contains, map, sym, subst}
use Rattle.std.specs.Prelude.{◌↔◌}
use Rattle.std.proofs.lemmas.List.Filters.{dedup_is}
use Rattle.std.specs.List.{dedup}
use Rattle.std.specs.List.Sorted.{IsStrictlySortedBy}
use Rattle.pc_report.specs.declared.listing.TypeEntry.{TypeEntry}
use Rattle.pc_report.specs.TypeListing.{fact_of, fact_cmp}
use Rattle.pc_report.proofs.TypeOrder.{entry_eq, sorted_facts, tells_same}
use Rattle.pc_report.proofs.listing.put_in_order.Goals as goal

pub returns-clause-exact : goal.returns-clause-exact
returns-clause-exact c =
    let given : List TypeEntry = c.args.entries.now.items in
    let moved : List TypeEntry = c.sort_unstable.new.self.items in
    let left : List TypeEntry = c.dedup.new.self.items in
    let is : left ≡ dedup entry_eq moved = dedup_is entry_eq moved left c.dedup.ensures.filtered in
    λ f. subst (λ (l : List TypeEntry). Contains (map fact_of l) f ↔ Contains (map fact_of given) f) (sym is)
    (tells_same given moved c.sort_unstable.ensures.permutation f)

pub returns-clause-in_order : goal.returns-clause-in_order
returns-clause-in_order c =
    let moved : List TypeEntry = c.sort_unstable.new.self.items in
    let left : List TypeEntry = c.dedup.new.self.items in
    let is : left ≡ dedup entry_eq moved = dedup_is entry_eq moved left c.dedup.ensures.filtered in
    subst (λ (l : List TypeEntry). IsStrictlySortedBy fact_cmp (map fact_of l)) (sym is)
    (sorted_facts moved c.sort_unstable.ensures.sorted)
