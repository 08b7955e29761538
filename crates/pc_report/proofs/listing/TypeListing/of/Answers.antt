use Rattle.std.proofs.Common.{◌≡◌, List, Contains, map, sym, ap, ◌∙◌, subst}
use Rattle.std.specs.Prelude.{◌↔◌}
use Rattle.std.specs.List.Sorted.{IsStrictlySortedBy}
use Rattle.pc_report.specs.declared.listing.TypeEntry.{TypeEntry}
use Rattle.pc_report.specs.TypeListing.{TypeFact, fact_of, fact_cmp, row_facts}
use Rattle.pc_report.proofs.listing.TypeListing.of.Goals as goal

pub returns : goal.returns
returns c =
    let given : List TypeEntry = c.args.entries.items in
    let facts : map fact_of c.put_in_order.new.entries.items ≡ row_facts c.in_ok-rows.rows.items =
    sym (c.in_ok-rows.ensures.facts ∙ ap (map fact_of) c.deref.ensures.value) in
    record {
      sorted = subst (λ (fs : List TypeFact). IsStrictlySortedBy fact_cmp fs) facts c.put_in_order.ensures.in_order;
      exact = λ f. subst (λ (fs : List TypeFact). Contains fs f ↔ Contains (map fact_of given) f) facts
          (c.put_in_order.ensures.exact f);
      placed = c.in_ok-rows.ensures.placed;
    }
