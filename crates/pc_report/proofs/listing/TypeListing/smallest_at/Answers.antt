use Rattle.std.proofs.Common.{◌≡◌, ◌++◌, ◌∷◌, [], List, take, sym, ap, ◌∙◌, arith, subst}
use Rattle.std.specs.Prelude.{option_map}
use Rattle.std.proofs.lemmas.List.{take_all, take_more}
use Rattle.pc_report.specs.declared.listing.TypeRow.{TypeRow}
use Rattle.pc_report.specs.TypeListing.{IsSmallestAt}
use Rattle.pc_report.proofs.listing.TypeListing.smallest_at.Goals as goal

pub loop-row-preserved : goal.loop-row-preserved
loop-row-preserved c =
    let rows : List TypeRow = c.rows-row-items.result.now in
    let i = c.loop-row.row-index in
    let row : TypeRow = c.row-item.result in
    subst (λ (l : List TypeRow). IsSmallestAt c.args.byte l (option_map (λ r. r.now) c.smaller-smallest.result))
    (sym (take_more rows i row c.loop-row-test.true ∙ ap (λ (r : TypeRow). take i rows ++ r ∷ []) (sym c.row-item.is)))
    (c.smaller-smallest.ensures (take i rows) c.loop-row.invariant)

pub returns : goal.returns
returns c =
    let rows : List TypeRow = c.rows-row-items.result.now in
    let i = c.loop-row.row-index in
    subst (λ (l : List TypeRow). IsSmallestAt c.args.byte l (option_map (λ r. r.now) c.loop-row.smallest))
    (take_all i rows (omega arith) ∙ c.rows-row-items.ensures) c.loop-row.invariant
