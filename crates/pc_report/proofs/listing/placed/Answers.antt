use Rattle.std.proofs.Common.{◌≡◌, ◌+◌, ◌++◌, ◌∷◌, [], ℕ, List, map, take, arith, rules, subst, sym, ap, ◌∙◌}
use Rattle.std.proofs.lemmas.List.{map-append}
use Rattle.std.specs.List.{AllByRecursion}
use Rattle.pc_source.specs.declared.place.Place.{Place}
use Rattle.pc_source.specs.Lines.{line_of, column_of}
use Rattle.pc_report.specs.declared.listing.TypeEntry.{TypeEntry}
use Rattle.pc_report.specs.declared.listing.TypeRow.{TypeRow}
use Rattle.pc_report.specs.TypeListing.{TypeFact, fact_of, row_facts, HasPosition}
use Rattle.pc_report.proofs.Placed.{all_and_one, taken_more}
use Rattle.pc_report.proofs.listing.placed.Goals as goal

pub loop-entry-preserved : goal.loop-entry-preserved
loop-entry-preserved c =
    let before = c.loop-entry.rows.items in
    let xs : List TypeEntry = c.args.entries.now in
    let i = c.loop-entry.entry-index in
    let entry : TypeEntry = c.entry-item.result in
    let shared : TypeEntry = c.in_ok-share.field-0 in
    let position = c.row_position-position.result in
    let end = c.row_position-end.result in
    let row : TypeRow = record {
      entry = shared;
      line = position.line;
      column = position.column;
      end_line = end.line;
      end_column = end.column;
    } in
    let after : c.push.new.self.items ≡ before ++ row ∷ [] = c.in_ok-push.ensures.items in
    let source : List ℕ = c.args.source.now in
    let start = entry.place.start in
    let stop = entry.place.end in
    let line = subst (λ (t : List ℕ). position.line ≡ line_of t start) c.loop-entry.invariant.text
    c.row_position-position.ensures.line in
    let column = subst (λ (t : List ℕ). position.column ≡ column_of t start) c.loop-entry.invariant.text
    c.row_position-position.ensures.column in
    let end_line = subst (λ (t : List ℕ). end.line ≡ line_of t stop) c.loop-entry.invariant.text
    c.row_position-end.ensures.line in
    let end_column = subst (λ (t : List ℕ). end.column ≡ column_of t stop) c.loop-entry.invariant.text
    c.row_position-end.ensures.column in
    let place : entry.place ≡ shared.place = ap (λ (f : TypeFact). f.place) (sym c.in_ok-share.ensures) in
    let placed : HasPosition source row = subst (λ (p : Place). (position.line ≡ line_of source p.start)
    × (position.column ≡ column_of source p.start) × (end.line ≡ line_of source p.end)
    × (end.column ≡ column_of source p.end)) place (line, column, end_line, end_column) in
    record {
      facts = ap row_facts after ∙ (map-append (λ (r : TypeRow). fact_of r.entry) before (row ∷ [])
          ∙ (ap (λ (l : List TypeFact). l ++ fact_of shared ∷ []) c.loop-entry.invariant.facts
          ∙ (ap (λ (f : TypeFact). map fact_of (take i xs) ++ f ∷ []) c.in_ok-share.ensures
          ∙ sym (taken_more xs i entry entry c.loop-entry-test.true c.entry-item.is))));
      placed = subst (λ (l : List TypeRow). AllByRecursion (HasPosition source) l) (sym after)
          (all_and_one (HasPosition source) before row c.loop-entry.invariant.placed placed);
      text = search rules;
      line = search rules;
      column = search rules;
    }
