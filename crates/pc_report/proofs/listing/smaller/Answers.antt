use Rattle.std.proofs.Common.{◌≡◌, ◌++◌, ◌∷◌, [], List, Some, None, option_map, ◌∙◌, true≢false, sym, subst, arith}
use Rattle.std.specs.Borrow.{Bor}
use Rattle.pc_report.specs.declared.listing.TypeRow.{TypeRow}
use Rattle.pc_report.specs.TypeListing.{IsSmallest, IsSmallestAt}
use Rattle.pc_report.proofs.Smallest.{passed_over, not_better, first_around, better}
use Rattle.pc_report.proofs.listing.smaller.Goals.{then-bytes, else-bytes}
use Rattle.pc_report.proofs.listing.smaller.Goals as goal

pub returns-then-not-is_around : goal.returns-then-not-is_around
returns-then-not-is_around c = λ rows h. passed_over c.args.byte rows c.args.row.now
    (option_map (λ (r : Bor TypeRow). r.now) c.args.smallest)
    (λ around. let is = c.is_around.ensures.1 around in absurd (true≢false (sym is ∙ c.if-not-is_around.true))) h

pub returns-in-None : goal.returns-in-None
returns-in-None c = λ rows h. first_around c.args.byte rows c.args.row.now (c.is_around.ensures.0 c.if-not-is_around.false)
    (subst (λ found. IsSmallestAt c.args.byte rows (option_map (λ (r : Bor TypeRow). r.now) found)) c.in-None.is h)

pub returns-after-bytes : goal.returns-after-bytes
returns-after-bytes c = λ rows h.
    let byte = c.args.byte in
    let row : TypeRow = c.args.row.now in
    let best : TypeRow = c.in-Some.best.now in
    let found : IsSmallest byte rows best = subst (λ some. IsSmallestAt byte rows (option_map (λ (r : Bor TypeRow). r.now) some))
    c.in-Some.is h in
    elim c.if-bytes.branch [
      | then-bytes w ↦ subst (λ (r : Bor TypeRow). IsSmallest byte (rows ++ row ∷ []) r.now) (sym w.result-is)
          (not_better byte rows row best (omega (arith, c.bytes.ensures, c.bytes-in-Some.ensures, w.if-bytes.true)) found)
      | else-bytes w ↦ subst (λ (r : Bor TypeRow). IsSmallest byte (rows ++ row ∷ []) r.now) (sym w.result-is)
          (better byte rows row best (c.is_around.ensures.0 c.if-not-is_around.false)
          (omega (arith, c.bytes.ensures, c.bytes-in-Some.ensures, w.if-bytes.false)) found)
    ]
