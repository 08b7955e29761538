use Rattle.std.proofs.Common.{◌≡◌, List, Contains, sym, subst}
use Rattle.std.proofs.lemmas.List.Filters.{dedup_is}
use Rattle.std.proofs.lemmas.List.Kept.{Contains-dedup, Contains-from_dedup}
use Rattle.std.proofs.lemmas.List.Sorted.{Contains-permutation, IsPermutation-sym}
use Rattle.std.specs.List.{dedup}
use Rattle.pc_tree.specs.contracts.code.FindingEq.TheImpl.Laws.{laws-law}
use Rattle.pc_tree.specs.declared.code.Finding.{Finding}
use Rattle.pc_report.specs.Report.{IsInOrder}
use Rattle.pc_report.proofs.Order.{finding_eq, same_finding, sorted_in_order}
use Rattle.pc_report.proofs.report.sorted.Goals as goal

pub returns-clause-exact : goal.returns-clause-exact
returns-clause-exact c =
    let given : List Finding = c.args.findings.now in
    let copied : List Finding = c.in_ok-sorted.sorted.items in
    let moved : List Finding = c.sort_unstable.new.self.items in
    let left : List Finding = c.dedup.new.self.items in
    let copy : copied ≡ given = c.in_ok-sorted.ensures.items_if_clones_equal (λ x y e. e) in
    let is : left ≡ dedup finding_eq moved = dedup_is finding_eq moved left c.dedup.ensures.filtered in
    let moves = c.sort_unstable.ensures.permutation in
    λ f. (
      (λ h. subst (λ (l : List Finding). Contains l f) copy (Contains-permutation moved copied f
          (IsPermutation-sym copied moved moves)
          (Contains-from_dedup finding_eq moved f (subst (λ (l : List Finding). Contains l f) is h)))),
      (λ h. subst (λ (l : List Finding). Contains l f) (sym is) (Contains-dedup laws-law same_finding moved f
          (Contains-permutation copied moved f moves (subst (λ (l : List Finding). Contains l f) (sym copy) h)))),
    )

pub returns-clause-in_order : goal.returns-clause-in_order
returns-clause-in_order c =
    let moved : List Finding = c.sort_unstable.new.self.items in
    let left : List Finding = c.dedup.new.self.items in
    let is : left ≡ dedup finding_eq moved = dedup_is finding_eq moved left c.dedup.ensures.filtered in
    subst IsInOrder (sym is) (sorted_in_order moved c.sort_unstable.ensures.sorted)
