use Rattle.std.proofs.Common.{◌≡◌, ◌∷◌, [], ◌++◌, List, length, map, sym, ap, ◌∙◌, subst, append_assoc, append-nil, arith}
use Rattle.std.proofs.lemmas.List.{map-append, nil_from_length}
use Rattle.std.specs.List.{AllByRecursion}
use Rattle.std.specs.Vec.Iter.{into_iter_items}
use Rattle.pc_details.specs.declared.explained.DetailedFinding.{DetailedFinding}
use Rattle.pc_top.specs.declared.detailed.PlacedDetail.{PlacedDetail}
use Rattle.pc_top.specs.DetailedBytes.{HasOtherPositions}
use Rattle.pc_top.proofs.detailed.placed.Goals as goal

abbrev detail_of : PlacedDetail → DetailedFinding
detail_of p = p.detailed

-- a fact of each holds of one more
all_push : {X : Type 0} (P : X → Type 0) (xs : List X) (x : X) → AllByRecursion P xs → P x
    → AllByRecursion P (xs ++ x ∷ [])
all_push P [] x all one = (one, tt)
all_push P (y ∷ ys) x all one = (all.0, all_push P ys x all.1 one)

pub loop-detailed-preserved : goal.loop-detailed-preserved
loop-detailed-preserved c =
    let at = c.loop-detailed in
    let x = c.in-Some.detailed in
    let steps : into_iter_items at.detailed-iterator ≡ x ∷ into_iter_items c.next.new.self =
    c.in-Some.ensures.steps.0 in (
      append_assoc at.yielded (x ∷ []) _ ∙ ap (λ (l : List DetailedFinding). at.yielded ++ l) (sym steps)
          ∙ at.invariant.0,
      ap (map detail_of) c.in_ok-push.ensures.items ∙ map-append detail_of at.placed.items _
          ∙ (λ i. at.invariant.1 i ++ c.in_ok-with_places.ensures.detail i ∷ []),
      let was = at.invariant.2 in
          let gone = c.in-Some.ensures.steps.1 in
          let short = ap length steps in
          omega arith,
      subst (λ (l : List PlacedDetail). AllByRecursion (HasOtherPositions c.args.source.now) l)
          (sym c.in_ok-push.ensures.items)
          (all_push (HasOtherPositions c.args.source.now) at.placed.items _ at.invariant.3
          c.in_ok-with_places.ensures.placed),
    )

pub returns-clause-details : goal.returns-clause-details
returns-clause-details c =
    let at = c.loop-detailed in
    let none = c.in-None.ensures.steps in
    let empty : into_iter_items at.detailed-iterator ≡ [] = nil_from_length _ (sym at.invariant.2 ∙ none.0) in
    at.invariant.1 ∙ sym (append-nil at.yielded) ∙ ap (λ (l : List DetailedFinding). at.yielded ++ l) (sym empty)
    ∙ at.invariant.0

pub returns-clause-placed : goal.returns-clause-placed
returns-clause-placed c = c.loop-detailed.invariant.3
