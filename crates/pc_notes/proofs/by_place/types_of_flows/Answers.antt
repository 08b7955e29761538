use Rattle.std.proofs.Common.{rules, ◌≡◌, ◌∷◌, List, sym, ◌∙◌, subst, Bor}
use Rattle.std.specs.List.{AllByRecursion}
use Rattle.pc_source.specs.declared.place.Place.{Place}
use Rattle.pc_notes.specs.declared.notes.NotedFlow.{NotedFlow}
use Rattle.pc_notes.proofs.FirstFlows.{IsPairOf, pairs_found}
use Rattle.pc_notes.proofs.TypesOfFlows.{AreTakenTo, none_taken, next_taken}
use Rattle.pc_notes.proofs.by_place.types_of_flows.Goals as goal

abbrev Pair : Type 0
Pair = Place × Bor NotedFlow

pub loop-entry-init : goal.loop-entry-init
loop-entry-init c =
    let all : c.into_iter-entry-iterator.result ≡ c.args.flows.now.entries =
    c.into_iter-entry-iterator.ensures.into_iter_gives ∙ c.iter-entry-items.ensures.rest in
    record {
      taken = none_taken c.args.flows.now c.new-types.result c.into_iter-entry-iterator.result all
          c.new-types.ensures.empty;
      left = subst (AllByRecursion (IsPairOf c.args.flows.now)) (sym all)
          (pairs_found c.args.flows.now c.args.flows.now.entries c.iter-entry-items.ensures.found);
    }

pub loop-entry-preserved : goal.loop-entry-preserved
loop-entry-preserved c =
    let flows = c.args.flows.now in
    let rest : List Pair = c.next.new.self in
    let pair : Pair = (c.in-Some.entry.0.now, c.in-Some.entry.1.now) in
    let left : c.loop-entry.entry-iterator ≡ pair ∷ rest = search rules in
    let pairs : AllByRecursion (IsPairOf flows) (pair ∷ rest) = subst (AllByRecursion (IsPairOf flows)) left
    c.loop-entry.invariant.left in
    record {
      taken = next_taken flows c.loop-entry.types c.insert.new.self pair rest c.types.result c.types.ensures pairs
          c.in_ok-insert.ensures.updates.0
          (subst (λ (l : List Pair). AreTakenTo flows l c.loop-entry.types) left c.loop-entry.invariant.taken);
      left = pairs.1;
    }
