use Rattle.std.proofs.Common.{rules, ◌≡◌, ℕ, ◌++◌, ◌∷◌, [], List, map, refl, sym, ap, ◌∙◌, subst, Contains}
use Rattle.std.specs.Prelude.{IfSome}
use Rattle.std.specs.Ordering.{is_eq, nat_cmp}
use Rattle.std.specs.Map.{lookup}
use Rattle.std.specs.List.{AllByRecursion}
use Rattle.std.specs.List.Sorted.{IsStrictlySortedBy}
use Rattle.std.specs.Borrow.{Bor}
use Rattle.pc_source.specs.declared.place.Place.{Place}
use Rattle.pc_annotations.specs.Named.{named_module}
use Rattle.pc_notes.specs.declared.notes.NotedFlow.{NotedFlow}
use Rattle.pc_notes.specs.declared.sharing.NamedType.{NamedType}
use Rattle.pc_notes.specs.Texts.{FlowText, IsFlowText, IsNamed, place_cmp, places_of}
use Rattle.pc_notes.proofs.FirstFlows.{IsPairOf, text_of_pair, all_more, places_more, pairs_found, place_found}
use Rattle.pc_notes.proofs.texts.texts_of.Goals as goal

abbrev Pair : Type 0
Pair = Place × Bor NotedFlow

pub loop-entry-init : goal.loop-entry-init
loop-entry-init c =
    let all : c.into_iter-entry-iterator.result ≡ c.args.flows.now.entries =
    c.into_iter-entry-iterator.ensures.into_iter_gives ∙ c.iter-entry-items.ensures.rest in
    record {
      places = ap (λ (l : List FlowText). places_of l ++ map (λ (e : Pair). e.0) c.into_iter-entry-iterator.result)
          c.in_ok-texts.ensures.items ∙ ap (map (λ (e : Pair). e.0)) all;
      each = λ code notes has. subst (AllByRecursion (IsFlowText (named_module c.args.names.now) code notes))
          (sym c.in_ok-texts.ensures.items) tt;
      left = subst (AllByRecursion (IsPairOf c.args.flows.now)) (sym all)
          (pairs_found c.args.flows.now c.args.flows.now.entries c.iter-entry-items.ensures.found);
      given = c.requires;
      named = λ mark. subst (λ (es : List (ℕ × NamedType)). IfSome (lookup (λ k. is_eq (nat_cmp mark k)) es)
          (IsNamed (named_module c.args.names.now))) (sym c.new-known.ensures.empty) tt;
    }

pub loop-entry-preserved : goal.loop-entry-preserved
loop-entry-preserved c =
    let flows = c.args.flows.now in
    let before = c.loop-entry.texts.items in
    let rest : List Pair = c.next.new.self in
    let pair : Pair = (c.in-Some.entry.0.now, c.in-Some.entry.1.now) in
    let text : FlowText = (c.in-Some.entry.0.now, c.in_ok-from.from, c.in_ok-into.into) in
    let after : c.push.new.self.items ≡ before ++ text ∷ [] = c.in_ok-push.ensures.items in
    let left : c.loop-entry.entry-iterator ≡ pair ∷ rest = search rules in
    let pairs : AllByRecursion (IsPairOf flows) (pair ∷ rest) = subst (AllByRecursion (IsPairOf flows)) left
    c.loop-entry.invariant.left in
    record {
      places = ap (λ (l : List FlowText). places_of l ++ map (λ (e : Pair). e.0) rest) after
          ∙ places_more before text (map (λ (e : Pair). e.0) rest)
          ∙ ap (λ (l : List Pair). places_of before ++ map (λ (e : Pair). e.0) l) (sym left)
          ∙ c.loop-entry.invariant.places;
      each = λ code notes has. subst (AllByRecursion (IsFlowText (named_module c.args.names.now) code notes)) (sym after)
          (all_more (IsFlowText (named_module c.args.names.now) code notes) before text
          (c.loop-entry.invariant.each code notes has)
          (text_of_pair code (named_module c.args.names.now) flows notes has pair pairs.0 text refl
          c.in_ok-from.ensures.text
          c.in_ok-into.ensures.text));
      left = pairs.1;
      given = c.requires;
      named = c.in_ok-into.ensures.named;
    }

pub returns : goal.returns
returns c =
    let flows = c.args.flows.now in
    let places : places_of c.loop-entry.texts.items ≡ map (λ (e : Pair). e.0) flows.entries = search rules in
    λ code notes has. record {
      each = c.loop-entry.invariant.each code notes has;
      all = λ p some. subst (λ (l : List Place). Contains l p) (sym places) (place_found code flows notes has p some);
      ordered = subst (IsStrictlySortedBy place_cmp) (sym places) c.iter-entry-items.ensures.ordered;
    }
