use Rattle.std.proofs.Common.{◌≡◌, ◌++◌, ◌∷◌, List, ℕ, take, refl, sym, ap, ◌∙◌, arith, subst}
use Rattle.std.proofs.lemmas.List.{take_all}
use Rattle.std.specs.List.{flat_map}
use Rattle.pc_report.specs.Detailed.{place_json, places_json}
use Rattle.pc_report.specs.Pieces.{Puts}
use Rattle.pc_report.proofs.Underway.{one_more, puts_then, puts_none}
use Rattle.pc_report.proofs.detailed_pieces.put_places.Goals as goal

pub loop-place-init : goal.loop-place-init
loop-place-init g c = puts_none g.W.Write.contents c.put_place.new.device c.put_place.new.pieces

pub loop-place-preserved : goal.loop-place-preserved
loop-place-preserved g c =
    let others : List (ℕ × ℕ) = c.in-Some.others.now in
    let i = c.loop-place.place-index in
    let later = λ (place : ℕ × ℕ). 44 ∷ place_json place in
    subst (λ (l : List ℕ). Puts g.W.Write.contents l c.put_place.new.device c.put_place-in-loop-place.new.device
    c.put_place.new.pieces c.put_place-in-loop-place.new.pieces)
    (one_more later others i _ _ c.loop-place-test.true refl)
    (puts_then g.W.Write.contents _ _ _ _ _ _ _ _ c.loop-place.invariant
    (puts_then g.W.Write.contents _ _ _ _ _ _ _ _ c.put_str.ensures c.put_place-in-loop-place.ensures))

pub returns : goal.returns
returns g c =
    let contents = g.W.Write.contents in
    let first : ℕ × ℕ = c.in-Some.first.now in
    let others : List (ℕ × ℕ) = c.in-Some.others.now in
    let i = c.loop-place.place-index in
    let all : take i others ≡ others = take_all i others (omega arith) in
    let later = λ (places : List (ℕ × ℕ)). flat_map (λ (place : ℕ × ℕ). 44 ∷ place_json place) places in
    let whole : place_json first ++ later (take i others) ≡ places_json c.args.places.now =
    ap (λ places. place_json first ++ later places) all ∙ ap places_json (sym c.in-Some.ensures.cases.0) in
    subst (λ (l : List ℕ). Puts contents l c.args.device.now c.loop-place.device c.args.pieces.now c.loop-place.pieces)
    whole (puts_then contents _ _ _ _ _ _ _ _ c.put_place.ensures c.loop-place.invariant)
