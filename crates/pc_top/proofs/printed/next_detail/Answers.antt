use Rattle.std.proofs.Common.{◌≡◌, ◌∷◌, [], List, Some, rules, subst, sym}
use Rattle.std.proofs.lemmas.List.{nil_from_length}
use Rattle.pc_top.specs.declared.detailed.PlacedDetail.{PlacedDetail}
use Rattle.pc_top.specs.PrintedDetails.{AreLeft, IsDetailHeld}
use Rattle.pc_top.proofs.DetailsLeft.{first_left, later_left, none_left, other_finding, same_finding}
use Rattle.pc_top.proofs.printed.next_detail.Goals as goal

pub returns-in_default : goal.returns-in_default
returns-in_default c = λ source told others left.
    let f = c.args.finding.now in
    let none : c.args.details.now ≡ [] = nil_from_length c.args.details.now c.in_default.ensures.cases in
    let held = none_left source told f others (subst (λ (ps : List PlacedDetail). AreLeft source told (f ∷ others) ps)
    none left) in
    (held.0, subst (λ (ps : List PlacedDetail). AreLeft source told others ps) (sym none) held.1)

pub returns-then-eq : goal.returns-then-eq
returns-then-eq c = λ source told others left.
    let f = c.args.finding.now in
    let p : PlacedDetail = c.in-Some.first.now in
    let held = first_left source told f others p c.in-Some.others.now (same_finding p.detailed.finding f (search rules))
    (subst (λ (ps : List PlacedDetail). AreLeft source told (f ∷ others) ps) c.in-Some.ensures.cases.0 left) in
    let shown : IsDetailHeld source (told f) (Some p) = held.0 in
    (search (rules, shown), held.1)

pub returns-else-eq : goal.returns-else-eq
returns-else-eq c = λ source told others left.
    let f = c.args.finding.now in
    let p : PlacedDetail = c.in-Some.first.now in
    let whole = c.in-Some.ensures.cases.0 in
    let held = later_left source told f others p c.in-Some.others.now
    (other_finding p.detailed.finding f (search rules))
    (subst (λ (ps : List PlacedDetail). AreLeft source told (f ∷ others) ps) whole left) in
    (held.0, subst (λ (ps : List PlacedDetail). AreLeft source told others ps) (sym whole) held.1)
