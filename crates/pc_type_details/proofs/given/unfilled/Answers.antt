use Rattle.std.proofs.Common.{◌≡◌, ◌<◌, ◌+◌, ◌∙◌, ◌++◌, ◌∷◌, [], ℕ, Bool, List, Option, append-nil, append_assoc, ap}
use Rattle.std.proofs.Common.{arith, drop, length, map, sym, take}
use Rattle.std.specs.Prelude.{◌&&◌, ◌||◌, if◌then◌else◌, not, slice_get}
use Rattle.pc_scope.specs.Resolution.{index_of, is_one_of}
use Rattle.pc_calls.specs.JudgedCalls.{is_place, names_in}
use Rattle.pc_rules.specs.Calls.{parameter_names}
use Rattle.pc_detail_facts.specs.Callees.{default_in, name_of_parameter, parameters_called}
use Rattle.pc_detail_rules.specs.Calls.{unfilled}
use Rattle.pc_type_details.proofs.GivenNames.{unfilled_ended, unfilled_next}
use Rattle.pc_type_details.proofs.given.unfilled.Goals as goal

pub loop-position-preserved : goal.loop-position-preserved
loop-position-preserved c =
    let ps = parameters_called c.args.facts.now c.args.called in
    let i = c.loop-position.position in
    let named = names_in c.args.given.now.named in
    let t = name_of_parameter (slice_get ps i) in
    let d = default_in (slice_get ps i) in
    let before = map (λ w. w.now) c.loop-position.names.items in
    let rest = unfilled named (parameter_names (take (i + 1) ps)) (drop (i + 1) ps) in
    let less : i < length ps = omega arith in
    let left : c.is_unfilled-is_left.result
    ≡ not (d || (is_one_of t named && is_place (index_of t (parameter_names ps)) i)) =
    c.is_unfilled-is_left.ensures
    ∙ ap (λ (o : Option ℕ). not (d || (is_one_of t named && is_place o i))) (c.requires.positions.at t) in
    ap (λ (l : List (List ℕ)). l ++ rest) (c.in_ok-add_name_if.ensures
    ∙ ap (λ (b : Bool). before ++ (if b then c.name_at.result.now ∷ [] else [])) left
    ∙ ap (λ (n : List ℕ). before ++ (if not (d || (is_one_of t named && is_place (index_of t (parameter_names ps)) i))
    then n ∷ [] else [])) c.name_at.ensures)
    ∙ append_assoc before _ rest
    ∙ ap (λ (l : List (List ℕ)). before ++ l) (sym (unfilled_next ps i less named))
    ∙ c.loop-position.invariant

pub returns : goal.returns
returns c =
    let ps = parameters_called c.args.facts.now c.args.called in
    let i = c.loop-position.position in
    let named = names_in c.args.given.now.named in
    let names = map (λ w. w.now) c.loop-position.names.items in
    sym (append-nil names)
    ∙ ap (λ (l : List (List ℕ)). names ++ l)
    (sym (unfilled_ended ps i (omega arith) named (parameter_names (take i ps))))
    ∙ c.loop-position.invariant
