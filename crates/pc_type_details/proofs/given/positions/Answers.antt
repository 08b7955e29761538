use Rattle.std.proofs.Common.{◌<◌, ◌++◌, ◌∷◌, [], ℕ, List, arith, ap, length, subst, sym, take}
use Rattle.std.specs.BTreeMap.{is_at}
use Rattle.std.specs.Cmp.Lexicographic.{slice_cmp}
use Rattle.std.specs.Map.{lookup}
use Rattle.std.specs.Ordering.{nat_cmp}
use Rattle.pc_rules.specs.Calls.{parameter_names}
use Rattle.pc_detail_facts.specs.Callees.{parameters_called}
use Rattle.pc_type_details.specs.Given.{HasPositions}
use Rattle.pc_type_details.proofs.GivenNames.{names_all, names_more, names_taken, no_positions}
use Rattle.pc_type_details.proofs.given.positions.Goals as goal

pub loop-position-init : goal.loop-position-init
loop-position-init c = no_positions c.new-positions.result
    (λ word. ap (lookup (is_at (λ k. slice_cmp nat_cmp word k.now))) c.new-positions.ensures.empty)

pub loop-position-preserved : goal.loop-position-preserved
loop-position-preserved c =
    let ps = parameters_called c.args.facts.now c.args.called in
    let i = c.loop-position.position in
    let new = c.keep_position.new.positions in
    let less : i < length ps = omega arith in
    subst (λ (names : List (List ℕ)). HasPositions names new) (sym (names_more ps i less))
    (subst (λ (n : List ℕ). HasPositions (parameter_names (take i ps) ++ n ∷ []) new) c.name_at.ensures
    (c.in_ok-keep_position.ensures (parameter_names (take i ps)) c.loop-position.invariant
    (names_taken ps i (omega arith))))

pub returns : goal.returns
returns c =
    let ps = parameters_called c.args.facts.now c.args.called in
    subst (λ (names : List (List ℕ)). HasPositions names c.loop-position.positions)
    (names_all ps c.loop-position.position (omega arith)) c.loop-position.invariant
