use Rattle.std.proofs.Common.{◌≡◌, ◌∙◌, Bor, List, ap, false, sym, ℕ}
use Rattle.std.specs.Prelude.{slice_get}
use Rattle.pc_scope.proofs.TextSets.{among}
use Rattle.pc_scope.specs.Resolution.{is_one_of}
use Rattle.pc_calls.specs.JudgedCalls.{is_place, names_in}
use Rattle.pc_detail_facts.specs.Callees.{default_in, name_of_parameter, parameters_called}
use Rattle.pc_type_details.specs.Given.{position_held}
use Rattle.pc_type_details.proofs.GivenNames.{left_named, left_unnamed}
use Rattle.pc_type_details.proofs.given.is_unfilled.Goals as goal
use Rattle.pc_type_details.proofs.given.is_unfilled.Goals.{then-contains, else-contains}

pub returns : goal.returns
returns c =
    let o = slice_get (parameters_called c.args.facts.now c.args.called) c.args.position in
    let named = c.args.given.now.named in
    let there : c.contains.result ≡ is_one_of (name_of_parameter o) (names_in named) =
    c.contains.ensures ∙ among (λ (k : Bor (List ℕ)). k.now) c.name_at-name.result.now named.keys
    ∙ ap (λ (n : List ℕ). is_one_of n (names_in named)) c.name_at-name.ensures in
    let there_first = is_place (position_held c.args.positions.now (name_of_parameter o)) c.args.position in
    let none : default_in o ≡ false = sym c.has_default.ensures ∙ c.if-has_default.false in
    elim c.if-contains.branch [
      | then-contains w ↦ left_named c.if-contains.result (default_in o) _ there_first
          none (sym there ∙ w.if-contains.true) (w.result-is ∙ w.is_at.ensures
          ∙ ap (λ (n : List ℕ). is_place (position_held c.args.positions.now n) c.args.position) c.name_at-name.ensures)
      | else-contains w ↦ left_unnamed c.if-contains.result (default_in o) _ there_first
          none (sym there ∙ w.if-contains.false) (w.result-is ∙ w.if-contains.false)
    ]
