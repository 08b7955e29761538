use Rattle.std.proofs.Common.{◌∙◌, sym, arith}
use Rattle.pc_class.specs.Listings.{listed_in}
use Rattle.pc_calls.specs.JudgedCalls.{given_with}
use Rattle.pc_calls.proofs.Filling.{suited_then, suited_else}
use Rattle.pc_calls.proofs.ListedCalls.{filled_meant_past}
use Rattle.pc_calls.proofs.listed.suits_list.Goals as goal

pub returns-then-are_free : goal.returns-then-are_free
returns-then-are_free g c tree returns =
    let given = given_with c.args.given.now in
    let ps = listed_in c.args.params.now in
    let e = c.len.ensures in
    c.are_filled.ensures tree ∙ filled_meant_past given.named ps tree given.positional
    ∙ sym (suited_then tree returns given ps (omega (arith, e, c.if-given-len.true))
    (sym c.are_free.ensures ∙ c.if-are_free.true))

pub returns-else-are_free : goal.returns-else-are_free
returns-else-are_free g c tree returns = c.if-are_free.false
    ∙ sym (suited_else tree returns (given_with c.args.given.now) (listed_in c.args.params.now) (sym c.are_free.ensures
    ∙ c.if-are_free.false))
