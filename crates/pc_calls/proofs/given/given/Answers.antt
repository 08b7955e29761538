use Rattle.std.proofs.Common.{◌∙◌, map, sym, ap}
use Rattle.pc_calls.specs.JudgedCalls.{names_in}
use Rattle.pc_calls.proofs.NamesGiven.{expr_count, with_name, name_inserted, keyword_more, keywords_done, given_both}
use Rattle.pc_calls.proofs.given.given.Goals as goal

pub loop-argument-preserved : goal.loop-argument-preserved
loop-argument-preserved c =
    let before = c.loop-argument.named in
    (keyword_more (names_in before) (names_in c.insert.new.self) _ c.args.by_name.now c.loop-argument.argument-index
    c.argument-item.result c.loop-argument-test.true c.argument-item.is c.loop-argument.invariant
    (ap (map (λ k. k.now)) c.in_ok-insert.ensures.keys ∙ name_inserted before.keys c.as_str.result
    ∙ ap (with_name (names_in before)) c.as_str.ensures.value))

pub returns : goal.returns
returns c = given_both _ _ _ _ (sym (expr_count c.args.arguments.now))
    (keywords_done (names_in c.loop-argument.named) _ c.args.by_name.now c.loop-argument.argument-index
    c.loop-argument-test.false c.loop-argument.invariant)
