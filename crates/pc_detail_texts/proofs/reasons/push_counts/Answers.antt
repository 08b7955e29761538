use Rattle.std.proofs.Common.{◌≡◌, ◌++◌, string_bytes, codes, decimal}
use Rattle.pc_detail_texts.specs.Sentences.{Words, callable_text, counted}
use Rattle.pc_detail_texts.specs.Shown.{callable_of_value}
use Rattle.pc_detail_texts.proofs.Joined.{two, parts_and_pair_ok}
use Rattle.pc_detail_texts.proofs.reasons.push_counts.Goals as goal

pub returns : goal.returns
returns c =
    let old : Words = string_bytes c.args.text.now in
    let callee : Words = callable_text (callable_of_value c.args.callable.now) in
    let bound : Words = c.args.bound.now in
    let first : string_bytes c.push_both.new.text ≡ old ++ (callee ++ (codes " takes " ++ bound)) =
    two old callee (codes " takes " ++ bound) _ _ c.in_ok-push_callable.ensures c.in_ok-push_both.ensures in
    parts_and_pair_ok c.push_number.result old callee (codes " takes ") bound
    (counted c.args.counts.takes (codes "argument")) (codes " by position and is given " ++ decimal c.args.counts.given)
    _ (string_bytes c.push_counted.new.text) (string_bytes c.push_number.new.text) first
    c.in_ok-push_counted.ensures c.push_number.ensures
