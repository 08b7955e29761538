use Rattle.std.proofs.Common.{◌≡◌, ◌++◌, length, false, string_bytes, codes, rules, ap, sym, ◌∙◌}
use Rattle.std.specs.Prelude.{◌==◌}
use Rattle.pc_detail_texts.specs.Details.{keys}
use Rattle.pc_detail_texts.specs.Sentences.{Words, joined_by, error_sentence}
use Rattle.pc_detail_texts.specs.Shown.{all_words}
use Rattle.pc_detail_texts.proofs.Joined.{three, some_keys, on_ok}
use Rattle.pc_detail_texts.proofs.rules.push_keys.Goals as goal

pub returns : goal.returns
returns c =
    let old : Words = string_bytes c.args.text.now in
    let listed : Words = joined_by (codes ", ") (all_words c.args.types.now) in
    let last : Words = codes ", not all int or all str" in
    let some : (length c.args.types.now == 0) ≡ false = search rules in
    let first : string_bytes c.push_text-2.new.text ≡ old ++ codes "the keys are " =
    c.in_ok-push_text.ensures in
    let second : string_bytes c.push_joined.new.text ≡ string_bytes c.push_text-2.new.text ++ listed =
    c.in_ok-push_joined.ensures in
    on_ok c.push_text-3.result (string_bytes c.push_text-3.new.text ≡ string_bytes c.push_joined.new.text ++ last)
    (string_bytes c.push_text-3.new.text ≡ old ++ error_sentence (keys (all_words c.args.types.now)))
    (λ third. three old (codes "the keys are ") listed last _ _ _ first second third
    ∙ ap (λ (x : Words). old ++ x) (sym (some_keys c.args.types.now some))) c.push_text-3.ensures
