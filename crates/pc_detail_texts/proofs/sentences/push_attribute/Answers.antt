use Rattle.std.proofs.Common.{string_bytes, codes}
use Rattle.pc_detail_texts.specs.Sentences.{where_it_is, hint_text}
use Rattle.pc_detail_texts.specs.Shown.{words, all_words, hint_of_value}
use Rattle.pc_detail_texts.proofs.Joined.{parts_and_pair_ok}
use Rattle.pc_detail_texts.proofs.sentences.push_attribute.Goals as goal

pub returns : goal.returns
returns c =
    parts_and_pair_ok c.push_hint.result (string_bytes c.args.text.now) (words c.args.missing.now.of.object)
    (codes " has no attribute ") (words c.args.missing.now.name)
    (where_it_is (words c.args.missing.now.of.object) (all_words c.args.missing.now.of.lacking.items))
    (hint_text (words c.args.missing.now.name) (hint_of_value c.args.missing.now.hint))
    (string_bytes c.push_pair.new.text) (string_bytes c.push_where.new.text) (string_bytes c.push_hint.new.text)
    c.in_ok-push_pair.ensures c.in_ok-push_where.ensures c.push_hint.ensures
