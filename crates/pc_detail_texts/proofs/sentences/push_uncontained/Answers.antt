use Rattle.std.proofs.Common.{string_bytes, codes}
use Rattle.pc_detail_texts.specs.Sentences.{between_text, where_it_is}
use Rattle.pc_detail_texts.specs.Shown.{words, all_words}
use Rattle.pc_detail_texts.proofs.Joined.{three_ok}
use Rattle.pc_detail_texts.proofs.sentences.push_uncontained.Goals as goal

pub returns : goal.returns
returns c =
    three_ok c.push_where.result (string_bytes c.args.text.now) (between_text (words c.args.sought.now) (codes "in") (words c.args.of.now.object))
    (codes " is not defined") (where_it_is (words c.args.of.now.object) (all_words c.args.of.now.lacking.items))
    (string_bytes c.push_between.new.text) (string_bytes c.push_text.new.text) (string_bytes c.push_where.new.text)
    c.in_ok-push_between.ensures c.in_ok-push_text.ensures c.push_where.ensures
