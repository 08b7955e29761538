use Rattle.std.proofs.Common.{string_bytes, codes}
use Rattle.pc_detail_texts.specs.Sentences.{where_it_is}
use Rattle.pc_detail_texts.specs.Shown.{words, all_words}
use Rattle.pc_detail_texts.proofs.Joined.{parts_and_one_ok}
use Rattle.pc_detail_texts.proofs.sentences.push_no_items.Goals as goal

pub returns : goal.returns
returns c =
    parts_and_one_ok c.push_where.result (string_bytes c.args.text.now) (words c.args.of.now.object)
    (codes " has no items to index with ") (words c.args.key.now)
    (where_it_is (words c.args.of.now.object) (all_words c.args.of.now.lacking.items))
    (string_bytes c.push_pair.new.text) (string_bytes c.push_where.new.text) c.in_ok-push_pair.ensures c.push_where.ensures
