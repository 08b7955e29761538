use Rattle.std.proofs.Common.{◌++◌, string_bytes, codes}
use Rattle.pc_detail_texts.specs.Shown.{words}
use Rattle.pc_detail_texts.proofs.Joined.{parts_and_one_ok}
use Rattle.pc_detail_texts.proofs.rules.push_field_order.Goals as goal

pub returns : goal.returns
returns c =
    parts_and_one_ok c.push_pair_around.result (string_bytes c.args.text.now) (codes "field ")
    (words c.args.late.now.name) (codes " has no default, but field ")
    (words c.args.late.now.before ++ (codes " of " ++ (words c.args.class.now ++ codes " before it has one")))
    (string_bytes c.push_around.new.text) (string_bytes c.push_pair_around.new.text) c.in_ok-push_around.ensures c.push_pair_around.ensures
