use Rattle.pc_detail_texts.proofs.rules.push_default_order.Goals as goal

pub returns : goal.returns
returns c =
    c.push_pair_around.ensures
