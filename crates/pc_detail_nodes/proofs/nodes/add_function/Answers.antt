use Rattle.std.proofs.Common.{◌∙◌, refl, sym}
use Rattle.pc_detail_nodes.proofs.PlacesMarked.{body_added, body_left}
use Rattle.pc_detail_nodes.proofs.nodes.add_function.Goals as goal

pub returns-in_ok-insert : goal.returns-in_ok-insert
returns-in_ok-insert c = body_added c.args.body c.args.body.function.now.name.place refl c.args.functions.now
    c.insert.new.self (sym c.contains_key.ensures ∙ c.if-not-contains_key.true) c.in_ok-insert.ensures.updates.0

pub returns-else-not-contains_key : goal.returns-else-not-contains_key
returns-else-not-contains_key c = body_left c.args.body c.args.body.function.now.name.place refl c.args.functions.now
    (sym c.contains_key.ensures ∙ c.if-not-contains_key.false)
