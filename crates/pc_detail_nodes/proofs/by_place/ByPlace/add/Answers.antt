use Rattle.std.proofs.Common.{◌∙◌, sym}
use Rattle.pc_detail_nodes.proofs.NodesByPlace.{held_more, not_held}
use Rattle.pc_detail_nodes.proofs.by_place.ByPlace.add.Goals as goal

pub returns-in_default : goal.returns-in_default
returns-in_default g c = not_held c.args.place c.args.node c.args.self.now.lists c.remove.new.self (sym c.remove.ensures.value ∙ c.in_default.is)
    c.remove.ensures.updates.0

pub returns : goal.returns
returns g c = held_more c.args.place c.args.node c.args.self.now.lists c.remove.new.self c.insert.new.self
    c.in-Some.list c.push.new.self (sym c.remove.ensures.value ∙ c.in-Some.is) c.in_ok-push.ensures.items c.remove.ensures.updates.0
    c.in_ok-insert.ensures.updates.0
