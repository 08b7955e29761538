use Rattle.pc_reader.proofs.Rows.{pushed_items}
use Rattle.pc_reader.proofs.items.Items.push.Goals as goal

pub returns : goal.returns
returns c = λ es p ki ko. pushed_items c.args.self.now
    (record { exprs = c.put_last.new.items; depth = c.deeper-self.result }) c.args.item es p
    c.in_ok-put_last.ensures.items (let a = c.deeper-self.ensures in let b = c.depth_above.ensures in cc) ki ko
