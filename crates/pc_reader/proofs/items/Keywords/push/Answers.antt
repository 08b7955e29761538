use Rattle.std.proofs.Common.{refl}
use Rattle.pc_reader.proofs.Rows.{pushed_keywords}
use Rattle.pc_reader.proofs.items.Keywords.push.Goals as goal

pub returns : goal.returns
returns c = λ ks v ki kv. pushed_keywords c.args.self.now
    (record { arguments = c.put_last.new.items; depth = c.deeper-self.result }) c.args.value _ ks v refl
    c.in_ok-put_last.ensures.items (let a = c.deeper-self.ensures in let b = c.depth_above.ensures in cc) ki kv
