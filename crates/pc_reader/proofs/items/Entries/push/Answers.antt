use Rattle.std.proofs.Common.{refl}
use Rattle.pc_reader.proofs.Rows.{pushed_entries}
use Rattle.pc_reader.proofs.items.Entries.push.Goals as goal

pub returns : goal.returns
returns c = λ es k v ki kk kv. pushed_entries c.args.self.now
    (record { entries = c.put_last.new.items; depth = c.deeper-self.result }) c.args.key c.args.value _ es k v refl refl
    c.in_ok-put_last.ensures.items (let a = c.deeper-self.ensures in let b = c.depth_above.ensures in
    let d = c.deeper.ensures in
    cc) ki kk kv
