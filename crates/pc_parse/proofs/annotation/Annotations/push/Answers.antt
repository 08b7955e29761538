use Rattle.pc_parse.proofs.Annotated.{pushed}
use Rattle.pc_parse.proofs.annotation.Annotations.push.Goals as goal

pub returns : goal.returns
returns c = λ rest x ts ki ko. pushed c.args.self.now
    (record { anns = c.put_last.new.items; depth = c.deeper-self.result })
    c.args.annotation rest x ts c.in_ok-put_last.ensures.items
    (let p = c.deeper-self.ensures in let q = c.depth_above.ensures in cc) ki ko
