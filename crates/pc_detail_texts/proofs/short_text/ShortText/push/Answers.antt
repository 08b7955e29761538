use Rattle.std.proofs.Common.{◌-◌, length, nat_lt, refl, arith}
use Rattle.pc_detail_texts.proofs.Cutting.{cut_more, one_more}
use Rattle.pc_detail_texts.proofs.short_text.ShortText.push.Goals as goal

pub returns-then-self : goal.returns-then-self
returns-then-self c = λ whole h. cut_more c.args.self.now whole c.args.more.now c.if-self.true h

pub returns : goal.returns
returns c = λ whole h. one_more c.args.self.now
    (record { kept = c.and_str-self.result; is_cut = nat_lt (200 - length c.as_str.result.now) (length c.args.more.now) })
    c.as_str.result.now whole c.args.more.now c.if-self.false c.as_str.ensures.value h
    (c.and_str-self.ensures.to_end (omega arith)) refl
