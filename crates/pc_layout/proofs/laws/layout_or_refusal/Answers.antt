use Rattle.pc_layout.proofs.laws.layout_or_refusal.Goals as goal

pub returns : goal.returns
returns c = λ text ls tokens r h g. h.faultless r.code r.byte g.fault
