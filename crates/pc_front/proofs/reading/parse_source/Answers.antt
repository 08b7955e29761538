use Rattle.pc_front.proofs.Composed.{reads, refuses}
use Rattle.pc_front.proofs.WithinBytes.{answer_within}
use Rattle.pc_front.proofs.reading.parse_source.Goals as goal

pub returns-clause-read : goal.returns-clause-read
returns-clause-read c = reads c.args.source.now c.requires c.lines.result (λ items h. (c.lines.ensures.left items).0 h)
    _ c.layout_of.result c.layout_of.ensures.lays c.parse_from.result c.parse_from.ensures.read

pub returns-clause-refused : goal.returns-clause-refused
returns-clause-refused c = refuses c.args.source.now c.requires c.lines.result
    (λ items h. (c.lines.ensures.left items).0 h) _ c.layout_of.result c.layout_of.ensures.lays c.parse_from.result
    c.parse_from.ensures.refused

pub returns-clause-within : goal.returns-clause-within
returns-clause-within c = answer_within c.args.source.now c.parse_from.result (returns-clause-refused c)
