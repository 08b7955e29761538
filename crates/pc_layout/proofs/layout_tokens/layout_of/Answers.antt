use Rattle.std.proofs.Common.{refl}
use Rattle.pc_layout.proofs.Comings.{toks_gives, lays_out}
use Rattle.pc_layout.proofs.WithinText.{lays_within}
use Rattle.pc_layout.proofs.layout_tokens.layout_of.Goals as goal

pub returns-clause-begins : goal.returns-clause-begins
returns-clause-begins g c = record { over = refl; due = c.new.ensures.due; tokens = c.new.ensures.pending }

pub returns-clause-lays : goal.returns-clause-lays
returns-clause-lays g c = lays_out g.I.Iterator.next_gives c.args.source.now c.args.lines
    (record { lines = c.args.lines; pending_line = c.new.result })
    (record { over = refl; due = c.new.ensures.due; tokens = c.new.ensures.pending })

pub returns-clause-within : goal.returns-clause-within
returns-clause-within g c = lays_within g.I.Iterator.next_gives (toks_gives g.I.Iterator.next_gives) c.args.source.now
    c.args.lines
    (record { pending_line = c.new.result; lines = c.args.lines }) (returns-clause-lays g c)
