use Rattle.std.proofs.Common.{◌≤◌, drop}
use Rattle.pc_grammar.specs.Machine.{at}
use Rattle.pc_grammar.specs.Machine.Lines.{due}
use Rattle.pc_grammar.specs.Machine.States.{State}
use Rattle.pc_reader.specs.Reading.{IsReady, left_in, Onward}
use Rattle.pc_reader.specs.Internal.FixedWords.{kinds_of}
use Rattle.pc_reader.proofs.reader.Reader.fixed.Given as goal

abbrev pub invariant-loop-kind : goal.invariant-loop-kind
invariant-loop-kind g l = record {
  ready : IsReady g.I.Iterator.can_next g.I.Iterator.remaining l.self;
  later : left_in g.I.Iterator.remaining l.self ≤ left_in g.I.Iterator.remaining l.fn.self;
  leads : (next : State) → Onward g.X.AsStr.text g.I.Iterator.next_gives l.fn.self l.self
      (at (due (kinds_of l.kinds) next)) (at (due (kinds_of (drop l.kind-index l.kinds)) next));
}
