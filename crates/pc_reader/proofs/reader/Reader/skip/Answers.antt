use Rattle.std.proofs.Common.{rules, arith, ap}
use Rattle.pc_reader.proofs.Streams.{blame_any, more, none, fault_after, at_end, ready_ahead, at_token}
use Rattle.pc_reader.specs.Reading.{answer_for}
use Rattle.pc_reader.proofs.reader.Reader.skip.Goals as goal

pub returns-in_default : goal.returns-in_default
returns-in_default g c = blame_any (λ r h. at_end g.X.AsStr.text g.I.Iterator.next_gives c.args.self.now r _
    c.in_default.is (ap (answer_for c.args.self.now.end) (h c.in_default.is)))

pub returns-in-Some-Ok : goal.returns-in-Some-Ok
returns-in-Some-Ok g c = let e = c.in-Some.is in
    let d = ready_ahead g.I.Iterator.can_next g.I.Iterator.remaining c.args.self.now c.in-Some.passed e c.requires in
    record {
      token = c.in-Some.passed;
      takes = record {
        here = e;
        ready = search rules;
        later = rw e (search rules);
        leads = λ r o x. at_token g.X.AsStr.text g.I.Iterator.next_gives c.args.self.now r o c.in-Some.passed e
            (more g.X.AsStr.text g.I.Iterator.next_gives r c.in-Some.passed c.in-Some-Ok.next c.args.self.now.end _ _ o
            (rw c.in-Some-Ok.field-0-is at c.in-Some-Ok.ensures.steps) x);
      };
    }

pub returns-in-Some-Err : goal.returns-in-Some-Err
returns-in-Some-Err g c = blame_any (λ r h. at_token g.X.AsStr.text g.I.Iterator.next_gives c.args.self.now r _
    c.in-Some.passed c.in-Some.is (fault_after g.X.AsStr.text g.I.Iterator.next_gives r c.in-Some.passed
    c.args.self.now.end _ _ _ (rw c.in-Some-Err.field-0-is at c.in-Some-Err.ensures.steps)))

pub returns-in-None : goal.returns-in-None
returns-in-None g c = let e = c.in-Some.is in
    record {
      token = c.in-Some.passed;
      takes = record {
        here = e;
        ready = tt;
        later = rw e (omega arith);
        leads = λ r o x. at_token g.X.AsStr.text g.I.Iterator.next_gives c.args.self.now r o c.in-Some.passed e
            (none g.X.AsStr.text g.I.Iterator.next_gives r c.in-Some.passed c.args.self.now.end _ _ o
            c.in-None.ensures.steps x);
      };
    }
