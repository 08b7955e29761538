use Rattle.std.proofs.Common.{◌≡◌, rules, arith, ap, ◌∙◌, sym, Some, None}
use Rattle.pc_reader.proofs.Streams.{blame_any, more, none, fault_after, at_end, ready_ahead, at_token}
use Rattle.pc_reader.specs.Reading.{answer_for}
use Rattle.pc_reader.proofs.reader.Reader.take.Goals as goal

pub returns-in_default : goal.returns-in_default
returns-in_default g c = blame_any (λ r h. let e : c.args.self.now.ahead ≡ None = sym c.take.ensures.value
    ∙ c.in_default.is in
    at_end g.X.AsStr.text g.I.Iterator.next_gives c.args.self.now r _ e (ap (answer_for c.args.self.now.end) (h e)))

pub returns-in-Some-Ok : goal.returns-in-Some-Ok
returns-in-Some-Ok g c = let e : c.args.self.now.ahead ≡ Some c.in-Some.first = sym c.take.ensures.value
    ∙ c.in-Some.is in
    let d = ready_ahead g.I.Iterator.can_next g.I.Iterator.remaining c.args.self.now c.in-Some.first e c.requires in
    record {
      here = e;
      ready = search rules;
      later = rw e (search rules);
      leads = λ r o x. at_token g.X.AsStr.text g.I.Iterator.next_gives c.args.self.now r o c.in-Some.first e
          (more g.X.AsStr.text g.I.Iterator.next_gives r c.in-Some.first c.in-Some-Ok.next c.args.self.now.end _ _ o
          (rw c.in-Some-Ok.field-0-is at c.in-Some-Ok.ensures.steps) x);
    }

pub returns-in-Some-Err : goal.returns-in-Some-Err
returns-in-Some-Err g c = let e : c.args.self.now.ahead ≡ Some c.in-Some.first = sym c.take.ensures.value
    ∙ c.in-Some.is in
    blame_any (λ r h. at_token g.X.AsStr.text g.I.Iterator.next_gives c.args.self.now r _ c.in-Some.first e
    (fault_after g.X.AsStr.text g.I.Iterator.next_gives r c.in-Some.first c.args.self.now.end _ _ _
    (rw c.in-Some-Err.field-0-is at c.in-Some-Err.ensures.steps)))

pub returns-in-None : goal.returns-in-None
returns-in-None g c = let e : c.args.self.now.ahead ≡ Some c.in-Some.first = sym c.take.ensures.value ∙ c.in-Some.is in
    record {
      here = e;
      ready = rw c.take.ensures.after tt;
      later = rw (c.take.ensures.after, e) (omega arith);
      leads = λ r o x. at_token g.X.AsStr.text g.I.Iterator.next_gives c.args.self.now r o c.in-Some.first e
          (none g.X.AsStr.text g.I.Iterator.next_gives r c.in-Some.first c.args.self.now.end _ _ o
          c.in-None.ensures.steps (rw c.take.ensures.after at x));
    }
