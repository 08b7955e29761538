use Rattle.std.proofs.Common.{inl, ap, subst}
use Rattle.std.proofs.lemmas.Result.{err_from_is_err_and}
use Rattle.pc_source.specs.declared.fault.Fault.TheVariants as fault
use Rattle.pc_source.specs.declared.fault.RefusalCode.TheVariants.{G2}
use Rattle.pc_grammar.specs.Machine.{at}
use Rattle.pc_grammar.specs.Machine.Lines.{start}
use Rattle.pc_reader.specs.Reading.{Came}
use Rattle.pc_reader.proofs.Streams.{blame}
use Rattle.pc_parse.specs.declared.parser.Parser.{Parser}
use Rattle.pc_parse.proofs.Bridging.{blamed, shallow_module, deep_module}
use Rattle.pc_parse.proofs.WithinTokens.{fault_within, stream_within}
use Rattle.pc_parse.proofs.stream.parse_from.Goals as goal

pub returns-in_err-reader-clause-refused : goal.returns-in_err-reader-clause-refused
returns-in_err-reader-clause-refused g c = let p = err_from_is_err_and c.from_residual.result
    c.from_residual.ensures.1 in
    rw (p.1, p.2) (blamed g.X.AsStr.text g.I.Iterator.next_gives c.args.tokens _
    (blame (λ o w. w (at start)) c.in_err-reader.ensures.leads))

pub returns-in_err-module-clause-refused : goal.returns-in_err-module-clause-refused
returns-in_err-module-clause-refused g c = let p = err_from_is_err_and c.from_residual-in_err-module.result
    c.from_residual-in_err-module.ensures.1 in
    rw (p.1, p.2) (blamed g.X.AsStr.text g.I.Iterator.next_gives c.args.tokens _
    (blame (λ o w. c.in_ok-reader.ensures.leads (at start) o
    (subst (λ z. Came g.X.AsStr.text g.I.Iterator.next_gives z (at start) o)
    (ap (λ (q : Parser g.row.X.Denot g.row.I.Denot). q.reader) c.new-parser.ensures) w)) c.in_err-module.ensures.read))

pub returns-in-Some-clause-refused : goal.returns-in-Some-clause-refused
returns-in-Some-clause-refused g c = inl (deep_module g.X.AsStr g.I.Iterator c.args.tokens
    (λ st o x. c.in_ok-reader.ensures.leads st o (subst (λ z. Came g.X.AsStr.text g.I.Iterator.next_gives z st o)
    (ap (λ (q : Parser g.row.X.Denot g.row.I.Denot). q.reader) c.new-parser.ensures) x))
    (ap (λ (q : Parser g.row.X.Denot g.row.I.Denot). q.deep) c.new-parser.ensures) c.in_ok-module.ensures.read
    c.in-Some.byte
    c.in-Some.is)

pub returns-clause-read : goal.returns-clause-read
returns-clause-read g c = shallow_module g.X.AsStr g.I.Iterator c.args.tokens
    (λ st o x. c.in_ok-reader.ensures.leads st o (subst (λ z. Came g.X.AsStr.text g.I.Iterator.next_gives z st o)
    (ap (λ (q : Parser g.row.X.Denot g.row.I.Denot). q.reader) c.new-parser.ensures) x))
    (ap (λ (q : Parser g.row.X.Denot g.row.I.Denot). q.deep) c.new-parser.ensures) c.in_ok-module.ensures.read
    c.in-None.is

pub returns-in_err-reader-clause-within : goal.returns-in_err-reader-clause-within
returns-in_err-reader-clause-within g c = stream_within g.X.AsStr.text g.I.Iterator.next_gives c.args.tokens _
    (returns-in_err-reader-clause-refused g c)

pub returns-in_err-module-clause-within : goal.returns-in_err-module-clause-within
returns-in_err-module-clause-within g c = stream_within g.X.AsStr.text g.I.Iterator.next_gives c.args.tokens _
    (returns-in_err-module-clause-refused g c)

pub returns-in-Some-clause-within : goal.returns-in-Some-clause-within
returns-in-Some-clause-within g c = fault_within g.X.AsStr.text g.I.Iterator.next_gives c.args.tokens
    (fault.Refused (record { code = G2; byte = c.in-Some.byte })) (returns-in-Some-clause-refused g c)
