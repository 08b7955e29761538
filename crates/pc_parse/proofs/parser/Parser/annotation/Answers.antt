use Rattle.std.proofs.lemmas.Result.{err_from_is_err_and}
use Rattle.pc_grammar.specs.Machine.States.{ann_whole}
use Rattle.pc_reader.proofs.Streams.{blame}
use Rattle.pc_parse.proofs.AnnotationReads.{whole_annotation}
use Rattle.pc_parse.proofs.parser.Parser.annotation.Goals as goal

pub returns-in_err-annotation : goal.returns-in_err-annotation
returns-in_err-annotation g c = let p = err_from_is_err_and c.from_residual.result c.from_residual.ensures.1 in
    rw (p.1, p.2) (blame (λ o w. λ k. w (ann_whole k)) c.in_err-annotation.ensures.reads)

pub returns : goal.returns
returns g c = whole_annotation c.args.self.now c.note.new.self c.union.new.reader c.in_ok-annotation.annotation
    c.in_ok-annotation.ensures.reads c.in_ok-annotation.ensures.over c.note.ensures.reader c.note.ensures.deep
