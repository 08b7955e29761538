use Rattle.std.proofs.Common.{arith, sym, ◌∙◌}
use Rattle.std.proofs.lemmas.Result.{err_from_is_err_and}
use Rattle.pc_token.specs.declared.token.TokenKind.TheVariants as kind
use Rattle.pc_token.specs.declared.token.Keyword.TheVariants as word
use Rattle.pc_token.specs.declared.token.Operator.TheVariants as sign
use Rattle.pc_reader.proofs.Steps.{kind_seen}
use Rattle.pc_parse.proofs.AnnotationReads.{opened, no_arguments_yet, argument_fails, close_fails, comma_fails}
use Rattle.pc_parse.proofs.AnnotationReads.{more_arguments, all_arguments, none_part, part_misfits, name_part}
use Rattle.pc_parse.proofs.AnnotationReads.{bracket_fails, applied_part, first_bar_fails, parts_begun, part_fails}
use Rattle.pc_parse.proofs.AnnotationReads.{bar_fails, more_parts, all_parts}
use Rattle.pc_parse.proofs.annotation.+annotations.Goals as goal

pub arguments-returns-then-sees : goal.arguments-returns-then-sees
arguments-returns-then-sees g t c = opened c.no_arguments.new.reader c.in_ok-take.ensures
    (kind_seen (kind.Operator sign.LeftParenthesis) (sym c.sees.ensures ∙ c.if-sees.true) c.in_ok-take.ensures.here)
    c.args.head c.no_arguments.result c.no_arguments.ensures

pub arguments-loop-argument-init : goal.arguments-loop-argument-init
arguments-loop-argument-init g t c = record {
  ready = c.requires;
  later = omega arith;
  arguments = λ ts st. no_arguments_yet c.args.reader.now c.new-arguments.result c.args.head
      (sym c.sees.ensures ∙ c.if-sees.false) c.new-arguments.ensures ts st;
}

pub arguments-returns-in-Err : goal.arguments-returns-in-Err
arguments-returns-in-Err g t c = (argument_fails c.loop-argument.invariant.arguments c.in-Err.ensures.reads)

pub arguments-returns-in_err-close : goal.arguments-returns-in_err-close
arguments-returns-in_err-close g t c = let p = err_from_is_err_and c.from_residual-in_err-close.result
    c.from_residual-in_err-close.ensures.1 in
    rw (p.1, p.2) (close_fails c.loop-argument.invariant.arguments c.in-Ok.ensures.reads
    c.in-Ok.ensures.over (sym c.sees-in-loop-argument.ensures ∙ c.if-not-sees.true)
    c.in_err-close.ensures.taken)

pub arguments-returns-then-not-sees : goal.arguments-returns-then-not-sees
arguments-returns-then-not-sees g t c = all_arguments c.loop-argument.invariant.arguments
    c.in-Ok.ensures.reads c.in_ok-close.ensures.taken c.in_ok-push.ensures c.loop-argument.invariant.later
    c.in_ok-close.ensures.kind c.applied.ensures

pub arguments-returns-in-Err-take : goal.arguments-returns-in-Err-take
arguments-returns-in-Err-take g t c = (comma_fails c.loop-argument.invariant.arguments c.in-Ok.ensures.reads
    c.in-Err-take.ensures)

pub arguments-loop-argument-preserved : goal.arguments-loop-argument-preserved
arguments-loop-argument-preserved g t c = let h = c.in-Ok-take.ensures in let n = c.in-Ok.ensures.reads in
    record {
      ready = h.ready;
      later = omega (arith, h.later, n.later, c.loop-argument.invariant.later);
      arguments = λ ts st. more_arguments c.loop-argument.invariant.arguments n h c.in_ok-push.ensures
          (kind_seen (kind.Operator sign.Comma) (sym c.sees-in-loop-argument.ensures ∙ c.if-not-sees.false) h.here)
          ts st;
    }

pub part-returns-then-sees : goal.part-returns-then-sees
part-returns-then-sees g t c = rw c.single.ensures (none_part c.in_ok-none.ensures
    (kind_seen (kind.Keyword word.None) (sym c.sees.ensures ∙ c.if-sees.true) c.in_ok-none.ensures.here))

pub part-returns-in_err-name : goal.part-returns-in_err-name
part-returns-in_err-name g t c = let p = err_from_is_err_and c.from_residual-in_err-name.result
    c.from_residual-in_err-name.ensures.1 in
    rw (p.1, p.2) (part_misfits g.X.AsStr.text g.I.Iterator.next_gives c.args.reader.now _
    (sym c.sees.ensures ∙ c.if-sees.false) c.in_err-name.ensures)

pub part-returns-then-not-sees : goal.part-returns-then-not-sees
part-returns-then-not-sees g t c = rw c.single-then-not-sees.ensures
    (name_part c.in_ok-name.ensures (sym c.sees-2.ensures ∙ c.if-not-sees.true))

pub part-returns-in_err-take : goal.part-returns-in_err-take
part-returns-in_err-take g t c = let p = err_from_is_err_and c.from_residual-in_err-take.result
    c.from_residual-in_err-take.ensures.1 in
    rw (p.1, p.2) (bracket_fails c.in_ok-name.ensures c.in_err-take.ensures)

pub part-returns : goal.part-returns
part-returns g t c = applied_part c.in_ok-name.ensures c.arguments.new.reader c.in_ok-take.ensures
    (kind_seen (kind.Operator sign.LeftBracket) (sym c.sees-2.ensures ∙ c.if-not-sees.false) c.in_ok-take.ensures.here)
    c.arguments.result c.arguments.ensures

pub union-returns-in_err-take-clause-reads : goal.union-returns-in_err-take-clause-reads
union-returns-in_err-take-clause-reads g t c = let p = err_from_is_err_and c.from_residual-in_err-take.result
    c.from_residual-in_err-take.ensures.1 in
    rw (p.1, p.2) (first_bar_fails c.in_ok-first.ensures c.in_err-take.ensures)

pub union-loop-parts-init : goal.union-loop-parts-init
union-loop-parts-init g t c = let h = c.in_ok-take.ensures in let n = c.in_ok-first.ensures in record {
  ready = h.ready;
  later = omega (arith, h.later, n.later);
  parts = parts_begun n h (kind_seen (kind.Operator sign.Bar) (sym c.sees.ensures ∙ c.if-not-sees.false) h.here)
      c.new-parts.ensures c.in_ok-push.ensures;
}

pub union-returns-in_err-part-clause-reads : goal.union-returns-in_err-part-clause-reads
union-returns-in_err-part-clause-reads g t c = let p = err_from_is_err_and c.from_residual-in_err-part.result
    c.from_residual-in_err-part.ensures.1 in
    rw (p.1, p.2) (part_fails c.loop-parts.invariant.parts c.in_err-part.ensures)

pub union-returns-then-not-sees-2-clause-reads : goal.union-returns-then-not-sees-2-clause-reads
union-returns-then-not-sees-2-clause-reads g t c = all_parts c.loop-parts.invariant.parts c.in_ok-part.ensures
    c.in_ok-push-2.ensures c.loop-parts.invariant.later (sym c.sees-in-loop-parts.ensures ∙ c.if-not-sees-2.true)
    c.united.ensures

pub union-returns-in_err-take-2-clause-reads : goal.union-returns-in_err-take-2-clause-reads
union-returns-in_err-take-2-clause-reads g t c = let p = err_from_is_err_and c.from_residual-in_err-take-2.result
    c.from_residual-in_err-take-2.ensures.1 in
    rw (p.1, p.2) (bar_fails c.loop-parts.invariant.parts c.in_ok-part.ensures c.in_err-take-2.ensures)

pub union-loop-parts-preserved : goal.union-loop-parts-preserved
union-loop-parts-preserved g t c = let h = c.in_ok-take-2.ensures in let n = c.in_ok-part.ensures in record {
  ready = h.ready;
  later = omega (arith, h.later, n.later, c.loop-parts.invariant.later);
  parts = more_parts c.loop-parts.invariant.parts n c.in_ok-push-2.ensures h
      (kind_seen (kind.Operator sign.Bar) (sym c.sees-in-loop-parts.ensures ∙ c.if-not-sees-2.false) h.here);
}
