use Rattle.std.proofs.Common.{length, map, ◌∙◌, [], arith}
use Rattle.std.proofs.lemmas.Result.{err_from_is_err_and}
use Rattle.pc_token.specs.Lexeme.{lexeme_of}
use Rattle.pc_token.specs.Internal.LineReading.{context_of}
use Rattle.pc_token.specs.Splitting.{close_line}
use Rattle.pc_token.proofs.Steps.{whole_on, open_on}
use Rattle.pc_token.proofs.Turns.{gap_leaves, gap_edge, inner_leaves, outer_leaves, blank_leaves, token_leaves}
use Rattle.pc_token.proofs.Turns.{refused_leaves, no_items, some_items, nil_is}
use Rattle.pc_token.proofs.line_lexer.LineLexer.read.Goals as goal

pub returns-in_err-end : goal.returns-in_err-end
returns-in_err-end c =
    let p = err_from_is_err_and c.from_residual.result c.from_residual.ensures.1 in
    rw (p.1, p.2) (refused_leaves c.args.self.now c.loop-self.self c.in_err-end.field-0.0 c.loop-self.invariant.leads
    c.in_err-end.ensures.refused)

pub loop-self-preserved-in-Gap : goal.loop-self-preserved-in-Gap
loop-self-preserved-in-Gap c =
    let inv = c.loop-self.invariant in
    let next = rw c.in-Gap.is at c.in_ok-end.ensures.next in
    let edge = gap_edge (context_of c.loop-self.self) c.loop-self.self.text.now c.in-Gap.end next in
    record {
      text = inv.text;
      boundary = edge.0;
      later = omega (arith, edge.1, inv.later);
      leads = λ items h. inv.leads items (gap_leaves c.loop-self.self c.in-Gap.end edge.0.0 items next h);
    }

pub loop-self-preserved-then-not-is_empty : goal.loop-self-preserved-then-not-is_empty
loop-self-preserved-then-not-is_empty c =
    let inv = c.loop-self.invariant in
    let next = rw c.in-LineEnd.is at c.in_ok-end.ensures.next in
    let some = some_items c.is_empty.result _ (length c.loop-self.self.brackets.items) c.is_empty.ensures
    c.loop-self.self.brackets.ok.0 c.if-not-is_empty.true in
    record {
      text = inv.text;
      boundary = next.boundary;
      later = omega (arith, next.later, inv.later);
      leads = λ items h. inv.leads items (inner_leaves c.loop-self.self c.in-LineEnd.end next.boundary.0 items some next
          h);
    }

pub loop-self-preserved-then-is_empty : goal.loop-self-preserved-then-is_empty
loop-self-preserved-then-is_empty c =
    let inv = c.loop-self.invariant in
    let next = rw c.in-LineEnd.is at c.in_ok-end.ensures.next in
    let none = no_items c.is_empty.result _ (length c.loop-self.self.brackets.items) c.is_empty.ensures
    c.loop-self.self.brackets.ok.0 c.if-not-is_empty.false in
    let empty = no_items c.is_empty-else-not-is_empty.result _ (length c.loop-self.self.tokens.items)
    c.is_empty-else-not-is_empty.ensures c.loop-self.self.tokens.ok.0 c.if-is_empty.true in
    rw c.restart.ensures (record {
      text = inv.text;
      boundary = next.boundary;
      later = omega (arith, next.later, inv.later);
      leads = λ items h. inv.leads items (blank_leaves c.loop-self.self c.in-LineEnd.end next.boundary.0 items none
          empty next h);
    })

pub returns-else-is_empty : goal.returns-else-is_empty
returns-else-is_empty c =
    let inv = c.loop-self.invariant in
    let next = rw c.in-LineEnd.is at c.in_ok-end.ensures.next in
    let none = no_items c.is_empty.result _ (length c.loop-self.self.brackets.items) c.is_empty.ensures
    c.loop-self.self.brackets.ok.0 c.if-not-is_empty.false in
    let some = some_items c.is_empty-else-not-is_empty.result _ (length c.loop-self.self.tokens.items)
    c.is_empty-else-not-is_empty.ensures c.loop-self.self.tokens.ok.0 c.if-is_empty.false in
    record {
      text = inv.text;
      boundary = next.boundary;
      none_open = nil_is c.loop-self.self.brackets.items none;
      later = (omega (arith, next.later, inv.later), omega (arith, c.loop-self.self.tokens.ok.0, some));
      line = λ items h. inv.leads (close_line c.loop-self.self.start (map lexeme_of c.loop-self.self.tokens.items)
          items)
          (outer_leaves c.loop-self.self c.in-LineEnd.end next.boundary.0 items none next h);
    }

pub loop-self-preserved : goal.loop-self-preserved
loop-self-preserved c =
    let inv = c.loop-self.invariant in
    let next = rw c.in-Token.is at c.in_ok-end.ensures.next in
    let takes = c.in_ok-take-in-Token.ensures in
    record {
      text = takes.text ∙ inv.text;
      boundary = rw (takes.text, takes.at) next.piece.boundary;
      later = omega (arith, takes.at, next.piece.later, inv.later);
      leads = λ items h. inv.leads items (token_leaves c.loop-self.self c.take.new.self c.in-Token.found items next
          takes h);
    }

pub returns-then-not-is_empty-2 : goal.returns-then-not-is_empty-2
returns-then-not-is_empty-2 c =
    let inv = c.loop-self.invariant in
    let some = some_items c.is_empty-2.result _ (length c.loop-self.self.brackets.items) c.is_empty-2.ensures
    c.loop-self.self.brackets.ok.0 c.if-not-is_empty-2.true in
    inv.leads _ (open_on (context_of c.loop-self.self) c.loop-self.self.text.now (omega arith) some)

pub returns : goal.returns
returns c =
    let inv = c.loop-self.invariant in
    let none = no_items c.is_empty-2.result _ (length c.loop-self.self.brackets.items) c.is_empty-2.ensures
    c.loop-self.self.brackets.ok.0 c.if-not-is_empty-2.false in
    record {
      text = inv.text;
      boundary = inv.boundary;
      none_open = nil_is c.loop-self.self.brackets.items none;
      later = tt;
      line = inv.leads (close_line c.loop-self.self.start (map lexeme_of c.loop-self.self.tokens.items) [])
          (whole_on (context_of c.loop-self.self) c.loop-self.self.text.now (omega arith)
          (nil_is c.loop-self.self.brackets.items none));
    }
