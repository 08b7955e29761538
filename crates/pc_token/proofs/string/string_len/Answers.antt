use Rattle.std.proofs.Common.{◌≡◌, get_or, ◌+◌, true, arith, rules, sym, ◌∙◌}
use Rattle.pc_token.specs.Strings.{is_escape, none}
use Rattle.pc_token.proofs.StringBodies.{body_plain, body_escape, goes_plain, goes_escape, stuck_here, no_string}
use Rattle.pc_token.proofs.StringBodies.{quote_there, escape_there}
use Rattle.pc_token.proofs.string.string_len.Goals as goal
use Rattle.pc_token.proofs.string.string_len.Goals.{else-byte-eq92-via-then-byte-eq92+else-is_escape}
use Rattle.pc_token.proofs.string.string_len.Goals.{else-byte-eq92-via-else-byte-eq92}

pub loop-at-init : goal.loop-at-init
loop-at-init c = record {
  some = omega arith;
  within = quote_there c.args.bytes.now c.requires;
  body = none;
  goes =
      λ h. h;
}

pub loop-at-preserved-then-is_plain : goal.loop-at-preserved-then-is_plain
loop-at-preserved-then-is_plain c =
    let inv = c.loop-at.invariant in
    let plain = sym c.is_plain.ensures ∙ c.if-is_plain.true in
    record {
      some = omega arith;
      within = inv.within;
      body = body_plain c.byte_at-quote.result c.args.bytes.now c.loop-at.at inv.some c.loop-at-test.true plain
          inv.body;
      goes = λ h. goes_plain c.byte_at-quote.result c.args.bytes.now c.loop-at.at c.loop-at-test.true plain
          (inv.goes h);
    }

pub loop-at-preserved : goal.loop-at-preserved
loop-at-preserved c =
    let inv = c.loop-at.invariant in
    let follows : is_escape (get_or c.args.bytes.now (c.loop-at.at + 1) 0) ≡ true = search rules in
    let within = escape_there c.args.bytes.now (c.loop-at.at + 1) follows in
    record {
      some = omega arith;
      within = inv.within;
      body = body_escape c.byte_at-quote.result c.args.bytes.now c.loop-at.at inv.some within c.if-byte-eq92.true
          follows inv.body;
      goes = λ h. goes_escape c.byte_at-quote.result c.args.bytes.now c.loop-at.at
          (rw c.byte_at-quote.ensures c.requires) within c.if-byte-eq92.true (inv.goes h);
    }

pub returns-else-byte-eq92 : goal.returns-else-byte-eq92
returns-else-byte-eq92 c =
    no_string c.byte_at-quote.result c.args.bytes.now c.byte_at-quote.ensures λ h.
    stuck_here c.byte_at-quote.result c.args.bytes.now c.loop-at.at c.loop-at-test.true c.if-byte-quote.false
    (sym c.is_plain.ensures ∙ c.if-is_plain.false)
    (λ back. elim c.else-byte-eq92.branch [
      | else-byte-eq92-via-then-byte-eq92+else-is_escape w ↦ search rules
      | else-byte-eq92-via-else-byte-eq92 w ↦ absurd (w.if-byte-eq92.false back)
    ])
    (c.loop-at.invariant.goes h)
