use Rattle.std.proofs.Common.{arith, ◌<◌, ◌≡◌, length, get_or, ap, sym, ◌∙◌}
use Rattle.std.proofs.lemmas.Str.{IsCharBoundary-after_ascii}
use Rattle.pc_layout.proofs.line_end.line_end.Goals as goal

pub range-requires-clause-end_boundary : goal.range-requires-clause-end_boundary
range-requires-clause-end_boundary c =
    let here : c.line_feed-feed.result < length c.args.text.now = omega (arith, c.as_bytes-bytes.ensures.len) in
    let feed : get_or c.args.text.now c.line_feed-feed.result 0 ≡ 10 =
    ap (λ t. get_or t c.line_feed-feed.result 0) (sym c.as_bytes-bytes.ensures.value)
    ∙ c.line_feed-feed.ensures.found (omega arith) in
    IsCharBoundary-after_ascii c.args.text.now c.line_feed-feed.result c.utf8.text here (omega arith)
