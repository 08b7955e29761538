use Rattle.std.proofs.Common.{◌≡◌, ◌+◌, Some, ◌∙◌, sym, ap, arith, rules, drop, get_or, chars}
use Rattle.std.specs.Prelude.{slice_get}
use Rattle.pc_token.proofs.Characters.{no_char_here, next_boundary, run_more}
use Rattle.std.specs.List.{prefix_len}
use Rattle.pc_token.specs.Internal.WordBytes.{is_word_byte}
use Rattle.pc_token.proofs.WordBytes.{word_edge, word_run, word_ascii}
use Rattle.pc_token.proofs.AsciiHere.{ascii_ends, word_stops_at}
use Rattle.pc_token.proofs.name.name_end.Goals as goal

pub bytes_from-rest-requires : goal.bytes_from-rest-requires
bytes_from-rest-requires c = omega (arith, c.requires.0, c.as_bytes-bytes.ensures.len)

pub loop-c-init : goal.loop-c-init
loop-c-init c =
    let is = c.ascii_len-len.ensures.len ∙ ap (prefix_len is_word_byte) (c.bytes_from-rest.ensures.value
    ∙ ap (drop c.args.start) c.as_bytes-bytes.ensures.value) in
    record {
      boundary = word_edge c.args.text.now c.args.start c.ascii_len-len.result c.utf8.text c.requires is;
      later = omega arith;
      run = word_run c.args.text.now c.args.start c.ascii_len-len.result c.utf8.text c.requires is;
    }

pub loop-c-smaller : goal.loop-c-smaller
loop-c-smaller c =
    let here : slice_get (chars (drop c.loop-c.end c.args.text.now)) 0 ≡ Some c.in-Some.c = search rules in
    let next = next_boundary c.args.text.now c.loop-c.end c.utf8.text c.loop-c.invariant.boundary c.in-Some.c here in
    let within = next.0 in
    omega (arith, c.len_utf8-end.ensures.lower_bound, c.len_utf8-end.ensures.value)

pub loop-c-preserved : goal.loop-c-preserved
loop-c-preserved c =
    let here : slice_get (chars (drop c.loop-c.end c.args.text.now)) 0 ≡ Some c.in-Some.c = search rules in
    let len = c.len_utf8-end.ensures.value in
    rw len (record {
      boundary = next_boundary c.args.text.now c.loop-c.end c.utf8.text c.loop-c.invariant.boundary c.in-Some.c here;
      later = omega (arith, c.loop-c.invariant.later);
      run = run_more c.args.text.now c.loop-c.end c.utf8.text c.loop-c.invariant.boundary c.args.start c.in-Some.c
          c.loop-c.invariant.later here (search rules) c.loop-c.invariant.run;
    })

pub returns-clause-all : goal.returns-clause-all
returns-clause-all c =
    let none = sym c.char_at.ensures ∙ c.in_default.is in
    rw none (no_char_here c.args.text.now c.loop-c.end c.utf8.text c.loop-c.invariant.boundary none)

pub returns-then-next-lt128 : goal.returns-then-next-lt128
returns-then-next-lt128 c =
    let text = c.args.text.now in
    let start = c.args.start in
    let n = c.ascii_len-len.result in
    let is = c.ascii_len-len.ensures.len ∙ ap (prefix_len is_word_byte) (c.bytes_from-rest.ensures.value
    ∙ ap (drop start) c.as_bytes-bytes.ensures.value) in
    let edge = word_edge text start n c.utf8.text c.requires is in
    let same : c.byte_at-next.result ≡ get_or text (start + n) 0 = c.byte_at-next.ensures
    ∙ ap (λ x. get_or x (start + n) 0) c.as_bytes-bytes.ensures.value in
    record {
      utf8 = c.utf8.text;
      boundary = edge;
      later = omega arith;
      run = word_run text start n c.utf8.text c.requires is;
      all = ascii_ends text (start + n) c.utf8.text edge (omega (arith, same, c.if-next-lt128.true))
          (word_stops_at text start n is);
      ascii = λ _. word_ascii text start n c.utf8.text c.requires is;
    }
