use Rattle.std.proofs.Common.{◌≡◌, ◌∙◌, ap, arith, get_or, ◌||◌, ◌==◌}
use Rattle.std.specs.Char.{is_ascii_alphabetic}
use Rattle.pc_token.proofs.AsciiHere.{ascii_begins}
use Rattle.pc_token.proofs.name.begins_word.Goals as goal

pub returns-then-byte-lt128 : goal.returns-then-byte-lt128
returns-then-byte-lt128 c =
    let same : c.byte_at-byte.result ≡ get_or c.args.text.now c.args.at 0 = c.byte_at-byte.ensures
    ∙ ap (λ x. get_or x c.args.at 0) c.as_bytes.ensures.value in
    c.is_word_start.ensures ∙ ap (λ b. is_ascii_alphabetic b || b == 95) same
    ∙ ascii_begins c.args.text.now c.args.at c.utf8.text c.requires (omega (arith, same, c.if-byte-lt128.true))
